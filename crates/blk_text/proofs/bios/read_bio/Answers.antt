use Rattle.csv.specs.Records.{fields_of}
use Rattle.blk_text.proofs.BioLaws.{bio_of_numbers, no_bio_of_numbers, bio_lacks}
use Rattle.blk_text.proofs.bios.read_bio.Goals as goal

pub returns-in-Err-clause-err : goal.returns-in-Err-clause-err
returns-in-Err-clause-err c = bio_lacks c.args.submitters (fields_of c.args.row.now) c.in-Err.why c.requires.starts (rw c.below-slots.ensures at c.in-Err.ensures.err)

pub returns-in-Ok-new-clause-ok : goal.returns-in-Ok-new-clause-ok
returns-in-Ok-new-clause-ok c =
    bio_of_numbers c.args.submitters c.direction_of.result (fields_of c.args.row.now) c.in-Ok.numbers c.in-Ok-new.bio c.requires.starts (rw c.below-slots.ensures at c.in-Ok.ensures.ok) c.direction_of.ensures c.in-Ok-new.ensures.0 c.in-Ok-new.ensures.1

pub returns-in-Err-new-clause-err : goal.returns-in-Err-new-clause-err
returns-in-Err-new-clause-err c =
    no_bio_of_numbers c.args.submitters c.direction_of.result (fields_of c.args.row.now) c.in-Ok.numbers c.in-Err-new.fault c.requires.starts (rw c.below-slots.ensures at c.in-Ok.ensures.ok) c.direction_of.ensures c.in-Err-new.ensures
