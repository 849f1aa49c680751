use Rattle.std.proofs.Common.{rules, ◌≡◌}
use Rattle.csv.specs.Records.{fields_of}
use Rattle.blk_records.specs.Certificate.{no_bound_row}
use Rattle.blk_records.proofs.ClaimLaws.{bound_lacks}
use Rattle.blk_records.proofs.certificate.bound_of.Goals as goal

pub returns-in-Err-clause-err : goal.returns-in-Err-clause-err
returns-in-Err-clause-err c =
    let given : ¬ ((c.args.count ≡ 0) × (fields_of c.args.row.now ≡ no_bound_row)) = search rules in
    bound_lacks c.args.count (fields_of c.args.row.now) c.in-Err.why c.requires given (rw c.bound_slots-slots.ensures at c.in-Err.ensures.err)
