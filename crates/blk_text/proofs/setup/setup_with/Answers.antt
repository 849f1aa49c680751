use Rattle.std.proofs.Common.{◌≡◌, refl, codes}
use Rattle.csv.specs.Records.{fields_of}
use Rattle.blk_text.specs.SetupRecord.{setup_cells, FitsSetup}
use Rattle.blk_records.specs.declared.fault.TextReason.TheVariants as why
use Rattle.blk_records.proofs.TableLaws.{word_line}
use Rattle.blk_text.proofs.ScriptLaws.{setup_with, setup_fits}
use Rattle.blk_text.proofs.setup.setup_with.Goals as goal

pub returns : goal.returns
returns c =
    let ns = c.args.numbers.now in
    let limits = c.in-Ok.ensures.0 in
    let is : c.in-Ok-new.setup ≡ setup_with c.args.depth c.args.hw ns = rw limits at c.in-Ok-new.ensures.0 in
    let fits = setup_fits c.args.depth c.args.hw ns c.in-Ok.limits c.in-Ok-new.setup limits is c.in-Ok-new.ensures.1 c.in-Ok.ensures.1 in
    rw is (word_line why.Word (codes "setup") setup_cells (FitsSetup c.args.depth c.args.hw) (setup_with c.args.depth c.args.hw ns) (fields_of c.args.row.now) ns c.requires.starts c.requires.spells
    (refl, (refl, (refl, (refl, (tt, tt))))) (λ f. fits))
