use Rattle.std.proofs.Common.{◌∙◌, Bool, Some, None, ap, sym}
use Rattle.std.proofs.lemmas.Bool.{le-leb}
use Rattle.std.specs.Prelude.{if◌then◌else◌}
use Rattle.blk_args.proofs.Listed.{misspelled, spelled}
use Rattle.blk_args.proofs.lists.number_up_to.Goals as goal

pub returns-then-number-most : goal.returns-then-number-most
returns-then-number-most c =
    sym (spelled c.args.most c.args.text.now c.in-Ok.number c.in-Ok.ensures.value.0.0 c.in-Ok.ensures.value.0.1
    ∙ ap (λ (b : Bool). if b then Some c.in-Ok.number else None) (le-leb c.in-Ok.number c.args.most c.if-number-most.true))

pub returns-in-Err : goal.returns-in-Err
returns-in-Err c = sym (misspelled c.args.most c.args.text.now c.in-Err.ensures.value.0)
