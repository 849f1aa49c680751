use Rattle.std.proofs.Common.{◌≡◌, ◌∙◌, sym, subst}
use Rattle.blk_text.specs.declared.script.Line.{Line}
use Rattle.std.specs.Prelude.{List, length}
use Rattle.blk_arrivals.specs.Brought.{arriving_bios, brought_by}
use Rattle.blk_arrivals.specs.Coming.{submitters_of}
use Rattle.blk_arrivals.specs.Scripts.{steps_of}
use Rattle.blk_arrivals.specs.Staged.{KeepPlugs, no_bios}
use Rattle.blk_arrivals.proofs.Bringing.{script_brings, same_steps}
use Rattle.blk_arrivals.proofs.Staging.{script_keeps}
use Rattle.blk_arrivals.proofs.script.script_of.Goals as goal
use Rattle.blk_arrivals.proofs.script.script_of.Goals.{After-drop-found-in-Ok-steps_of}

-- they are those of the capture
same : (c : After-drop-found-in-Ok-steps_of) → c.in-Ok-steps_of.lines.items ≡ steps_of c.args.terms.now c.args.records.now
same c =
    let found = rw c.in-Ok-Some.field-0-is at c.in-Ok-Some.ensures in
    same_steps c.args.terms.now c.args.records.now c.in-Ok-Some.submitters.told c.as_slice.result.now c.in-Ok-steps_of.lines.items found.0 (c.as_slice.ensures.value ∙ found.1)
    c.in-Ok-steps_of.ensures.ok

pub returns-in-Ok-steps_of-clause-bios : goal.returns-in-Ok-steps_of-clause-bios
returns-in-Ok-steps_of-clause-bios c =
    subst (λ (lines : List Line). brought_by 0 lines ≡ arriving_bios c.args.terms.now c.args.records.now) (sym (same c)) (script_brings c.args.terms.now c.args.records.now c.in-Ok.ensures.kept.0 c.requires)

pub returns-in-Ok-steps_of-clause-plugs : goal.returns-in-Ok-steps_of-clause-plugs
returns-in-Ok-steps_of-clause-plugs c =
    subst (λ (lines : List Line). KeepPlugs (no_bios (length (submitters_of c.args.records.now))) lines) (sym (same c)) (script_keeps c.args.terms.now c.args.records.now)
