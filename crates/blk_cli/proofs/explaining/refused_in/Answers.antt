use Rattle.std.proofs.Common.{refl, subst, [], ◌∷◌}
use Rattle.blk_text.specs.Script.{scripted}
use Rattle.blk_schedulers.specs.declared.rows.SchedKind.TheVariants as sched_kind
use Rattle.blk_schedulers.specs.declared.sched.Sched.{Sched}
use Rattle.blk_runs.specs.Runs.{IsRunFault}
use Rattle.blk_cli.proofs.explaining.refused_in.Goals as goal

abbrev none : Sched
none = record { kind = sched_kind.None; values = 0 ∷ 0 ∷ 0 ∷ 0 ∷ [] }

pub returns-in-Ok : goal.returns-in-Ok
returns-in-Ok c = (scripted c.in_ok-script.script, none, c.in-Ok.field-0, c.in_ok-script.ensures.spells, refl, c.in-Ok.ensures.ran)

pub returns-in-Err-Step : goal.returns-in-Err-Step
returns-in-Err-Step c = (
  scripted c.in_ok-script.script,
  none,
  c.in_ok-script.ensures.spells,
  refl,
  subst (IsRunFault none (scripted c.in_ok-script.script)) c.in-Err-Step.field-0-is c.in-Err-Step.ensures.unrun,
)
