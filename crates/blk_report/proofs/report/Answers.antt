use Rattle.std.proofs.Common.{◌∙◌, ℕ, List, subst, sym}
use Rattle.edd_commands.specs.Schedule.{RoundsInRange}
use Rattle.blk_report.proofs.Within.{rounds_in}
use Rattle.blk_report.proofs.report.Goals as goal

pub figures_of-requires-clause-rounds_in : goal.figures_of-requires-clause-rounds_in
figures_of-requires-clause-rounds_in g c =
    subst (λ (x : List ℕ). RoundsInRange x) (sym (c.as_slice-2.ensures.value ∙ c.in_ok-rounds.ensures.rounds)) (rounds_in _ _ c.in_ok-rounds.ensures.bounded)
