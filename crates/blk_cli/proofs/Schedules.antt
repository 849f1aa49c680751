-- A schedule that was read may be judged.
use Rattle.std.proofs.Common.{◌≡◌, ℕ, List, subst, sym}
use Rattle.std.specs.Prelude.{Option}
use Rattle.edd_check.specs.declared.CheckFault.{CheckFault}
use Rattle.edd_commands.specs.declared.Command.{Command}
use Rattle.edd_commands.specs.declared.steps.Step.{Step}
use Rattle.edd_commands.specs.Capacity.{fixed}
use Rattle.edd_commands.specs.Schedule.{RoundsInRange}
use Rattle.edd_oracle.specs.Input.{IsTaken}
use Rattle.edd_figures.specs.declared.lateness.Figures.{Figures}
use Rattle.edd_figures.specs.declared.missing.Counts.{Counts}
use Rattle.edd_figures.specs.declared.missing.Crowd.{Crowd}
use Rattle.blk_judge.specs.declared.missing.Miss.{Miss}
use Rattle.blk_judge.specs.Judged.{IsRefusedSchedule, IsJudgement}
use Rattle.blk_judge.specs.Late.{AreMissed}
use Rattle.blk_records.specs.Schedule.{ScheduleView, IsScheduleView}

-- the oracle takes its commands, and its rounds are within the limit
pub taken_of : (s : ScheduleView) → IsScheduleView s → (commands : List Command) → commands ≡ s.commands → IsTaken commands
taken_of s r commands e =
    subst IsTaken (sym e) (record { few = r.few; in_range = λ k d h. ((r.commands k d h).1, (r.commands k d h).2); distinct = r.distinct })

pub rounds_of : (s : ScheduleView) → IsScheduleView s → (rounds : List ℕ) → rounds ≡ s.rounds → RoundsInRange rounds
rounds_of s r rounds e = subst RoundsInRange (sym e) r.rounds

module _ (s : ScheduleView) (commands : List Command) (rounds : List ℕ) (steps : List Step) (e : commands ≡ s.commands) (f : rounds ≡ s.rounds) (g : steps ≡ fixed s.depth) where
  -- what holds of lists that are those of the schedule holds of its own
  pub told_of : (P : List Command → List ℕ → List Step → Type 0) → P commands rounds steps → P s.commands s.rounds (fixed s.depth)
  told_of P h = subst (λ (x : List Step). P s.commands s.rounds x) g (subst (λ (x : List ℕ). P s.commands x steps) f (subst (λ (x : List Command). P x rounds steps) e h))

  pub judged_of : (c : Counts) (windows : List Crowd) (o : Option Figures) → IsJudgement commands rounds steps c windows o → IsJudgement s.commands s.rounds (fixed s.depth) c windows o
  judged_of c windows o = told_of (λ cs rs ss. IsJudgement cs rs ss c windows o)

  pub missed_of : (misses : List Miss) → AreMissed commands rounds steps misses → AreMissed s.commands s.rounds (fixed s.depth) misses
  missed_of misses = told_of (λ cs rs ss. AreMissed cs rs ss misses)

  pub refused_as : (fault : CheckFault) → IsRefusedSchedule commands rounds steps fault → IsRefusedSchedule s.commands s.rounds (fixed s.depth) fault
  refused_as fault = told_of (λ cs rs ss. IsRefusedSchedule cs rs ss fault)
