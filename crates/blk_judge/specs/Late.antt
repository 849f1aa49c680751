-- The late commands of a schedule, and why each is late.
use Rattle.std.specs.Prelude.{ℕ, ◌≡◌, ◌-◌, List, Option, None, Some}
use Rattle.std.specs.List.{zip, filter_map}
use Rattle.edd_commands.specs.declared.Command.{Command}
use Rattle.edd_commands.specs.declared.steps.Step.{Step}
use Rattle.edd_commands.specs.Schedule.{IsLegal}
use Rattle.edd_verdict.specs.declared.Verdict.{Verdict}
use Rattle.edd_verdict.specs.Verdicts.{AreVerdicts}
use Rattle.blk_judge.specs.declared.missing.Miss.{Miss}

-- a command in its round, where it has a verdict
abbrev pub miss_of : (Command × ℕ) × Option Verdict → Option Miss
miss_of (p, None) = None
miss_of (p, Some verdict) = Some (record { command = p.0; round = p.1; lateness = p.1 - p.0.due; verdict = verdict })

-- the commands of a legal schedule that have a verdict, which are the late ones, in their order; no other verdicts are right of them
pub record AreMissed (commands : List Command) (rounds : List ℕ) (steps : List Step) (misses : List Miss) : Type 0 where
  pub legal : IsLegal commands rounds steps
  pub verdicts : List (Option Verdict)
  pub right : AreVerdicts commands rounds steps verdicts
  pub only : (others : List (Option Verdict)) → AreVerdicts commands rounds steps others → others ≡ verdicts
  pub are : misses ≡ filter_map miss_of (zip (zip commands rounds) verdicts)
