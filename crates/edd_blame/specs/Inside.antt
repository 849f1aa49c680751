-- What private functions and proofs alone need: the cause that a verdict stands for, and counts of what stalled.
use Rattle.std.specs.Prelude.{ℕ, ◌≡◌, ◌<◌, ◌+◌, cond, nat_lt, List, Option, Some, None, map, filter, not, length, sum_by, slice_index}
use Rattle.std.specs.List.{zip, range_with_len}
use Rattle.edd_commands.specs.declared.Command.{Command}
use Rattle.edd_verdict.specs.declared.Verdict.{Verdict}
use Rattle.edd_verdict.specs.declared.Verdict.TheVariants as verdict
use Rattle.edd_blame.specs.Parts.{is_late_at}
use Rattle.edd_blame.specs.Sum.{number_stalled, number_stalled_after}
use Rattle.edd_blame.specs.declared.late.Allowance.{Allowance}
use Rattle.edd_blame.specs.declared.late.Cause.{Cause}
use Rattle.edd_blame.specs.declared.late.Cause.TheVariants as cause

abbrev pub cause_by : Option Verdict → Allowance → Option Cause
cause_by None a = None
cause_by (Some verdict.Arrival) a = cond (nat_lt a.deadline a.release) (Some cause.Arrival) (Some cause.Stall)
cause_by (Some verdict.Spare) a = Some cause.Spare
cause_by (Some (verdict.Full w)) a = Some (cause.Full w)

unfoldable pub causes_by : List (Option Verdict) → List Allowance → List (Option Cause)
causes_by verdicts allowances = map (λ p. cause_by p.0 p.1) (zip verdicts allowances)

-- a count for each number of dispatches, none to all
pub record AreStallCounts (dispatches : List ℕ) (allowances : List Allowance) (counts : List ℕ) : Type 0 where
  pub long : length counts ≡ length dispatches + 1
  pub each : (n : ℕ) → n < length counts → slice_index counts n ≡ number_stalled_after dispatches allowances n
  pub all : sum_by (λ n. n) counts ≡ number_stalled dispatches allowances

-- the places of what is on time, and those of some places that are late
unfoldable pub on_time_places : List Command → List ℕ → List ℕ
on_time_places commands rounds = filter (λ k. not (is_late_at commands rounds k)) (range_with_len 0 (length commands))

unfoldable pub late_places : List Command → List ℕ → List ℕ → List ℕ
late_places commands rounds places = filter (is_late_at commands rounds) places
