-- Replays under a policy that goes by due rounds.
use Rattle.std.specs.Prelude.{ℕ, ℤ, ◌≡◌, ◌≤◌, Bool, true, false, List, length, Option, Some}
use Rattle.std.specs.FinMap.{get}
use Rattle.edd_commands.specs.declared.Command.{Command}
use Rattle.edd_commands.specs.declared.TheConstants.{MAX_COMMANDS}
use Rattle.edd_commands.specs.Capacity.{fixed}
use Rattle.edd_commands.specs.Schedule.{IsLegal, IsGreatestLateness, IsLeastLateness}
use Rattle.edd_check.specs.OnTime.{number_on_time, IsMostOnTime}
use Rattle.blk_bio.specs.declared.bio.Dir.{Dir}
use Rattle.blk_capture.specs.Requests.{AreTimed}
use Rattle.blk_capture.specs.declared.requests.CapturedRequest.{CapturedRequest}
use Rattle.blk_sched.specs.Meaning.{Waiting, Meaning}
use Rattle.blk_sched.specs.Policies.{Policy}
use Rattle.blk_replay.specs.declared.requests.DueBy.TheVariants.{Deadline}
use Rattle.blk_replay.specs.Replay.{Standing}
use Rattle.blk_replay.specs.Requests.{AreRoundCommands, IsReplayOf}

-- the one goes where the other waits: it is due no later; with `late_last` so where the other can still be on time, and then it can as well
abbrev pub GoesFirst : Bool → ℕ → Waiting → Waiting → Type 0
GoesFirst false now w v = w.due ≤ v.due
GoesFirst true now w v = now ≤ v.due → (now ≤ w.due) × (w.due ≤ v.due)

-- a policy that so chooses of all that waits while it keeps this, which it does
pub record GoesByDue (late_last : Bool) (policy : Policy) (kept : List ℕ) : Type 0 where
  pub first : (m : Meaning) (hw now id : ℕ) (w v : Waiting) (after : List ℕ) → policy.chooses kept m hw now (Some w) after → get m.pending id ≡ Some v → GoesFirst late_last now w v
  pub picked : (m : Meaning) (hw now : ℕ) (w : Option Waiting) (after : List ℕ) → policy.chooses kept m hw now w after → after ≡ kept
  pub done : (hw : ℕ) (dir : Dir) (wait : ℕ) (after : List ℕ) → policy.told_done hw dir wait kept after → after ≡ kept
  pub ticked : (now : ℕ) (after : List ℕ) → policy.told_tick now kept after → after ≡ kept

-- no order of the same commands, one a round, has a smaller greatest lateness; with `late_last` none has more on time
abbrev pub IsBestOrder : Bool → List Command → List ℕ → Type 0
IsBestOrder false commands rounds = (late : ℤ) → IsGreatestLateness commands rounds late → IsLeastLateness commands (fixed 1) late
IsBestOrder true commands rounds = IsMostOnTime commands (fixed 1) (number_on_time commands rounds)

-- such a policy's replays of requests that are due by their deadlines are in such an order
abbrev pub ReplaysBest : Policy → Type 0
ReplaysBest policy =
    (late_last : Bool) (start : Standing) (requests : List CapturedRequest) (commands : List Command) (rounds : List ℕ)
    → GoesByDue late_last policy start.kept → AreTimed requests → length requests ≤ MAX_COMMANDS → AreRoundCommands requests commands
    → IsReplayOf policy start requests commands Deadline rounds → IsLegal commands rounds (fixed 1) → IsBestOrder late_last commands rounds
