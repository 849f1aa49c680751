-- The least time after which the requests of a direction are due, so that few enough of them are late.
use Rattle.std.specs.Prelude.{ℕ, ◌≤◌, ◌<◌, ◌+◌, ◌-◌, ◌*◌, ◌/◌, ◌^◌, List, Bool, true, false, map, min, count_by, if◌then◌else◌, Option, None, Some}
use Rattle.edd_commands.specs.Capacity.{fixed}
use Rattle.edd_commands.specs.declared.Command.{Command}
use Rattle.blk_bio.specs.declared.bio.Dir.{Dir}
use Rattle.blk_capture.specs.Counting.{AreInRounds}
use Rattle.blk_capture.specs.Summaries.{goes}
use Rattle.blk_capture.specs.declared.counting.TimedRequest.{TimedRequest}
use Rattle.blk_capture.specs.declared.record.TheConstants.{MAX_TIME}
use Rattle.blk_capture.specs.declared.requests.CapturedRequest.{CapturedRequest}
use Rattle.edd_blame.specs.Parts.{marked_places, other_places, IsLeastLateAt, IsLeastLateBeside}
use Rattle.blk_blame.specs.declared.tightest.OnTimeTarget.{OnTimeTarget}
use Rattle.blk_blame.specs.declared.tightest.OtherDirection.{OtherDirection}
use Rattle.blk_blame.specs.declared.tightest.OtherDirection.TheVariants.{Best, Any}

-- when a request is due where those of the direction are due `own` after they came in, in place of as they were
abbrev pub due_after : OnTimeTarget → ℕ → CapturedRequest → ℕ
due_after aim own q = if goes q.dir aim.dir then min (q.deadline - aim.expire + own) MAX_TIME else q.deadline

abbrev pub timed_after : OnTimeTarget → ℕ → CapturedRequest → TimedRequest
timed_after aim own q = record { release = q.released; deadline = due_after aim own q; dispatch = q.dispatched }

-- the requests of a direction are marked
abbrev pub marks_of : Dir → List CapturedRequest → List Bool
marks_of d requests = map (λ q. goes q.dir d) requests

-- n of the marked commands are late at least: where as few of the others are as can be, or whatever becomes of these
abbrev pub IsFewestOf : OtherDirection → List Command → List Bool → ℕ → Type 0
IsFewestOf Best commands marks n = IsLeastLateBeside commands (fixed 1) (marked_places marks) (other_places marks) n
IsFewestOf Any commands marks n = IsLeastLateAt commands (fixed 1) (marked_places marks) n

-- n of the direction's requests are late at least, where they are due `own` after they came in
pub record IsFewestAfter (requests : List CapturedRequest) (aim : OnTimeTarget) (others : OtherDirection) (own n : ℕ) : Type 0 where
  pub commands : List Command
  pub rounds : List ℕ
  pub counted : AreInRounds (map (timed_after aim own) requests) commands rounds
  pub fewest : IsFewestOf others commands (marks_of aim.dir requests) n

-- how many of them may be late: what a share in thousandths leaves of so many
abbrev pub allowed : ℕ → ℕ → ℕ
allowed share count = (1000 - share) * count / 1000

abbrev pub allowed_of : List CapturedRequest → OnTimeTarget → ℕ
allowed_of requests aim = allowed aim.share (count_by (λ q. goes q.dir aim.dir) requests)

-- no more than that are, where they are due `own` after they came in
pub record IsLateEnough (requests : List CapturedRequest) (aim : OnTimeTarget) (others : OtherDirection) (own : ℕ) : Type 0 where
  pub late : ℕ
  pub fewest : IsFewestAfter requests aim others own late
  pub few : late ≤ allowed_of requests aim

-- more are
abbrev pub IsTooSoon : List CapturedRequest → OnTimeTarget → OtherDirection → ℕ → Type 0
IsTooSoon requests aim others own = (n : ℕ) → IsFewestAfter requests aim others own n → allowed_of requests aim < n

-- enough are on time where they are due `own` after they came in, and not where they are due any sooner
pub record IsTightest (requests : List CapturedRequest) (aim : OnTimeTarget) (others : OtherDirection) (own : ℕ) : Type 0 where
  pub enough : IsLateEnough requests aim others own
  pub least : (sooner : ℕ) → sooner < own → IsTooSoon requests aim others sooner

-- that time, or that none of 64 bits is late enough
abbrev pub IsTightestOrNone : List CapturedRequest → OnTimeTarget → OtherDirection → Option ℕ → Type 0
IsTightestOrNone requests aim others None = (own : ℕ) → own < 2 ^ 64 → IsTooSoon requests aim others own
IsTightestOrNone requests aim others (Some own) = IsTightest requests aim others own

-- what private functions and proofs alone need: some number that is too many is known, and which of both holds
pub record IsShort (requests : List CapturedRequest) (aim : OnTimeTarget) (others : OtherDirection) (own : ℕ) : Type 0 where
  pub late : ℕ
  pub fewest : IsFewestAfter requests aim others own late
  pub many : allowed_of requests aim < late

abbrev pub IsLateEnoughOrShort : List CapturedRequest → OnTimeTarget → OtherDirection → ℕ → Bool → Type 0
IsLateEnoughOrShort requests aim others own true = IsLateEnough requests aim others own
IsLateEnoughOrShort requests aim others own false = IsShort requests aim others own
