-- What replays of a capture answer.
use Rattle.std.specs.Prelude.{◌≡◌, ◌≤◌, ℕ, List, Result, IfOk, length, map, slice_index_or, All}
use Rattle.edd_commands.specs.Capacity.{fixed}
use Rattle.edd_commands.specs.declared.Command.{Command}
use Rattle.edd_commands.specs.declared.TheConstants.{MAX_COMMANDS}
use Rattle.edd_figures.specs.Misses.{HasMisses, IsLeastLate}
use Rattle.edd_figures.specs.declared.missing.Counts.{Counts}
use Rattle.edd_figures.specs.declared.missing.Crowd.{Crowd}
use Rattle.blk_capture.specs.Counting.{AreInRounds}
use Rattle.blk_capture.specs.Requests.{AreTimed, times_of}
use Rattle.blk_capture.specs.declared.requests.CapturedRequest.{CapturedRequest}
use Rattle.blk_runs.specs.Firsts.{AreUnmade}
use Rattle.blk_schedulers.specs.declared.plans.Plan.{Plan}
use Rattle.blk_schedulers.specs.declared.plans.ReplayBy.{ReplayBy}
use Rattle.blk_schedulers.specs.declared.sched.SchedFault.{SchedFault}
use Rattle.blk_replayed.specs.declared.row.Chooser.TheVariants.{Machine, Replay}
use Rattle.blk_replayed.specs.declared.row.ReplayRow.{ReplayRow}
use Rattle.blk_replay.specs.Requests.{AreRoundCommands}
use Rattle.blk_replayed.specs.Rows.{IsReplayRow}
use Rattle.blk_replayed.specs.Order.{AreBetterFirst}

-- requests that are timed, as their commands, of which so many are late in any order
pub record CanBeReplayed (unavoidable : ℕ) (requests : List CapturedRequest) (commands : List Command) : Type 0 where
  pub timed : AreTimed requests
  pub few : length requests ≤ MAX_COMMANDS
  pub counted : AreRoundCommands requests commands
  pub least : IsLeastLate commands (fixed 1) unavoidable

-- the row of a plan; what is answered for the plan at a place; and a row for each of these plans, in their order
abbrev pub IsPlanRow : ℕ → List CapturedRequest → List Command → Plan → ReplayRow → Type 0
IsPlanRow unavoidable requests commands p r = (r.chooser ≡ Replay p) × IsReplayRow unavoidable requests commands r

abbrev pub AnswersPlanAt : ℕ → List CapturedRequest → List Command → List Plan → ℕ → Result ReplayRow SchedFault → Type 0
AnswersPlanAt unavoidable requests commands plans place answer = (d : Plan) → IfOk answer (IsPlanRow unavoidable requests commands (slice_index_or plans place d))

abbrev pub AreRowsOf : ℕ → List CapturedRequest → List Command → List Plan → List ReplayRow → Type 0
AreRowsOf unavoidable requests commands plans rows = (map (λ r. r.chooser) rows ≡ map Replay plans) × All (IsReplayRow unavoidable requests commands) rows

-- the requests in rounds, how many of them are late in any order, and the windows that prove it; the row of the capture, and those of the plans,
-- the best first
pub record AreReplays (b : ReplayBy) (plans : List Plan) (requests : List CapturedRequest) (captured : ReplayRow) (replayed : List ReplayRow) : Type 0 where
  pub commands : List Command
  pub rounds : List ℕ
  pub counted : AreInRounds (map times_of requests) commands rounds
  pub counts : Counts
  pub windows : List Crowd
  pub missed : HasMisses commands rounds (fixed 1) counts windows
  pub as_it_went : captured.chooser ≡ Machine
  pub is_captured : IsReplayRow counts.unavoidable requests commands captured
  pub in_turn : List ReplayRow
  pub are_rows : AreRowsOf counts.unavoidable requests commands plans in_turn
  pub best_first : AreBetterFirst b in_turn replayed

-- or there are none: the first of the schedulers that isn't made of its settings, or memory ran out
abbrev pub AreUnreplayed : List Plan → SchedFault → Type 0
AreUnreplayed plans f = AreUnmade (map (λ p. p.sched) plans) f
