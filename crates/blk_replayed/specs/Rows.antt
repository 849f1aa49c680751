-- What comes of the requests of a capture, as they went and in replays.
use Rattle.std.specs.Prelude.{◌≡◌, ◌+◌, ℕ, Bool, true, List, length, map}
use Rattle.edd_commands.specs.declared.Command.{Command}
use Rattle.edd_commands.specs.Capacity.{fixed}
use Rattle.edd_commands.specs.Schedule.{IsLegal}
use Rattle.edd_figures.specs.Misses.{number_late}
use Rattle.blk_sched.specs.Policies.{Policy}
use Rattle.blk_capture.specs.Counting.{AreInRounds}
use Rattle.blk_capture.specs.Requests.{times_of}
use Rattle.blk_capture.specs.declared.requests.CapturedRequest.{CapturedRequest}
use Rattle.blk_schedulers.specs.Made.{IsMade}
use Rattle.blk_schedulers.specs.Rows.Earliest.{is_late_last}
use Rattle.blk_schedulers.specs.Scheds.{policy_of, first_meaning, numbers_at_first}
use Rattle.blk_schedulers.specs.declared.plans.FifoExpire.{FifoExpire}
use Rattle.blk_schedulers.specs.declared.plans.Plan.{Plan}
use Rattle.blk_schedulers.specs.declared.rows.SchedKind.{SchedKind}
use Rattle.blk_schedulers.specs.declared.rows.SchedKind.TheVariants as kind
use Rattle.blk_schedulers.specs.declared.sched.Sched.{Sched}
use Rattle.blk_replay.specs.Replay.{Standing, standing}
use Rattle.blk_replay.specs.Requests.{AreLateByTheClock, IsReplayOf}
use Rattle.blk_replay.specs.DueFirst.{IsBestOrder}
use Rattle.blk_replay.specs.Figures.{AreClockFigures}
use Rattle.blk_replay.specs.declared.requests.DueBy.{DueBy}
use Rattle.blk_replay.specs.declared.requests.DueBy.TheVariants.{Deadline, Fifo}
use Rattle.blk_replayed.specs.declared.row.Chooser.{Chooser}
use Rattle.blk_replayed.specs.declared.row.Chooser.TheVariants.{Machine, Replay}
use Rattle.blk_replayed.specs.declared.row.ReplayRow.{ReplayRow}

-- by what requests are due in a scheduler of a kind: earliest goes by the deadlines by which they are late, the others by FIFO lists
abbrev pub due_by : SchedKind → FifoExpire → DueBy
due_by kind.Earliest f = Deadline
due_by kind.None f = Fifo f.read f.write
due_by kind.Deadline f = Fifo f.read f.write
due_by kind.Kyber f = Fifo f.read f.write

-- a scheduler of some settings before it has any request, for a device that takes one at once
abbrev pub sched_start : Sched → Standing
sched_start s = standing (first_meaning s) (numbers_at_first s 1)

-- it is made of its settings, and serves the requests by a policy, from its start on, in these rounds; and by its own policy, as planned
abbrev pub IsReplayedBy : Policy → Sched → DueBy → List CapturedRequest → List Command → List ℕ → Type 0
IsReplayedBy policy s by requests commands rounds = IsMade s × IsReplayOf policy (sched_start s) requests commands by rounds

abbrev pub IsReplayed : Plan → List CapturedRequest → List Command → List ℕ → Type 0
IsReplayed p requests commands rounds = IsReplayedBy (policy_of p.sched) p.sched (due_by p.sched.kind p.fifo) requests commands rounds

-- the rounds of requests in the order that somebody chose
abbrev pub AreRoundsBy : Chooser → List CapturedRequest → List Command → List ℕ → Type 0
AreRoundsBy Machine requests commands rounds = AreInRounds (map times_of requests) commands rounds
AreRoundsBy (Replay p) requests commands rounds = IsReplayed p requests commands rounds

-- earliest chose the order, with this setting
abbrev pub IsOfEarliest : Bool → Chooser → Type 0
IsOfEarliest late_last Machine = ⊥
IsOfEarliest late_last (Replay p) = (p.sched.kind ≡ kind.Earliest) × (is_late_last p.sched.values ≡ late_last)

-- then no order of the same dispatches has a smaller greatest lateness; with `late_last` none has more on time
pub record IsBestUnderEarliest (chooser : Chooser) (commands : List Command) (rounds : List ℕ) : Type 0 where
  pub best : (late_last : Bool) → IsOfEarliest late_last chooser → IsBestOrder late_last commands rounds

-- the numbers of requests in these rounds, where so many are late in any order
pub record IsReplayRowIn (chooser : Chooser) (unavoidable : ℕ) (requests : List CapturedRequest) (commands : List Command) (rounds : List ℕ) (r : ReplayRow) : Type 0 where
  pub chosen : r.chooser ≡ chooser
  pub count : r.requests ≡ length requests
  pub late : r.late ≡ number_late commands rounds
  pub least : r.unavoidable ≡ unavoidable
  pub rest : r.unavoidable + r.avoidable ≡ r.late
  pub both : r.clock.late_reads + r.clock.late_writes ≡ r.late
  pub by_clock : AreClockFigures requests rounds r.clock

-- the row of requests in the order that its chooser chose: legal, one a round, each late in rounds just where it is by the clock, and with none
-- that is avoidable where earliest chose it with `late_last`
pub record IsReplayRow (unavoidable : ℕ) (requests : List CapturedRequest) (commands : List Command) (r : ReplayRow) : Type 0 where
  pub rounds : List ℕ
  pub chosen : AreRoundsBy r.chooser requests commands rounds
  pub legal : IsLegal commands rounds (fixed 1)
  pub alike : AreLateByTheClock requests commands rounds
  pub numbers : IsReplayRowIn r.chooser unavoidable requests commands rounds r
  pub best : IsBestUnderEarliest r.chooser commands rounds
  pub none_avoidable : IsOfEarliest true r.chooser → r.avoidable ≡ 0
