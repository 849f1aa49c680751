-- Which step of a script is refused, and for what.
use Rattle.std.specs.Prelude.{◌∷◌, ◌≡◌, ◌≢◌, ◌+◌, ◌<◌, ◌⊎◌, ◌++◌, ℕ, List, Option, Some, None, length, take, slice_get}
use Rattle.blk_bio.specs.Bios.{Bio}
use Rattle.blk_queues.specs.Plugs.{Plug}
use Rattle.blk_queues.specs.Answers.{IsPlugFault}
use Rattle.blk_queues.specs.declared.plug.PlugFault.{PlugFault}
use Rattle.blk_queues.specs.Queues.{Queue}
use Rattle.blk_sched.specs.Meaning.{Meaning}
use Rattle.blk_trace.specs.Depths.{depth_now}
use Rattle.blk_core.specs.State.{CoreState}
use Rattle.blk_core.specs.Faults.{IsReleaseFault, IsIssueFault, IsBackFault, IsTickFault, IsDepthFault, IsInFlight}
use Rattle.blk_core.specs.declared.refusals.CoreFault.{CoreFault}
use Rattle.blk_core.specs.declared.refusals.IssueFault.{IssueFault}
use Rattle.blk_core.specs.declared.refusals.IssueFault.TheVariants as issue
use Rattle.blk_core.specs.declared.refusals.BackFault.{BackFault}
use Rattle.blk_core.specs.declared.refusals.DepthFault.{DepthFault}
use Rattle.blk_core.specs.declared.refusals.TickFault.{TickFault}
use Rattle.blk_text.specs.Script.{Scripted}
use Rattle.blk_text.specs.declared.script.Line.{Line}
use Rattle.blk_text.specs.declared.script.Line.TheVariants as line
use Rattle.blk_sim.specs.declared.refusal.Overflow.{Overflow}
use Rattle.blk_sim.specs.declared.refusal.SimFault.{SimFault}
use Rattle.blk_sim.specs.declared.refusal.SimReason.{SimReason}
use Rattle.blk_sim.specs.declared.refusal.SimReason.TheVariants as why
use Rattle.blk_sim.specs.declared.simulation.TheConstants.{FIRST_STEP, SETUP_RECORD}
use Rattle.blk_sim.specs.State.{SimState, start_of}
use Rattle.blk_sim.specs.Moves.{EnterInTurn, DrainInTurn, DrainsAll, served_requests}
use Rattle.blk_sim.specs.Rounds.{queue_asked, GiveNothing, IssueInTurn, IssuesAll, CompleteInTurn, Rounds}
use Rattle.blk_sched.specs.Policies.{Policy}
use Rattle.blk_sim.specs.Runs.{Runs}

-- a plug refuses a bio
abbrev pub IsAddRefused : Plug → Bio → SimReason → Type 0
IsAddRefused plug bio w = (fault : PlugFault) × IsPlugFault plug bio fault × (w ≡ why.Plug fault)

-- a software queue has no room for all requests of a plug
abbrev pub IsOverfull : Queue → Plug → Type 0
IsOverfull queue plug = queue.depth < length queue.requests + length plug.requests

-- what the queue holds and the plug brings then, and the queue's room
abbrev pub overflow_of : Queue → Plug → Overflow
overflow_of queue plug = record { holds = length queue.requests; brings = length plug.requests; room = queue.depth }

-- the core refuses a request, an issue, a Back, a Depth and a tick
abbrev pub IsReleaseRefused : CoreState → List Bio → ℕ → SimReason → Type 0
IsReleaseRefused core bios hw w = (fault : CoreFault) × IsReleaseFault core bios hw fault × (w ≡ why.Release fault)

abbrev pub IsIssueRefused : CoreState → ℕ → ℕ → SimReason → Type 0
IsIssueRefused core hw tag w = (fault : IssueFault) × IsIssueFault core hw tag fault × (w ≡ why.Issue fault)

abbrev pub IsBackRefused : CoreState → ℕ → SimReason → Type 0
IsBackRefused core tag w = (fault : BackFault) × IsBackFault core tag fault × (w ≡ why.Back fault)

abbrev pub IsDepthRefused : CoreState → ℕ → SimReason → Type 0
IsDepthRefused core n w = (fault : DepthFault) × IsDepthFault core n fault × (w ≡ why.Depth fault)

abbrev pub IsTickRefused : CoreState → SimReason → Type 0
IsTickRefused core w = (fault : TickFault) × IsTickFault core fault × (w ≡ why.Tick fault)

-- the plug of the bio's submitter refuses it
abbrev pub IsBioRefused : List Plug → Bio → SimReason → Type 0
IsBioRefused plugs b w = (own : Plug) × (slice_get plugs b.id.submitter ≡ Some own) × IsAddRefused own b w

-- the software queue of the submitter has no room for its plug
abbrev pub IsFlushRefused : List Plug → List Queue → ℕ → SimReason → Type 0
IsFlushRefused plugs queues s w =
    (own : Plug) × (to : Queue) × (slice_get plugs s ≡ Some own) × (slice_get queues s ≡ Some to) × (w ≡ why.SoftFull (overflow_of to own)) × IsOverfull to own

-- of requests that enter one after the other the core refuses one, those before it having entered
pub record IsMoveRefused (policy : Policy) (requests : List (List Bio)) (core : CoreState) (hw : ℕ) (w : SimReason) : Type 0 where
  pub before : List (List Bio)
  pub bios : List Bio
  pub after : List (List Bio)
  pub place : requests ≡ before ++ bios ∷ after
  pub middle : CoreState
  pub entered : EnterInTurn policy hw before core middle
  pub refused : IsReleaseRefused middle bios hw w

-- of the requests of the software queues that a hardware queue of `count` serves the core refuses one
abbrev pub IsDrainRefused : Policy → ℕ → ℕ → List Queue → CoreState → SimReason → Type 0
IsDrainRefused policy count hw queues core w = IsMoveRefused policy (served_requests queues count hw (length queues)) core hw w

-- the hardware queues below one of `count` were drained in turn, and its own drain is refused
pub record IsDrainInTurnRefused (policy : Policy) (count : ℕ) (queues : List Queue) (core : CoreState) (w : SimReason) : Type 0 where
  pub hw : ℕ
  pub below : hw < count
  pub between : List Queue
  pub middle : CoreState
  pub drained : DrainInTurn policy count hw queues core between middle
  pub refused : IsDrainRefused policy count hw between middle w

-- of the hardware queues that are asked for a tag the first gave nothing, and the issue of the next one is refused, for
-- another reason than that the tag was issued in the round
pub record IsAskRefused (policy : Policy) (tag : ℕ) (core : CoreState) (w : SimReason) : Type 0 where
  pub place : ℕ
  pub below : place < core.setup.hw
  pub nothing : GiveNothing policy tag place core
  pub another : w ≢ why.Issue issue.SlotUsed
  pub refused : IsIssueRefused core (queue_asked core.setup.hw tag place) tag w

-- the tags below one were done with, and its own is refused
pub record IsIssueInTurnRefused (policy : Policy) (core : CoreState) (w : SimReason) : Type 0 where
  pub tag : ℕ
  pub below : tag < depth_now core.setup core.events
  pub middle : CoreState
  pub issued : IssueInTurn policy tag core middle
  pub refused : IsAskRefused policy tag middle w

-- all was issued and completed, and the tick is refused
pub record IsEndRefused (policy : Policy) (core : CoreState) (w : SimReason) : Type 0 where
  pub busy : CoreState
  pub idle : CoreState
  pub issues : IssuesAll policy core busy
  pub completes : CompleteInTurn policy busy.setup.depth busy idle
  pub refused : IsTickRefused idle w

-- what a round does once the hardware queues are drained is refused
abbrev pub IsWorkRefused : Policy → CoreState → SimReason → Type 0
IsWorkRefused policy core w = IsIssueInTurnRefused policy core w ⊎ IsEndRefused policy core w

-- a round is refused in its drains, or after them
abbrev pub IsRoundRefused : Policy → List Queue → CoreState → SimReason → Type 0
IsRoundRefused policy queues core w =
    IsDrainInTurnRefused policy core.setup.hw queues core w
    ⊎ ((between : List Queue) × (middle : CoreState) × DrainsAll policy queues core between middle
    × IsWorkRefused policy middle w)

-- of n rounds some passed, and the next is refused
pub record IsRunRefused (policy : Policy) (count : ℕ) (queues : List Queue) (core : CoreState) (w : SimReason) : Type 0 where
  pub rounds : ℕ
  pub few : rounds < count
  pub between : List Queue
  pub middle : CoreState
  pub passed : Rounds policy rounds queues core between middle
  pub refused : IsRoundRefused policy between middle w

-- why a step is refused in a simulation
abbrev pub IsStepRefused : Policy → SimState → Line → SimReason → Type 0
IsStepRefused policy state (line.Bio b) w = IsBioRefused state.plugs b w
IsStepRefused policy state (line.Flush s) w = IsFlushRefused state.plugs state.queues s w
IsStepRefused policy state (line.Drain hw) w = IsDrainRefused policy state.core.setup.hw hw state.queues state.core w
IsStepRefused policy state (line.Issue hw tag) w = IsIssueRefused state.core hw tag w
IsStepRefused policy state (line.Done tag) w = (w ≡ why.NotIssued) × (IsInFlight state.core tag → ⊥)
IsStepRefused policy state (line.Back tag) w = IsBackRefused state.core tag w
IsStepRefused policy state (line.Depth n) w = IsDepthRefused state.core n w
IsStepRefused policy state line.Tick w = IsTickRefused state.core w
IsStepRefused policy state (line.Run n) w = IsRunRefused policy n state.queues state.core w

-- the steps before a place are accepted, one after the other from the script's start, and the step at the place is refused
-- in the simulation that they lead to
pub record IsRefusedAt (policy : Policy) (script : Scripted) (meaning : Meaning) (kept : List ℕ) (place : ℕ) (w : SimReason) : Type 0 where
  pub state : SimState
  pub step : Line
  pub at : slice_get script.lines place ≡ Some step
  pub runs : Runs policy (take place script.lines) (start_of script meaning kept) state
  pub refused : IsStepRefused policy state step w

-- the fault stands at the record of the step that is refused, after those before it, for its reason, or, out of
-- memory before the first step, at that of the setup
abbrev pub IsSimFault : Policy → Scripted → Meaning → List ℕ → SimFault → Type 0
IsSimFault policy script meaning kept fault =
    ((fault.at ≡ SETUP_RECORD) × (fault.why ≡ why.Memory))
    ⊎ ((place : ℕ) × (fault.at ≡ place + FIRST_STEP) × IsRefusedAt policy script meaning kept place fault.why)
