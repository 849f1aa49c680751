-- What a round of a script's `run` does.
use Rattle.std.specs.Prelude.{◌≡◌, ◌+◌, ◌<◌, ◌≤◌, ◌%◌, ◌⊎◌, ℕ, zero, suc, List, Option, Some, None}
use Rattle.edd_commands.specs.declared.Command.{Command}
use Rattle.blk_queues.specs.Queues.{Queue}
use Rattle.blk_trace.specs.Depths.{depth_now}
use Rattle.blk_trace.specs.Events.{IsUsed}
use Rattle.blk_core.specs.State.{CoreState}
use Rattle.blk_core.specs.Calls.{Issues, Completes, Ends}
use Rattle.blk_core.specs.Faults.{CanIssue, CanTick, IsInFlight}
use Rattle.blk_sched.specs.Policies.{Policy}
use Rattle.blk_sim.specs.Moves.{DrainsAll}

-- a hardware queue is asked for a command under a tag, which it gives or not
abbrev pub AsksQueue : Policy → ℕ → ℕ → CoreState → Option Command → CoreState → Type 0
AsksQueue policy hw tag old found new = CanIssue old hw tag × Issues policy.serves policy.chooses old hw tag found new

-- a round ends, and the scheduler hears of the new one
abbrev pub Ticks : Policy → CoreState → CoreState → Type 0
Ticks policy old new = CanTick old × Ends policy.told_tick old new

-- of `count` hardware queues the one that is asked for a tag after `k` others: the first is the tag modulo their number, and behind the
-- last comes queue 0
abbrev pub queue_asked : ℕ → ℕ → ℕ → ℕ
queue_asked count tag k = ((tag % count) + k) % count

-- the first n hardware queues that are asked for a tag give nothing
abbrev pub GiveNothing : Policy → ℕ → ℕ → CoreState → Type 0
GiveNothing policy tag n core = (k : ℕ) → k < n → AsksQueue policy (queue_asked core.setup.hw tag k) tag core None core

-- of the hardware queues that are asked for a tag the first that gives a command gave this one
pub record GivesCommand (policy : Policy) (tag : ℕ) (old new : CoreState) : Type 0 where
  pub place : ℕ
  pub below : place < old.setup.hw
  pub nothing : GiveNothing policy tag place old
  pub command : Command
  pub gave : AsksQueue policy (queue_asked old.setup.hw tag place) tag old (Some command) new

-- the tags below n in turn: one that was issued in this round already is passed over, and each other one gets a command
unfoldable pub IssueInTurn : Policy → ℕ → CoreState → CoreState → Type 0
IssueInTurn policy zero old new = new ≡ old
IssueInTurn policy (suc tag) old new =
    (middle : CoreState) × IssueInTurn policy tag old middle × ((IsUsed middle.events tag × (new ≡ middle)) ⊎ GivesCommand policy tag middle new)

-- all tags below the depth of the round in turn, up to the first for which no hardware queue gives a command
pub record IssuesAll (policy : Policy) (old new : CoreState) : Type 0 where
  pub tags : ℕ
  pub few : tags ≤ depth_now old.setup old.events
  pub issued : IssueInTurn policy tags old new
  pub ended : (tags ≡ depth_now old.setup old.events) ⊎ GiveNothing policy tags new.setup.hw new

-- of the tags below n those in flight are completed, in turn
unfoldable pub CompleteInTurn : Policy → ℕ → CoreState → CoreState → Type 0
CompleteInTurn policy zero old new = new ≡ old
CompleteInTurn policy (suc tag) old new =
    (middle : CoreState) × CompleteInTurn policy tag old middle × (Completes policy.told_done middle tag new ⊎ ((IsInFlight middle tag → ⊥) × (new ≡ middle)))

-- what a round does once the hardware queues are drained: what can be issued is issued and completed, and the round ends
pub record Works (policy : Policy) (old new : CoreState) : Type 0 where
  pub busy : CoreState
  pub idle : CoreState
  pub issues : IssuesAll policy old busy
  pub completes : CompleteInTurn policy busy.setup.depth busy idle
  pub ticks : Ticks policy idle new

-- one round: the hardware queues are drained in turn, and the core works
pub record Round (policy : Policy) (queues : List Queue) (core : CoreState) (new_queues : List Queue) (new_core : CoreState) : Type 0 where
  pub filled : CoreState
  pub drains : DrainsAll policy queues core new_queues filled
  pub works : Works policy filled new_core

-- n rounds
unfoldable pub Rounds : Policy → ℕ → List Queue → CoreState → List Queue → CoreState → Type 0
Rounds policy zero queues core new_queues new_core = (new_queues ≡ queues) × (new_core ≡ core)
Rounds policy (suc n) queues core new_queues new_core =
    (between : List Queue) × (middle : CoreState) × Rounds policy n queues core between middle × Round policy between middle new_queues new_core
