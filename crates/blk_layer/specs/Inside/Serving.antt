-- How a worker ends commands and is issued the next ones.
use Rattle.std.specs.Prelude.{◌≡◌, ◌⊎◌, ◌+◌, ◌++◌, ◌∷◌, ℕ, Option, None, Some, List, [], drop, length}
use Rattle.blk_core.specs.State.{CoreState}
use Rattle.blk_sched.specs.Policies.{Policy}
use Rattle.blk_core.specs.Calls.{Issues}
use Rattle.blk_layer.specs.Serving.{AccountsFor, LetsGo, RunsMore, TakesAll}
use Rattle.blk_core.specs.declared.refusals.CoreFault.{CoreFault}
use Rattle.blk_layer.specs.declared.serving.WorkFault.{WorkFault}
use Rattle.blk_layer.specs.declared.serving.WorkFault.TheVariants.{TraceFull, Memory, Repeated}
use Rattle.blk_layer.specs.Seats.{WorkerSeat}
use Rattle.blk_layer.specs.declared.serving.Ran.{Ran}
use Rattle.blk_layer.specs.declared.serving.Ran.TheVariants.{Done, Busy}
use Rattle.blk_layer.specs.declared.serving.Issued.{Issued}
use Rattle.blk_core.specs.declared.refusals.CoreFault.TheVariants as core

-- a command is issued for a hardware queue, under the tag that comes with it
abbrev pub IssuesTo : Policy → CoreState → ℕ → Issued → CoreState → Type 0
IssuesTo policy old hw issued new = Issues policy.serves policy.chooses old hw issued.tag (Some issued.command) new

-- the command in the hands of a worker under a tag was ended as the device answered: it is done where the device ran it, and requeued
-- where that was busy
abbrev pub IsEndedAs : Ran → WorkerSeat → ℕ → WorkerSeat → Type 0
IsEndedAs Done old tag new = AccountsFor old tag new
IsEndedAs Busy old tag new = (id : ℕ) × LetsGo old tag id new

-- the first command of a batch was ended so, and the others are left
pub record EndsFirst (ran : Ran) (batch : List ℕ) (old : WorkerSeat) (left : List ℕ) (new : WorkerSeat) : Type 0 where
  pub tag : ℕ
  pub first : batch ≡ tag ∷ left
  pub ended : IsEndedAs ran old tag new

-- what a worker ran since it had a seat, and the tags of the commands that it has in its hands since
pub record IsServing (start : WorkerSeat) (batch : List ℕ) (now : WorkerSeat) : Type 0 where
  pub before : WorkerSeat
  pub runs : RunsMore start before
  pub takes : TakesAll before batch now

-- commands of a batch are ended and further ones are issued: what ran since any seat was a run, and the rest is in hand
pub record Serves (batch : List ℕ) (old : WorkerSeat) (left : List ℕ) (new : WorkerSeat) : Type 0 where
  pub same_set : new.tag_set ≡ old.tag_set
  pub on : (start : WorkerSeat) → IsServing start batch old → IsServing start left new

-- the first commands of a batch are done, as many as ran, and the next one, if there is one, is requeued
pub record EndsBatch (ran : ℕ) (batch : List ℕ) (old : WorkerSeat) (left : List ℕ) (new : WorkerSeat) : Type 0 where
  pub rest : left ≡ drop (ran + 1) batch
  pub counted : length new.ran ≡ length old.ran + ran

-- a batch ended so, and then some commands came to those that are left
pub record Exchanges (ran : ℕ) (batch : List ℕ) (old : WorkerSeat) (new_batch : List ℕ) (new : WorkerSeat) : Type 0 where
  pub taken : List ℕ
  pub batch_is : new_batch ≡ drop (ran + 1) batch ++ taken
  pub counted : length new.ran ≡ length old.ran + ran

-- the name that work has for the core's reason to refuse a request of a drain
abbrev pub work_name : CoreFault → Option WorkFault
work_name core.NoQueue = None
work_name (core.Repeated id) = Some (Repeated id)
work_name core.TraceFull = Some TraceFull
work_name core.Memory = Some Memory

-- why a pass is refused, and what it has in its hands then: nothing unless memory ran out
abbrev pub IsServeFault : WorkFault → List ℕ → Type 0
IsServeFault why batch = (why ≡ Memory) ⊎ ((why ≡ TraceFull) × (batch ≡ []))
