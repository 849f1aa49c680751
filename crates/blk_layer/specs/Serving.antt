-- What the calls of a worker and its passes do.
use Rattle.std.specs.Prelude.{ℕ, ◌≡◌, ◌<◌, ◌≤◌, ◌⊎◌, ◌++◌, [], ◌∷◌, ⊤, Option, None, Some, Result, Ok, Err, Contains, slice_get, slice_set, true, false, List, length}
use Rattle.edd_commands.specs.declared.Command.{Command}
use Rattle.blk_core.specs.declared.refusals.TickFault.{TickFault}
use Rattle.blk_core.specs.declared.refusals.DepthFault.{DepthFault}
use Rattle.blk_layer.specs.declared.serving.Issued.{Issued}
use Rattle.blk_tags.specs.Tags.{without}
use Rattle.blk_layer.specs.Seats.{WorkerSeat}
use Rattle.blk_layer.specs.declared.batch.TheConstants.{MAX_BATCH}
use Rattle.blk_layer.specs.declared.serving.Worked.{Worked}
use Rattle.blk_layer.specs.declared.serving.WorkFault.{WorkFault}
use Rattle.blk_layer.specs.declared.serving.WorkFault.TheVariants.{TraceFull, Memory, Repeated}
use Rattle.blk_layer.specs.declared.serving.Passed.{Passed}
use Rattle.blk_layer.specs.declared.serving.After.{After}
use Rattle.blk_layer.specs.declared.serving.After.TheVariants.{Finish, Again, Yield}
use Rattle.blk_core.specs.declared.refusals.TickFault.TheVariants as tick
use Rattle.blk_core.specs.declared.refusals.DepthFault.TheVariants as depth

-- a command comes into the hands of a worker under a tag of the set, where it had none, and which it didn't hold
pub record TakesInHand (old : WorkerSeat) (tag : ℕ) (command : Command) (new : WorkerSeat) : Type 0 where
  pub below : tag < old.tag_set.depth
  pub free : slice_get old.hands tag ≡ Some None
  pub unheld : ¬ Contains old.tags tag
  pub taken : new ≡ record old { tags = old.tags ++ tag ∷ []; hands = slice_set old.hands tag (Some command) }

-- what each answer of an issue says of the seat
abbrev pub IsIssueAnswer : WorkerSeat → Option Issued → WorkerSeat → Type 0
IsIssueAnswer old None new = new ≡ old
IsIssueAnswer old (Some issued) new = TakesInHand old issued.tag issued.command new

-- the command in the hands of a worker under a tag leaves them, and the tag with it
abbrev pub let_go : WorkerSeat → ℕ → WorkerSeat
let_go seat tag = record seat { tags = without tag seat.tags; hands = slice_set seat.hands tag None }

-- it was done, and the account grows by it, at its end
pub record AccountsFor (old : WorkerSeat) (tag : ℕ) (new : WorkerSeat) : Type 0 where
  pub command : Command
  pub held : slice_get old.hands tag ≡ Some (Some command)
  pub gone : new ≡ record (let_go old tag) { ran = old.ran ++ command ∷ [] }

-- a worker has a command in its hands under the tag
abbrev pub IsInHand : WorkerSeat → ℕ → Type 0
IsInHand seat tag = (command : Command) × (slice_get seat.hands tag ≡ Some (Some command))

-- it is requeued, and has this id; the account stays
pub record LetsGo (old : WorkerSeat) (tag id : ℕ) (new : WorkerSeat) : Type 0 where
  pub command : Command
  pub held : slice_get old.hands tag ≡ Some (Some command)
  pub named : command.id ≡ id
  pub gone : new ≡ let_go old tag

-- what each answer of a tick says by itself; the rest is known under the core's lock alone
abbrev pub IsTickAnswer : Result ℕ TickFault → Type 0
IsTickAnswer (Ok round) = 0 < round
IsTickAnswer (Err (tick.InFlight n)) = 0 < n
IsTickAnswer (Err tick.TraceFull) = ⊤
IsTickAnswer (Err tick.Memory) = ⊤

-- what each answer to a depth says of it, by the setup's; whether the trace is full is known under the core's lock alone
abbrev pub IsDepthAnswer : ℕ → ℕ → Result (Unit {0}) DepthFault → Type 0
IsDepthAnswer most n (Ok _) = (0 < n) × (n ≤ most)
IsDepthAnswer most n (Err depth.TraceFull) = ⊤
IsDepthAnswer most n (Err depth.DepthRange) = (n ≡ 0) ⊎ (most < n)
IsDepthAnswer most n (Err depth.Memory) = (0 < n) × (n ≤ most)

-- the account of a worker grows by commands, at its end; else the seat is as it was
pub record RunsMore (old new : WorkerSeat) : Type 0 where
  pub added : List Command
  pub grown : new ≡ record old { ran = old.ran ++ added }

-- commands come into the hands of a worker under these tags, one after the other
unfoldable pub TakesAll : WorkerSeat → List ℕ → WorkerSeat → Type 0
TakesAll old [] new = new ≡ old
TakesAll old (tag ∷ tags) new = (between : WorkerSeat) × ((command : Command) × TakesInHand old tag command between) × TakesAll between tags new

-- a worker took some commands in hand, no more than it may have; else the seat is as it was
pub record IsLeftInHand (old new : WorkerSeat) : Type 0 where
  pub tags : List ℕ
  pub few : length tags ≤ MAX_BATCH
  pub takes : TakesAll old tags new

-- what is done after a pass, by what it found. It is over where it was to finish, moved nothing and left nothing waiting
abbrev pub IsOver : Passed → Type 0
IsOver p = (p.finishing ≡ true) × (p.moved ≡ 0) × (p.pending ≡ 0)

abbrev pub HasMoreToServe : Passed → Type 0
HasMoreToServe p = (p.finishing ≡ false) ⊎ (0 < p.pending)

abbrev pub IsAfterPass : Passed → After → Type 0
IsAfterPass p Finish = IsOver p
IsAfterPass p Again = (0 < p.moved) ⊎ (HasMoreToServe p × (0 < p.served))
IsAfterPass p Yield = HasMoreToServe p × (p.moved ≡ 0) × (p.served ≡ 0)

-- what `work` says it did: at most `passes` passes, and fewer only where it was finished; as many commands as the account grew by;
-- else the seat is as it was
pub record IsWorked (passes : ℕ) (old : WorkerSeat) (worked : Worked) (new : WorkerSeat) : Type 0 where
  pub few : worked.passes ≤ passes
  pub unfinished : worked.finished ≡ false → worked.passes ≡ passes
  pub runs : RunsMore old new
  pub ran : worked.ran ≡ length runs.added

-- what work that was refused leaves: what was done before stands, and only where memory ran out may commands stay in the hands
abbrev pub IsWorkFault : WorkerSeat → WorkFault → WorkerSeat → Type 0
IsWorkFault old TraceFull new = RunsMore old new
IsWorkFault old Memory new = (between : WorkerSeat) × RunsMore old between × IsLeftInHand between new
IsWorkFault old (Repeated id) new = RunsMore old new
