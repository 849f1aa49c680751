-- How what waits and the requests of each hardware queue go together.
use Rattle.std.specs.Prelude.{ℕ, ◌≡◌, List, length, slice_index_or}
use Rattle.std.specs.List.{flat_map}
use Rattle.std.specs.FinMap.{entries, from_entries, get, empty, len}
use Rattle.blk_bio.specs.declared.limits.TheConstants.{MAX_QUEUES}
use Rattle.blk_sched.specs.Meaning.{Pending}
use Rattle.blk_index.specs.Queues.{served_of}

-- what waits at all the hardware queues
abbrev pub all_pending : List Pending → Pending
all_pending queues = from_entries (flat_map entries queues)

-- what waits at one
abbrev pub queue_at : List Pending → ℕ → Pending
queue_at queues hw = slice_index_or queues hw empty

-- each of the hardware queues has the requests that it serves, of all that wait, and no others; and how many wait
pub record AreSplit (queues : List Pending) (waiting : ℕ) : Type 0 where
  pub count : length queues ≡ MAX_QUEUES
  pub split : (hw id : ℕ) → get (queue_at queues hw) id ≡ served_of hw (all_pending queues) id
  pub counted : waiting ≡ len (all_pending queues)
