-- The parts of a pick, and of a meaning.
use Rattle.std.specs.Prelude.{ℕ, ◌≡◌, ◌==◌, ◌&&◌, Bool, false, Option, None, Some}
use Rattle.std.specs.FinMap as map
use Rattle.blk_bio.specs.declared.bio.Dir.{Dir}
use Rattle.blk_sched.specs.Meaning.{Waiting}
use Rattle.blk_deadline.specs.declared.BatchState.{BatchState}
use Rattle.blk_deadline.specs.declared.Deadline.{Deadline}
use Rattle.blk_deadline.specs.Choice.{has_dir, after_last, from_sector, next_of, in_batch, taken}

-- a choice by the id of its request, how many went in the batch then, and how often reads went first
abbrev pub IsBatchChoice : (ℕ → Option Waiting) → BatchState → Option (Waiting × BatchState) → ℕ × ℕ × ℕ → Type 0
IsBatchChoice found batch choice r = (w : Waiting) × (found r.0 ≡ Some w) × (choice ≡ Some (taken batch w r.1 r.2))

-- a request is of a direction and begins at a sector
abbrev pub lies_at : Dir → ℕ → Option Waiting → Bool
lies_at dir sector None = false
lies_at dir sector (Some w) = has_dir dir w && (w.extent.first == sector)

module _ {A : Type 0} where
  -- the next request of a direction after the last pick, the one from its own position on, the one by the rule, and the one of the batch
  abbrev pub after_last_in : Deadline A → Dir → Option Waiting
  after_last_in s dir = after_last dir s.batch.last (map.values s.index)

  abbrev pub from_in : Deadline A → Dir → ℕ → Option Waiting
  from_in s dir sector = from_sector dir sector (map.values s.index)

  abbrev pub next_in : Deadline A → Dir → Option Waiting
  next_in s dir = next_of s.tunables.positions s.batch dir (map.values s.index)

  abbrev pub batch_next : Deadline A → Option Waiting
  batch_next s = in_batch s.tunables.fifo_batch s.batch (next_in s)
