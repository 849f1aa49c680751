-- Software queues.
use Rattle.std.specs.Prelude.{ℕ, ◌≡◌, ◌+◌, ◌≤◌, ◌++◌, ◌∷◌, [], List, length, sum_by, All}
use Rattle.blk_bio.specs.Bios.{Bio}
use Rattle.blk_bio.specs.Limits.{Limits}
use Rattle.blk_bio.specs.declared.limits.TheConstants.{MAX_SOFT_DEPTH}
use Rattle.blk_bio.specs.Requests.{IsWithin}
use Rattle.blk_queues.specs.declared.soft.TheConstants.{MAX_BIOS}

-- a queue: how many requests it may hold, their limits, the requests from the first, and how many bios came and went
pub record Queue : Type 0 where
  pub depth : ℕ
  pub limits : Limits
  pub requests : List (List Bio)
  pub bios_in : ℕ
  pub bios_out : ℕ

-- the queue of this depth, these limits and requests, and these counts of bios that came and went
abbrev pub soft_queue_of : ℕ → Limits → List (List Bio) → ℕ → ℕ → Queue
soft_queue_of depth limits requests came went = record { depth = depth; limits = limits; requests = requests; bios_in = came; bios_out = went }

-- a queue with one request more at the back, whose bios came
abbrev pub with_last : Queue → List Bio → Queue
with_last queue request = record queue { requests = queue.requests ++ request ∷ []; bios_in = queue.bios_in + length request }

-- how many bios the requests of a queue have
abbrev pub bios_held : Queue → ℕ
bios_held queue = sum_by length queue.requests

-- at least one and at most the greatest depth, no more requests than that, each within the limits, and what came is what went or is held
pub record IsQueue (queue : Queue) : Type 0 where
  pub some_depth : 1 ≤ queue.depth
  pub few_depth : queue.depth ≤ MAX_SOFT_DEPTH
  pub room : length queue.requests ≤ queue.depth
  pub within : All (IsWithin queue.limits) queue.requests
  pub held : queue.bios_in ≡ queue.bios_out + bios_held queue
  pub few_bios : queue.bios_in ≤ MAX_BIOS
