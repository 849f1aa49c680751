-- How limits are kept.
use Rattle.std.specs.Prelude.{ℕ, Bool}
use Rattle.blk_kyber.specs.Limits.{DirLimits}

-- the limits of these numbers, with the misses of each direction
abbrev pub dir_limits : ℕ → ℕ → ℕ → Bool → Bool → DirLimits
dir_limits depth reads writes missed_reads missed_writes =
    record { depth = depth; reads = reads; writes = writes; missed_reads = missed_reads; missed_writes = missed_writes }
