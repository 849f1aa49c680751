-- Kyber's limits: how many requests of each direction may be in flight, as a function of what was reported so far.
use Rattle.blk_kyber.specs.declared.limits.TheConstants.{ROUNDS_BETWEEN}
use Rattle.std.specs.Prelude.{ℕ, ◌+◌, ◌/◌, ◌%◌, ◌==◌, nat_lt, min, max, Bool, true, false, List, [], ◌∷◌, if◌then◌else◌}
use Rattle.blk_bio.specs.declared.bio.Dir.{Dir}
use Rattle.blk_bio.specs.declared.bio.Dir.TheVariants.{Read, Write}
use Rattle.blk_kyber.specs.declared.Targets.{Targets}

-- the depth up to which both limits rise, the limits, and whether a direction had a miss since they were last set
pub record DirLimits : Type 0 where
  pub depth : ℕ
  pub reads : ℕ
  pub writes : ℕ
  pub missed_reads : Bool
  pub missed_writes : Bool

-- at first both limits are the depth, and nothing was missed
abbrev pub first_limits : ℕ → DirLimits
first_limits depth = record { depth = depth; reads = depth; writes = depth; missed_reads = false; missed_writes = false }

-- how many requests of a direction may be in flight
abbrev pub limit_of : Dir → DirLimits → ℕ
limit_of Read limits = limits.reads
limit_of Write limits = limits.writes

-- how many rounds a request of a direction may wait
abbrev pub target_of : Dir → Targets → ℕ
target_of Read targets = targets.read
target_of Write targets = targets.write

-- a request of a direction waited longer
abbrev pub missed : Dir → DirLimits → DirLimits
missed Read limits = record limits { missed_reads = true }
missed Write limits = record limits { missed_writes = true }

-- a limit is halved, to 1 at least, or rises by 1, to the depth at most
abbrev pub halved : ℕ → ℕ
halved limit = max 1 (limit / 2)

abbrev pub risen : ℕ → ℕ → ℕ
risen depth limit = min depth (limit + 1)

-- a limit, by whether its own direction and the other one had a miss: the other's halves it, and without any it rises
abbrev pub limit_then : Bool → Bool → ℕ → ℕ → ℕ
limit_then false false depth limit = risen depth limit
limit_then true false depth limit = limit
limit_then _ true depth limit = halved limit

-- the limits are set anew, and the misses are forgotten
abbrev pub set_anew : DirLimits → DirLimits
set_anew limits = record {
  depth = limits.depth;
  reads = limit_then limits.missed_reads limits.missed_writes limits.depth limits.reads;
  writes = limit_then limits.missed_writes limits.missed_reads limits.depth limits.writes;
  missed_reads = false;
  missed_writes = false;
}

-- what is reported to a scheduler: a request of a direction is done, with how long it had waited, or a round began
pub data KyberReport : Type 0 where
  Completed : (dir : Dir) → (wait : ℕ) → KyberReport
  RoundBegan : (round : ℕ) → KyberReport

-- the limits are set anew each time that a number of rounds have passed
abbrev pub after_report : Targets → KyberReport → DirLimits → DirLimits
after_report targets (Completed dir wait) limits = if nat_lt (target_of dir targets) wait then missed dir limits else limits
after_report targets (RoundBegan round) limits = if round % ROUNDS_BETWEEN == 0 then set_anew limits else limits

-- the limits after all that was reported, the latest first
abbrev pub kyber_limits : Targets → ℕ → List KyberReport → DirLimits
kyber_limits targets depth [] = first_limits depth
kyber_limits targets depth (report ∷ earlier) = after_report targets report (kyber_limits targets depth earlier)
