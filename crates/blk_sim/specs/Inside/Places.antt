-- Where bios are between steps, and what rounds do to the core.
use Rattle.std.specs.Prelude.{◌≡◌, ◌<◌, ◌+◌, ◌%◌, ◌==◌, ◌++◌, ◌&&◌, nat_lt, ℕ, Bool, List, [], ◌∷◌, length, slice_index_or}
use Rattle.blk_bio.specs.Bios.{Bio}
use Rattle.blk_trace.specs.Events.{entered, round_of}
use Rattle.blk_core.specs.State.{CoreState}
use Rattle.blk_text.specs.declared.script.Line.{Line}
use Rattle.blk_sim.specs.Simulated.{Placing, placed_by}

-- where the steps leave the bios of their `bio` lines
unfoldable pub placings : ℕ → List Line → List Placing
placings hw [] = []
placings hw (l ∷ ls) = placed_by hw l ls ++ placings hw ls

-- whether the hardware queue `h` of `hw` serves the software queue `s` of `count`
abbrev pub is_served : ℕ → ℕ → ℕ → ℕ → Bool
is_served count hw h s = nat_lt s count && ((s % hw) == h)

-- these rounds passed in the core, and no bio entered
pub record RoundsPassed (rounds : ℕ) (old new : CoreState) : Type 0 where
  pub setup : new.setup ≡ old.setup
  pub entered_same : entered new.events ≡ entered old.events
  pub ticks : round_of new.events ≡ round_of old.events + rounds

-- bios entered the core in the round that is on
pub record TookIn (bios : List Bio) (old new : CoreState) : Type 0 where
  pub setup : new.setup ≡ old.setup
  pub took : entered new.events ≡ entered old.events ++ bios
  pub ticks : round_of new.events ≡ round_of old.events
