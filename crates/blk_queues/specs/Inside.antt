-- What invariants and proofs need, and no promise names.
use Rattle.std.specs.Prelude.{ℕ, ◌<◌, ◌≤◌, List}
use Rattle.blk_bio.specs.declared.limits.TheConstants.{MAX_QUEUES}
use Rattle.blk_queues.specs.Maps.{IsMap, IsHwCount}

-- a map, and how many hardware queues it has
pub record IsCountedMap (entries : List ℕ) (count : ℕ) : Type 0 where
  pub is_map : IsMap entries
  pub is_count : IsHwCount entries count
  pub some : 0 < count
  pub few : count ≤ MAX_QUEUES
