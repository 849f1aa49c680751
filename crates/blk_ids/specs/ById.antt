-- What is kept under ids.
use Rattle.std.specs.Prelude.{ℕ, ◌-◌, length, slice_get, vec_capacity, Option, None, Some}
use Rattle.std.specs.Ordering.{nat_cmp}
use Rattle.std.specs.BTreeMap.{BTreeMap, get}
use Rattle.blk_ids.specs.declared.by_id.ById.{ById}
use Rattle.blk_ids.specs.Given.{either, at_entry}

-- room counts where no entry waits
abbrev pub room_beside : {V : Type 0} → Option (ℕ × V) → ℕ → ℕ
room_beside None n = n
room_beside (Some e) n = 0

-- what is kept outside of the list
abbrev pub beside : {V : Type 0} → Option (ℕ × V) → BTreeMap ℕ V → ℕ → Option V
beside last others id = either (at_entry last id) (get nat_cmp others id)

module _ {V A : Type 0} where
  -- what is kept under an id
  abbrev pub kept_at : ById V A → ℕ → Option V
  kept_at m id = either (slice_get m.counted.items id) (beside m.last m.others id)

  -- whether an id can be put in without memory: where this isn't 0
  abbrev pub spare : ById V A → ℕ
  spare m = room_beside m.last (vec_capacity m.counted - length m.counted.items)
