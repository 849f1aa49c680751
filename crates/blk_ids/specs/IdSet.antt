-- A set of ids of two numbers, by lists.
use Rattle.std.specs.Prelude.{ℕ, ◌-◌, ◌==◌, ◌&&◌, ◌||◌, Bool, false, List, length, slice_get, vec_capacity, Option, None, Some}
use Rattle.std.specs.List.{list_any}
use Rattle.blk_ids.specs.declared.serials.Serials.{Serials}
use Rattle.blk_ids.specs.declared.id_set.IdSet.{IdSet}
use Rattle.blk_ids.specs.Serials.{has_serial}

-- whether an id is of these numbers
abbrev pub is_pair : ℕ × ℕ → ℕ → ℕ → Bool
is_pair p s n = (p.0 == s) && (p.1 == n)

module _ {A : Type 0} where
  -- whether there is a list and it has the number
  abbrev pub serial_in : Option (Serials A) → ℕ → Bool
  serial_in None n = false
  serial_in (Some list) n = has_serial list n

  -- whether the list of a submitter has the number
  abbrev pub in_lists : List (Serials A) → ℕ → ℕ → Bool
  in_lists lists s n = serial_in (slice_get lists s) n

  -- whether an id is in the set
  abbrev pub set_has : IdSet A → ℕ → ℕ → Bool
  set_has x s n = in_lists x.lists.items s n || list_any (λ p. is_pair p s n) x.late.items

  -- how many ids can be put in without memory, at least
  abbrev pub spare : IdSet A → ℕ
  spare x = vec_capacity x.late - length x.late.items
