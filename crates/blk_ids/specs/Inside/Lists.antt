-- What the lists of a set of ids have after a call.
use Rattle.std.specs.Prelude.{ℕ, ◌≡◌, ◌||◌, List}
use Rattle.std.specs.List.{list_any}
use Rattle.blk_ids.specs.declared.serials.Serials.{Serials}
use Rattle.blk_ids.specs.IdSet.{is_pair, in_lists}

module _ {A : Type 0} where
  -- the same ids, one more, those of a list too, and with that list none less
  abbrev pub HasTheSame : List (Serials A) → List (Serials A) → Type 0
  HasTheSame old new = (s n : ℕ) → in_lists new s n ≡ in_lists old s n

  abbrev pub HasOneMore : List (Serials A) → ℕ × ℕ → List (Serials A) → Type 0
  HasOneMore old id new = (s n : ℕ) → in_lists new s n ≡ in_lists old s n || is_pair id s n

  abbrev pub HasAll : List (Serials A) → List (ℕ × ℕ) → List (Serials A) → Type 0
  HasAll old ids new = (s n : ℕ) → in_lists new s n ≡ in_lists old s n || list_any (λ p. is_pair p s n) ids

  abbrev pub LosesNone : List (Serials A) → List (ℕ × ℕ) → List (Serials A) → Type 0
  LosesNone old ids new =
      (s n : ℕ) → in_lists new s n || list_any (λ p. is_pair p s n) ids ≡ in_lists old s n || list_any (λ p. is_pair p s n) ids
