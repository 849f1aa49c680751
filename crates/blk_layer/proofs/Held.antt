-- The tags that a worker holds and the commands in its hands.
use Rattle.std.proofs.Common.{◌≡◌, ◌↔◌, ◌<◌, ℕ, zero, suc, List, [], ◌∷◌, Bool, true, false, Some, None, map, length, refl, sym, ap, arith}
use Rattle.std.specs.Prelude.{Option, is_some, slice_get, slice_index_or, Contains, count_by, replicate}
use Rattle.edd_commands.specs.declared.Command.{Command}
use Rattle.blk_tags.specs.Tags.{one_if}
use Rattle.blk_tags.specs.Inside.{Marks}
use Rattle.blk_tags.proofs.Counts.{held_some, some_held}

-- empty hands, however many
pub empty_marks : (n t : ℕ) → slice_index_or (map is_some (replicate n (let none : Option Command = None in none))) t false ≡ false
empty_marks zero t = refl
empty_marks (suc n) zero = refl
empty_marks (suc n) (suc t) = empty_marks n t

pub empty_count : (n : ℕ) → count_by is_some (replicate n (let none : Option Command = None in none)) ≡ 0
empty_count zero = refl
empty_count (suc n) = empty_count n

pub no_marks : (n : ℕ) → Marks (map is_some (replicate n (let none : Option Command = None in none))) []
no_marks n t = sym (ap one_if (empty_marks n t))

-- a mark at a tag is a command in the hands
marked_at : (hands : List (Option Command)) (t : ℕ) → slice_index_or (map is_some hands) t false ≡ true → (command : Command) × (slice_get hands t ≡ Some (Some command))
marked_at [] t h = absurd (cc)
marked_at (None ∷ hs) zero h = absurd (cc)
marked_at (Some c ∷ hs) zero h = (c, refl)
marked_at (_ ∷ hs) (suc t) h = marked_at hs t h

at_marked : (hands : List (Option Command)) (t : ℕ) (command : Command) → slice_get hands t ≡ Some (Some command) → slice_index_or (map is_some hands) t false ≡ true
at_marked [] t c h = absurd (let e : None ≡ Some (Some c) = h in cc)
at_marked (x ∷ hs) zero c h = (let e : x ≡ Some c = (let s : Some x ≡ Some (Some c) = h in cc) in rw e refl)
at_marked (x ∷ hs) (suc t) c h = at_marked hs t c h

one_true : (b : Bool) → 0 < one_if b → b ≡ true
one_true true h = refl
one_true false h = absurd (omega arith)

-- the tags are those of the commands
pub tags_are : (tags : List ℕ) (hands : List (Option Command)) → Marks (map is_some hands) tags → (tag : ℕ) → Contains tags tag ↔ ((command : Command) × (slice_get hands tag ≡ Some (Some command)))
tags_are tags hands marks tag = (
  (λ has. marked_at hands tag (one_true (slice_index_or (map is_some hands) tag false) (omega (arith, held_some tag tags has, marks tag)))),
  (λ h. some_held tag tags (omega (arith, marks tag, ap one_if (at_marked hands tag h.0 h.1)))),
)

pub no_length : (n : ℕ) → length (replicate n (let none : Option Command = None in none)) ≡ n
no_length zero = refl
no_length (suc n) = ap suc (no_length n)
