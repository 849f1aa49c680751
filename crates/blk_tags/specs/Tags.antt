-- A set of tags and the seats at it, as their callers see them.
use Rattle.std.specs.Prelude.{ℕ, zero, suc, ◌≡◌, ◌+◌, ◌%◌, ◌≤◌, ◌<◌, ◌==◌, Bool, not, List, [], ◌∷◌, ◌++◌, Option, None, Some, IfSome, filter, length, if◌then◌else◌}
use lib.Dec.{ltb}
use Rattle.atomic_table.specs.Seated.{TableId}
use Rattle.blk_tags.specs.declared.TheConstants.{MAX_TAG_DEPTH}

-- a set of tags: what tells it from every other one, and how many tags it has, from 0 on
pub record Set : Type 0 where
  pub name : TableId
  pub depth : ℕ

-- what a seat holds and did: its tags in the order in which it took them, and for which tag each atomic step on the words was
pub record Held : Type 0 where
  pub tags : List ℕ
  pub steps : List ℕ

-- a seat that holds none, and made no step
abbrev pub no_tags : Held
no_tags = record { tags = []; steps = [] }

-- a seat: the set that it is of, the tags that it holds, the tag that it took last, and for which tag each of its steps was
pub record Seat : Type 0 where
  pub of_set : Set
  pub tags : List ℕ
  pub last : Option ℕ
  pub steps : List ℕ

-- the set of this name and depth
abbrev pub tag_set_of : TableId → ℕ → Set
tag_set_of name depth = record { name = name; depth = depth }

-- the seat of the set of this name that has a mark for each of its tags
abbrev pub tag_seat_of : TableId → List Bool → Held → Option ℕ → Seat
tag_seat_of name marks held last = record { of_set = tag_set_of name (length marks); tags = held.tags; last = last; steps = held.steps }

-- the seat with a tag more, which it took last, after these steps
abbrev pub with_tag : Seat → ℕ → List ℕ → Seat
with_tag seat t steps = record { of_set = seat.of_set; tags = seat.tags ++ t ∷ []; last = Some t; steps = steps }

-- what a seat has after one more step, which was for this tag: these tags
abbrev pub stepped_for : ℕ → Held → List ℕ → Held
stepped_for t held tags = record { tags = tags; steps = held.steps ++ t ∷ [] }

-- 1 where the fact holds, and otherwise 0
abbrev pub one_if : Bool → ℕ
one_if b = if b then 1 else 0

-- how many times a tag stands in the list
abbrev pub count_of : ℕ → List ℕ → ℕ
count_of t [] = 0
count_of t (x ∷ xs) = one_if (x == t) + count_of t xs

-- the tags but for one
abbrev pub without : ℕ → List ℕ → List ℕ
without t tags = filter (λ x. not (x == t)) tags

-- a set has at least one tag, and at most the greatest number
pub record IsSet (set : Set) : Type 0 where
  pub some : 1 ≤ set.depth
  pub few : set.depth ≤ MAX_TAG_DEPTH

-- a seat holds no tag twice, and each of its tags, like the one that it took last, is one of its set's
pub record IsSeat (seat : Seat) : Type 0 where
  pub is_set : IsSet seat.of_set
  pub once : (t : ℕ) → count_of t seat.tags ≤ 1
  pub below : (t : ℕ) → seat.of_set.depth ≤ t → count_of t seat.tags ≡ 0
  pub last : IfSome seat.last (λ t. t < seat.of_set.depth)

-- the tag after the last one that was taken, 0 where none was
abbrev pub tag_after : Option ℕ → ℕ
tag_after None = 0
tag_after (Some t) = t + 1

-- the tag itself where it is below the depth, and otherwise 0
abbrev pub tag_or_first : ℕ → ℕ → ℕ
tag_or_first depth t = if ltb t depth then t else 0

-- the tags of so many tries, from a first one on: in rising order, and on at 0 after the greatest
abbrev pub tried_from : ℕ → ℕ → ℕ → List ℕ
tried_from depth first zero = []
tried_from depth first (suc n) = tried_from depth first n ++ (first + n) % depth ∷ []

-- A take's steps, by its answer: one try after the other from a first tag on, up to the tag that it took, where it took one,
-- and otherwise one for each tag. So they are as many as the set has tags at most
abbrev pub TriesUpTo : ℕ → ℕ → Option ℕ → List ℕ → List ℕ → Type 0
TriesUpTo depth first None before after = after ≡ before ++ tried_from depth first depth
TriesUpTo depth first (Some t) before after = (n : ℕ) × (n < depth) × (t ≡ (first + n) % depth) × (after ≡ before ++ tried_from depth first (n + 1))
