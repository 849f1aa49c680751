-- The rule of a set's words, and the kinds of step that change them or what the seats hold.
use Rattle.std.specs.Prelude.{ℕ, ◌≡◌, ◌+◌, ◌-◌, ◌/◌, ◌%◌, ◌^◌, ◌≤◌, List, [], ◌∷◌, ◌++◌, length, slice_index, slice_set, Contains, bit_and, bit_or}
use Rattle.std.specs.Int.{bit_at}
use mathlib.Core.Option.{some}
use lib.ListN.{get_elem?}
use Rattle.atomic_table.specs.Table.{State}
use Rattle.blk_tags.specs.Tags.{Held, count_of, no_tags}

-- the bit of a tag among the words: bit t % 64 of word t / 64, and 0 past the last word
abbrev pub bit_of : List ℕ → ℕ → ℕ
bit_of words t = bit_at (slice_index words (t / 64)) (t % 64)

-- how many times a tag is held, by all seats together
abbrev pub total_of : ℕ → List Held → ℕ
total_of t [] = 0
total_of t (v ∷ vs) = count_of t v.tags + total_of t vs

-- The tag rule. Each of the words' set bits is a tag below the depth that exactly one seat holds, and once, and each tag that
-- a seat holds has its bit set: a tag's bit, 0 or 1, is how many times the tag is held, and it is 0 from the depth on. The
-- seats are all that were ever split, each with the tags that it holds; one that was joined into another holds none
pub record TagsAreHeldOnce {S : Type 0} (depth : ℕ) (s : State S Held) : Type 0 where
  pub four : length s.words ≡ 4
  pub counted : (t : ℕ) → bit_of s.words t ≡ total_of t s.views
  pub below : (t : ℕ) → depth ≤ t → bit_of s.words t ≡ 0

-- a seat that has this, and one that holds a tag
abbrev pub IsSeatWith : List Held → ℕ → Held → Type 0
IsSeatWith views seat held = get_elem? views seat ≡ some held

abbrev pub IsHeldBy : List Held → ℕ → ℕ → Type 0
IsHeldBy views seat t = (held : Held) × IsSeatWith views seat held × Contains held.tags t

-- a tag's bit is set, a seat holds the tag, and no two seats do
abbrev pub IsBitSet : List ℕ → ℕ → Type 0
IsBitSet words t = bit_of words t ≡ 1

abbrev pub IsHeld : List Held → ℕ → Type 0
IsHeld views t = (seat : ℕ) × IsHeldBy views seat t

abbrev pub IsOfOneSeat : List Held → ℕ → Type 0
IsOfOneSeat views t = (one other : ℕ) → IsHeldBy views one t → IsHeldBy views other t → one ≡ other

-- the state with a tag's bit set, or cleared, with something else for one seat, and with one seat more, which holds none
abbrev pub set_in : {S : Type 0} → State S Held → ℕ → State S Held
set_in s t = record { words = slice_set s.words (t / 64) (bit_or (slice_index s.words (t / 64)) (2 ^ (t % 64))); homes = s.homes; views = s.views }

abbrev pub cleared_in : {S : Type 0} → State S Held → ℕ → State S Held
cleared_in s t = record { words = slice_set s.words (t / 64) (bit_and (slice_index s.words (t / 64)) (2 ^ 64 - 1 - 2 ^ (t % 64))); homes = s.homes; views = s.views }

abbrev pub with_seat : {S : Type 0} → State S Held → ℕ → Held → State S Held
with_seat s seat held = record { words = s.words; homes = s.homes; views = slice_set s.views seat held }

abbrev pub with_new_seat : {S : Type 0} → State S Held → State S Held
with_new_seat s = record { words = s.words; homes = s.homes; views = s.views ++ no_tags ∷ [] }
