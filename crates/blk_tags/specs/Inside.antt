-- What invariants and proofs need, and no promise names.
use Rattle.std.specs.Prelude.{ℕ, ◌≡◌, ◌-◌, ◌/◌, ◌%◌, ◌^◌, ◌<◌, ◌++◌, ◌∷◌, Bool, false, List, [], Option, slice_index_or}
use Rattle.std.specs.Int.{bit_at}
use Rattle.atomic_table.specs.Seated.{TableId}
use Rattle.atomic_table.specs.Table.{Me, Step}
use Rattle.blk_tags.specs.Tags.{Held, IsSet, IsSeat, tag_set_of, tag_seat_of, count_of, one_if, without, stepped_for}
use Rattle.blk_tags.specs.declared.TheConstants.{MAX_TAG_DEPTH}

-- the marks are true at the places of the tags, which stand there once
abbrev pub Marks : List Bool → List ℕ → Type 0
Marks marks tags = (t : ℕ) → count_of t tags ≡ one_if (slice_index_or marks t false)

-- a table of four words, whose key is the depth of the set
abbrev pub IsSetTable : TableId → ℕ → ℕ → Type 0
IsSetTable name key depth = IsSet (tag_set_of name depth) × (name.words ≡ 4) × (key ≡ depth)

-- a seat at the table without slots, whose marks are those of its tags
abbrev pub IsMarkedSeat : {S : Type 0} → TableId → List Bool → Held → List S → Option ℕ → Type 0
IsMarkedSeat name marks held slots last = IsSeat (tag_seat_of name marks held last) × Marks marks held.tags × (slots ≡ [])

-- A take, one fetch_or of the tag's bit on its word. It wins where the bit was clear: no seat held the tag, and this one
-- holds it now, behind those that it held. It loses where the bit was set: the word and what the seat holds stay. Either is
-- one step more
abbrev pub took : {S : Type 0} → Step S → Me S Held → ℕ → Me S Held → Type 0
took s me found after = (after.1 ≡ me.1)
    × ((t : ℕ) → t < MAX_TAG_DEPTH → s.word ≡ t / 64 → s.first ≡ 2 ^ (t % 64)
    → (bit_at found (t % 64) ≡ 0 → (count_of t me.0.tags ≡ 0) × (after.0 ≡ stepped_for t me.0 (me.0.tags ++ t ∷ [])))
    × (bit_at found (t % 64) ≡ 1 → after.0 ≡ stepped_for t me.0 me.0.tags))

-- A give, one fetch_and of all bits but the tag's on its word: the tag is taken away from those that the seat holds, by one
-- step more
abbrev pub gave : {S : Type 0} → Step S → Me S Held → ℕ → Me S Held → Type 0
gave s me found after = (after.1 ≡ me.1)
    × ((t : ℕ) → t < MAX_TAG_DEPTH → s.word ≡ t / 64 → s.first ≡ 2 ^ 64 - 1 - 2 ^ (t % 64) → after.0 ≡ stepped_for t me.0 (without t me.0.tags))
