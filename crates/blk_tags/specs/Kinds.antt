-- Each kind of step, by the state before it and the state after it.
use Rattle.std.specs.Prelude.{ℕ, ◌≡◌, ◌<◌, ◌≤◌, List, [], ◌∷◌, ◌++◌, Contains}
use Rattle.atomic_table.specs.Table.{State}
use Rattle.blk_tags.specs.Tags.{Held, no_tags, without, stepped_for}
use Rattle.blk_tags.specs.Steps.{TagsAreHeldOnce, bit_of, IsSeatWith, set_in, cleared_in, with_seat, with_new_seat}
use Rattle.blk_tags.specs.declared.TheConstants.{MAX_TAG_DEPTH}

-- where the tag rule holds before the step, it holds after it
abbrev pub KeepsTheRule : ℕ → State ℕ Held → State ℕ Held → Type 0
KeepsTheRule depth s after = TagsAreHeldOnce depth s → TagsAreHeldOnce depth after

-- a seat that holds none is split off
abbrev pub SplitsASeat : State ℕ Held → State ℕ Held → Type 0
SplitsASeat s after = after ≡ with_new_seat s

-- a seat that holds none is joined into another
abbrev pub JoinsASeat : State ℕ Held → State ℕ Held → Type 0
JoinsASeat s after = (seat : ℕ) × (held : Held) × IsSeatWith s.views seat held × (held.tags ≡ []) × (after ≡ with_seat s seat no_tags)

-- a seat of a set, what it has, and a tag below the set's depth
pub record IsSeatAndTag (depth : ℕ) (views : List Held) (seat tag : ℕ) (held : Held) : Type 0 where
  pub few : depth ≤ MAX_TAG_DEPTH
  pub holds : IsSeatWith views seat held
  pub below : tag < depth

-- a take that wins: the tag's bit was clear, and is set; the seat has the tag behind those that it held
pub record WinsATake (depth : ℕ) (s after : State ℕ Held) : Type 0 where
  pub seat : ℕ
  pub tag : ℕ
  pub held : Held
  pub at : IsSeatAndTag depth s.views seat tag held
  pub clear : bit_of s.words tag ≡ 0
  pub after_is : after ≡ with_seat (set_in s tag) seat (stepped_for tag held (held.tags ++ tag ∷ []))

-- a take that loses: the tag's bit was set, and is set again; the seat has what it held
pub record LosesATake (depth : ℕ) (s after : State ℕ Held) : Type 0 where
  pub seat : ℕ
  pub tag : ℕ
  pub held : Held
  pub at : IsSeatAndTag depth s.views seat tag held
  pub full : bit_of s.words tag ≡ 1
  pub after_is : after ≡ with_seat (set_in s tag) seat (stepped_for tag held held.tags)

-- a give: the seat held the tag, and has the others; the tag's bit is cleared
pub record GivesBack (depth : ℕ) (s after : State ℕ Held) : Type 0 where
  pub seat : ℕ
  pub tag : ℕ
  pub held : Held
  pub at : IsSeatAndTag depth s.views seat tag held
  pub has : Contains held.tags tag
  pub after_is : after ≡ with_seat (cleared_in s tag) seat (stepped_for tag held (without tag held.tags))
