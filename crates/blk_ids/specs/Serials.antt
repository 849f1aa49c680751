-- A set of numbers, the first of them by flags.
use Rattle.std.specs.Prelude.{ℕ, ◌||◌, Bool, false, slice_index_or}
use Rattle.std.specs.Ordering.{nat_cmp}
use Rattle.std.specs.BTreeSet.{contains}
use Rattle.blk_ids.specs.declared.serials.Serials.{Serials}

module _ {A : Type 0} where
  -- whether a number is in the set
  abbrev pub has_serial : Serials A → ℕ → Bool
  has_serial s n = slice_index_or s.flags.items n false || contains nat_cmp s.others n
