-- A row whose word, slots and names are kept in arrays that are longer.
use Rattle.std.specs.Prelude.{◌≡◌, ◌++◌, ◌-◌, ◌≤◌, ℕ, List, length, take, replicate}
use Rattle.blk_records.specs.Kinds.{KindRow}
use Rattle.blk_records.specs.declared.any.AnyKind.TheInside.{Inside}
use Rattle.blk_records.specs.declared.any.TheConstants.{MAX_FIELDS, MAX_LETTERS}
use Rattle.blk_records.specs.declared.fields.Slot.TheVariants as slot
use Rattle.blk_records.specs.declared.names.FieldName.TheVariants as name

-- this many items, of which the first are these and the others are this one
abbrev pub filled : {X : Type 0} → ℕ → List X → X → List X
filled n items past = items ++ replicate (n - length items) past

-- the row that arrays begin with
abbrev pub kept_row : Inside → KindRow
kept_row a = record { word = take a.letters a.word; since = a.since; slots = take a.width a.slots; names = take a.width a.names }

-- the arrays of a row, filled with zeros, fields that may hold anything and unused ones
abbrev pub in_arrays : KindRow → Inside
in_arrays k = record {
  word = filled MAX_LETTERS k.word 0;
  letters = length k.word;
  since = k.since;
  slots = filled MAX_FIELDS k.slots slot.Given;
  names = filled MAX_FIELDS k.names name.Unused;
  width = length k.slots;
}

-- arrays hold a row and nothing else, so that they can be made of it again
pub record IsInArrays (a : Inside) : Type 0 where
  pub word : a.letters ≤ MAX_LETTERS
  pub width : a.width ≤ MAX_FIELDS
  pub same : in_arrays (kept_row a) ≡ a
