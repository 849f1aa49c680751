use Rattle.std.proofs.Common.{◌<◌, ◌≡◌, ℕ, [], get_or, length}
use Rattle.csv.specs.Records.{fields_of}
use Rattle.blk_records.specs.Fields.{FieldSpells}
use Rattle.blk_records.specs.declared.fields.Slot.TheVariants.{Given}
use Rattle.blk_records.proofs.fields.spelled_numbers.Given as goal

abbrev pub invariant-loop-i : goal.invariant-loop-i
invariant-loop-i g l = (length l.numbers ≡ g.row.N) × ((k : ℕ) → k < l.i → FieldSpells (get_or l.slots k Given) (get_or (fields_of l.row) k []) (get_or l.numbers k 0))
