use Rattle.std.proofs.Common.{◌<◌, ℕ, [], get_or}
use Rattle.csv.specs.Records.{fields_of}
use Rattle.blk_records.specs.Inside.Fields.{KeepsRule}
use Rattle.blk_records.specs.declared.fields.Slot.TheVariants.{Given}
use Rattle.blk_records.proofs.fields.all_keep.Given as goal

abbrev pub invariant-loop-i : goal.invariant-loop-i
invariant-loop-i l = (k : ℕ) → k < l.i → KeepsRule l.rule (get_or l.slots k Given) (get_or (fields_of l.row) k [])
