-- The names of faults, and what is told beside them.
use Rattle.std.specs.Prelude.{ℕ, List, codes}
use Rattle.edd_commands.specs.declared.faults.Beside.{Beside}
use Rattle.edd_commands.specs.declared.faults.Beside.TheVariants as beside
use Rattle.blk_bio.specs.Names.{bio_fault_name, rule_name}
use Rattle.blk_records.specs.declared.fault.TextReason.{TextReason}
use Rattle.blk_records.specs.declared.fault.TextReason.TheVariants as why
use Rattle.blk_records.specs.declared.fault.TextFault.{TextFault}

abbrev pub text_reason_name : TextReason → List ℕ
text_reason_name why.Title = codes "Title"
text_reason_name why.Fields = codes "Fields"
text_reason_name why.Word = codes "Word"
text_reason_name why.Number = codes "Number"
text_reason_name why.Range = codes "Range"
text_reason_name (why.Bio f) = bio_fault_name f
text_reason_name why.Tile = codes "Tile"
text_reason_name (why.Rule r) = rule_name r
text_reason_name why.RepeatedId = codes "RepeatedId"
text_reason_name why.Order = codes "Order"
text_reason_name why.Count = codes "Count"
text_reason_name why.TooLong = codes "TooLong"
text_reason_name why.Read = codes "Read"
text_reason_name why.Memory = codes "Memory"

abbrev pub text_beside : ℕ → TextReason → Beside
text_beside at why.Read = beside.Read
text_beside at why.Memory = beside.Memory
text_beside at w = beside.Record at

abbrev pub text_told : TextFault → List ℕ × Beside
text_told f = (text_reason_name f.why, text_beside f.at f.why)
