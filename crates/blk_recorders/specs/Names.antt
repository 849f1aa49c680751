-- The names of faults and of recorders, and what is told beside those of faults.
use Rattle.std.specs.Prelude.{ℕ, List, codes}
use Rattle.edd_commands.specs.declared.faults.Beside.{Beside}
use Rattle.edd_commands.specs.declared.faults.Beside.TheVariants as beside
use Rattle.blk_recorders.specs.declared.fault.LineReason.{LineReason}
use Rattle.blk_recorders.specs.declared.fault.LineReason.TheVariants as why
use Rattle.blk_recorders.specs.declared.fault.LineFault.{LineFault}
use Rattle.blk_recorders.specs.declared.recorder.Recorder.{Recorder}
use Rattle.blk_recorders.specs.declared.recorder.Recorder.TheVariants.{Blkparse, Ftrace, Perf, Bpftrace}

abbrev pub line_reason_name : LineReason → List ℕ
line_reason_name why.Fields = codes "Fields"
line_reason_name why.Number = codes "Number"
line_reason_name why.Range = codes "Range"
line_reason_name why.Devices = codes "Devices"
line_reason_name why.Order = codes "Order"
line_reason_name why.TooLong = codes "TooLong"
line_reason_name why.Memory = codes "Memory"

abbrev pub recorder_name : Recorder → List ℕ
recorder_name Blkparse = codes "blkparse"
recorder_name Ftrace = codes "ftrace"
recorder_name Perf = codes "perf"
recorder_name Bpftrace = codes "bpftrace"

abbrev pub line_beside : ℕ → LineReason → Beside
line_beside at why.Memory = beside.Memory
line_beside at w = beside.Line at

abbrev pub line_told : LineFault → List ℕ × Beside
line_told f = (line_reason_name f.why, line_beside f.at f.why)
