-- The names of faults, and what is told beside them.
use Rattle.std.specs.Prelude.{ℕ, List, codes}
use Rattle.edd_commands.specs.declared.faults.Beside.{Beside}
use Rattle.edd_commands.specs.declared.faults.Beside.TheVariants as beside
use Rattle.blk_records.specs.Names.{text_told}
use Rattle.blk_recorders.specs.Names.{line_told}
use Rattle.blk_capture_text.specs.declared.importing.ImportFault.{ImportFault}
use Rattle.blk_capture_text.specs.declared.importing.ImportFault.TheVariants as fault
use Rattle.blk_capture_text.specs.declared.source.UnreadCapture.{UnreadCapture}
use Rattle.blk_capture_text.specs.declared.source.UnreadCapture.TheVariants as unread

abbrev pub import_told : ImportFault → List ℕ × Beside
import_told (fault.TooMany n) = (codes "TooMany", beside.Nothing)
import_told fault.Memory = (codes "Memory", beside.Memory)

abbrev pub unread_told : UnreadCapture → List ℕ × Beside
unread_told (unread.Text f) = text_told f
unread_told (unread.Line f) = line_told f
unread_told unread.Memory = (codes "Memory", beside.Memory)
