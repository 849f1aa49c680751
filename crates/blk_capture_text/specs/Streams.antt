-- A capture of any form, read part by part: of what it says no more is kept than what it comes to.
use Rattle.std.specs.Prelude.{ℕ, ◌≡◌, ◌≤◌, ◌⊎◌, ⊤, List, Bool, Option, None, Some, IfSome, Ok, Err}
use Rattle.blk_capture.specs.declared.record.Record.{Record}
use Rattle.blk_capture.specs.declared.requests.Options.{Options}
use Rattle.blk_capture.specs.declared.summary.TheConstants.{MAX_STREAMED}
use Rattle.blk_records.specs.Reads.{IsOutside}
use Rattle.blk_records.specs.declared.fault.TextFault.{TextFault}
use Rattle.blk_recorders.specs.Steps.{ReadProgress, read_upto, AreOrdered}
use Rattle.blk_recorders.specs.declared.detect.CaptureForm.{CaptureForm}
use Rattle.blk_recorders.specs.declared.detect.CaptureForm.TheVariants as form
use Rattle.blk_recorders.specs.declared.device.Device.{Device}
use Rattle.blk_recorders.specs.declared.fault.LineFault.{LineFault}
use Rattle.blk_recorders.specs.declared.fault.LineReason.TheVariants as why
use Rattle.blk_recorders.specs.declared.recorder.Recorder.{Recorder}
use Rattle.blk_capture_text.specs.Captures.{SpellsCapture, CaptureTextFault}
use Rattle.blk_capture_text.specs.Source.{csv_rows, form_taken}
use Rattle.blk_capture_text.specs.Streaming.{IsAtWork, HasStreamed, stream_count, stream_options}
use Rattle.blk_capture_text.specs.declared.lines.StreamedCapture.{StreamedCapture}
use Rattle.blk_capture_text.specs.declared.source.Printed.{Printed}
use Rattle.blk_capture_text.specs.declared.source.UnreadCapture.{UnreadCapture}
use Rattle.blk_capture_text.specs.declared.source.UnreadCapture.TheVariants as unread

-- what else the lines of a recorder told
abbrev pub printed_by : Recorder → ReadProgress → Printed
printed_by f t = record { recorder = f; device = t.device; others = t.others; remarks = t.remarks; losses = t.losses }

-- a recorder printed these records, of which there may be as many as are streamed
pub record AreLinesTold (f : Recorder) (device : Option Device) (bytes : List ℕ) (records : List Record) (printed : Option Printed) : Type 0 where
  pub told : ReadProgress
  pub read_so : read_upto MAX_STREAMED f device bytes ≡ Ok told
  pub ordered : AreOrdered f told.records records
  pub printed_is : printed ≡ Some (printed_by f told)

-- bytes tell these records, by their form
abbrev pub IsToldAs : CaptureForm → Option Device → List ℕ → List Record → Option Printed → Type 0
IsToldAs form.Records device bytes records printed = SpellsCapture (csv_rows bytes) records × (printed ≡ None)
IsToldAs (form.Printed f) device bytes records printed = AreLinesTold f device bytes records printed

abbrev pub IsCaptureTold : Option CaptureForm → Option Device → List ℕ → List Record → Option Printed → Type 0
IsCaptureTold asked device bytes records printed = IsToldAs (form_taken asked bytes) device bytes records printed

-- the first line that is no good; memory may run out in place of it
abbrev pub IsFirstBad : Recorder → Option Device → List ℕ → LineFault → Type 0
IsFirstBad f device bytes x = (x.why ≡ why.Memory) ⊎ (read_upto MAX_STREAMED f device bytes ≡ Err x)

-- a capture that is ready to be put in numbers
pub record IsSummable (o : Options) (c : StreamedCapture) : Type 0 where
  pub work : IsAtWork c.streamed
  pub due : stream_options c.streamed ≡ o
  pub few : stream_count c.streamed ≤ MAX_STREAMED

-- the input tells records that were streamed
pub record IsStreamedFrom (o : Options) (asked : Option CaptureForm) (device : Option Device) (input : Option (List ℕ)) (c : StreamedCapture) : Type 0 where
  pub bytes : List ℕ
  pub given : IfSome input (λ known. bytes ≡ known)
  pub records : List Record
  pub told : IsCaptureTold asked device bytes records c.printed
  pub streamed : HasStreamed records c.streamed
  pub ready : IsSummable o c

-- or it has a first fault: of a record, or of a line
pub record IsTextReadFault (asked : Option CaptureForm) (input : Option (List ℕ)) (x : TextFault) : Type 0 where
  pub bytes : List ℕ
  pub given : IfSome input (λ known. bytes ≡ known)
  pub is_records : form_taken asked bytes ≡ form.Records
  pub fault : CaptureTextFault (csv_rows bytes) x.at x.why

pub record IsInputReadFault (asked : Option CaptureForm) (device : Option Device) (input : Option (List ℕ)) (x : LineFault) : Type 0 where
  pub bytes : List ℕ
  pub given : IfSome input (λ known. bytes ≡ known)
  pub recorder : Recorder
  pub is_printed : form_taken asked bytes ≡ form.Printed recorder
  pub fault : IsFirstBad recorder device bytes x

-- or its reader failed, or memory ran out
abbrev pub IsStreamFault : Option CaptureForm → Option Device → Option (List ℕ) → Bool → UnreadCapture → Type 0
IsStreamFault asked device input failed (unread.Text x) = IsOutside failed x.why ⊎ IsTextReadFault asked input x
IsStreamFault asked device input failed (unread.Line x) = IsInputReadFault asked device input x
IsStreamFault asked device input failed unread.Memory = ⊤
