-- A capture of any form, by its bytes.
use Rattle.std.specs.Prelude.{ℕ, ◌≡◌, ◌==◌, not, if◌then◌else◌, ⊤, Bool, false, List, length, take, Option, None, Some}
use Rattle.std.specs.List.{list_any}
use Rattle.csv.specs.Reading.{default_config, records, strip_bom}
use Rattle.blk_records.specs.Sources.{Row}
use Rattle.blk_recorders.specs.Detected.{form_of_lines}
use Rattle.blk_recorders.specs.Steps.{AreSteps, IsLineFault}
use Rattle.blk_recorders.specs.declared.detect.CaptureForm.{CaptureForm}
use Rattle.blk_recorders.specs.declared.detect.CaptureForm.TheVariants as form
use Rattle.blk_recorders.specs.declared.device.Device.{Device}
use Rattle.blk_recorders.specs.declared.recorder.Recorder.{Recorder}
use Rattle.blk_recorders.specs.declared.steps.Steps.{Steps}
use Rattle.blk_capture_text.specs.Captures.{SpellsCapture, CaptureTextFault}
use Rattle.blk_capture_text.specs.declared.source.TheConstants.{FIRST_BYTES}
use Rattle.blk_capture_text.specs.declared.source.CaptureRead.{CaptureRead}
use Rattle.blk_capture_text.specs.declared.source.Printed.{Printed}
use Rattle.blk_capture_text.specs.declared.source.UnreadCapture.{UnreadCapture}
use Rattle.blk_capture_text.specs.declared.source.UnreadCapture.TheVariants as unread

-- the rows of bytes, as CSV has them
abbrev pub csv_rows : List ℕ → List Row
csv_rows bytes = records default_config (strip_bom bytes)

-- bytes are a text: there are some, and none of the first ones is NUL
abbrev pub has_nul : List ℕ → Bool
has_nul bytes = list_any (λ c. c == 0) (take FIRST_BYTES bytes)

abbrev pub is_text : List ℕ → Bool
is_text bytes = if length bytes == 0 then false else not (has_nul bytes)

-- the form that is asked for, or that the first lines tell; what is no text has no title of `blk-capture`
abbrev pub form_or_told : Option CaptureForm → List ℕ → CaptureForm
form_or_told (Some f) bytes = f
form_or_told None bytes = form_of_lines bytes

abbrev pub form_taken : Option CaptureForm → List ℕ → CaptureForm
form_taken asked bytes = if is_text bytes then form_or_told asked bytes else form.Records

-- of the form `blk-capture`
abbrev pub ReadsRecords : List ℕ → CaptureRead → Type 0
ReadsRecords bytes r = SpellsCapture (csv_rows bytes) r.records.items × (r.printed ≡ None)

abbrev pub IsRecordsFault : List ℕ → UnreadCapture → Type 0
IsRecordsFault bytes (unread.Text f) = CaptureTextFault (csv_rows bytes) f.at f.why
IsRecordsFault bytes (unread.Line f) = ⊥
IsRecordsFault bytes unread.Memory = ⊤

-- what a recorder printed
abbrev pub printed_of : Recorder → Steps → Printed
printed_of f s = record { recorder = f; device = s.device; others = s.others; remarks = s.remarks; losses = s.losses }

pub record ReadsLines (f : Recorder) (device : Option Device) (bytes : List ℕ) (r : CaptureRead) : Type 0 where
  pub steps : Steps
  pub are : AreSteps f device bytes steps
  pub records_are : r.records.items ≡ steps.records.items
  pub printed_is : r.printed ≡ Some (printed_of f steps)

abbrev pub IsLinesFault : Recorder → Option Device → List ℕ → UnreadCapture → Type 0
IsLinesFault f device bytes (unread.Text x) = ⊥
IsLinesFault f device bytes (unread.Line x) = IsLineFault f device bytes x
IsLinesFault f device bytes unread.Memory = ⊤

-- a capture by its form
abbrev pub ReadsAs : CaptureForm → Option Device → List ℕ → CaptureRead → Type 0
ReadsAs form.Records device bytes r = ReadsRecords bytes r
ReadsAs (form.Printed f) device bytes r = ReadsLines f device bytes r

abbrev pub IsCaptureReadFault : CaptureForm → Option Device → List ℕ → UnreadCapture → Type 0
IsCaptureReadFault form.Records device bytes x = IsRecordsFault bytes x
IsCaptureReadFault (form.Printed f) device bytes x = IsLinesFault f device bytes x

abbrev pub IsCaptureRead : Option CaptureForm → Option Device → List ℕ → CaptureRead → Type 0
IsCaptureRead asked device bytes r = ReadsAs (form_taken asked bytes) device bytes r

-- memory may run out in place of any other fault
abbrev pub IsCaptureUnread : Option CaptureForm → Option Device → List ℕ → UnreadCapture → Type 0
IsCaptureUnread asked device bytes x = IsCaptureReadFault (form_taken asked bytes) device bytes x
