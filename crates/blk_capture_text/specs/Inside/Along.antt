-- A capture that is read part by part, between its parts.
use Rattle.std.specs.Prelude.{ℕ, ◌≡◌, ◌≤◌, ◌+◌, ◌++◌, ⊤, true, false, List, [], length, count_by, ◌==◌, ◌&&◌, Bool, nat_le, Option, None, IfSome, Result, Ok, Err, OnOk}
use Rattle.std.specs.Io.KnownBytes.{Consumes, IsAtEnd}
use Rattle.blk_capture.specs.Requests.{AreInOrder}
use Rattle.blk_capture.specs.declared.record.Record.{Record}
use Rattle.blk_capture.specs.declared.requests.Options.{Options}
use Rattle.blk_capture.specs.declared.summary.TheConstants.{MAX_STREAMED}
use Rattle.blk_records.specs.Reads.{IsOutside}
use Rattle.blk_recorders.specs.Steps.{is_unordered, lines_of, read_from, read_upto, EndsLine, HasWholeLines, Rises, sofar, at_hand, steps_read, line_next}
use Rattle.blk_recorders.specs.declared.detect.TheConstants.{FIRST_LINES}
use Rattle.blk_recorders.specs.declared.device.Device.{Device}
use Rattle.blk_recorders.specs.declared.fault.LineFault.{LineFault}
use Rattle.blk_recorders.specs.declared.recorder.Recorder.{Recorder}
use Rattle.blk_capture_text.specs.Captures.{SpellsCapture}
use Rattle.blk_capture_text.specs.Source.{csv_rows}
use Rattle.blk_capture_text.specs.Streaming.{IsAtWork, HasStreamed, stream_options}
use Rattle.blk_capture_text.specs.declared.lines.LineStream.{LineStream}
use Rattle.blk_capture_text.specs.declared.lines.StreamedCapture.{StreamedCapture}
use Rattle.blk_capture_text.specs.declared.source.TheConstants.{FIRST_BYTES}
use Rattle.blk_capture_text.specs.declared.source.UnreadCapture.{UnreadCapture}
use Rattle.blk_capture_text.specs.declared.source.UnreadCapture.TheVariants as unread
use Rattle.blk_capture_text.specs.declared.summing.FirstPart.{FirstPart}
use Rattle.blk_capture_text.specs.Streams.{AreLinesTold, IsFirstBad, IsSummable}
use Rattle.blk_capture_text.specs.declared.streaming.Streamed.{Streamed}

-- the same of a line, or memory ran out
abbrev pub IsLineReadFault : Recorder → Option Device → List ℕ → UnreadCapture → Type 0
IsLineReadFault f device bytes (unread.Text x) = ⊥
IsLineReadFault f device bytes (unread.Line x) = IsFirstBad f device bytes x
IsLineReadFault f device bytes unread.Memory = ⊤

-- the lines of a text were read, whatever stands behind it, and these records were streamed
pub record AreLinesRead (o : Options) (f : Recorder) (device : Option Device) (past : List ℕ) (given : List Record) (s : LineStream) : Type 0 where
  pub reads : (rest : List ℕ) → HasWholeLines past rest → read_upto MAX_STREAMED f device (past ++ rest) ≡ read_from MAX_STREAMED f device (line_next s.reader) (sofar given s.reader) (lines_of rest)
  pub rises : is_unordered f ≡ false → Rises (sofar given s.reader)
  pub streamed : HasStreamed given s.streamed
  pub kept : is_unordered f ≡ true → given ≡ []
  pub work : IsAtWork s.streamed
  pub due : stream_options s.streamed ≡ o
  pub counted : steps_read s.reader ≡ length given + length (at_hand s.reader)
  pub few : steps_read s.reader ≤ MAX_STREAMED

-- and of those of a recorder whose lines are in order none is at hand
pub record IsPassedOn (o : Options) (f : Recorder) (device : Option Device) (past : List ℕ) (s : LineStream) : Type 0 where
  pub given : List Record
  pub read : AreLinesRead o f device past given s
  pub none : is_unordered f ≡ false → at_hand s.reader ≡ []

-- a text was taken in, of which a line that isn't whole yet is pending
pub record IsAlong (o : Options) (f : Recorder) (device : Option Device) (text : List ℕ) (s : LineStream) : Type 0 where
  pub past : List ℕ
  pub all : text ≡ past ++ s.pending.items
  pub ends : EndsLine past
  pub passed : IsPassedOn o f device past s

-- the pending line was read as one, as it is where whole lines end with it
abbrev pub ReadsPending : Options → Recorder → Option Device → List ℕ → LineStream → Result (Unit {0}) UnreadCapture → Type 0
ReadsPending o f device text new (Ok u) = IsPassedOn o f device text new
ReadsPending o f device text new (Err x) = (rest : List ℕ) → HasWholeLines text rest → IsLineReadFault f device (text ++ rest) x

-- a part more was taken in, or a line is no good, whatever follows
abbrev pub TakesPart : Options → Recorder → Option Device → List ℕ → LineStream → Result (Unit {0}) UnreadCapture → Type 0
TakesPart o f device text new (Ok u) = IsAlong o f device text new
TakesPart o f device text new (Err x) = (rest : List ℕ) → IsLineReadFault f device (text ++ rest) x

-- all of a text was taken in: its records were streamed
pub record AreStreamed (o : Options) (f : Recorder) (device : Option Device) (text : List ℕ) (c : StreamedCapture) : Type 0 where
  pub records : List Record
  pub told : AreLinesTold f device text records c.printed
  pub streamed : HasStreamed records c.streamed
  pub ready : IsSummable o c

-- ---- the first bytes
abbrev pub count_feeds : List ℕ → ℕ
count_feeds bytes = count_by (λ c. c == 10) bytes

-- they tell the form of all, whatever follows
abbrev pub tells_form : ℕ → List ℕ → Bool
tells_form feeds bytes = nat_le FIRST_LINES feeds && nat_le FIRST_BYTES (length bytes)

-- a first part of an input was read: enough of it, or all
pub record IsFirstPart (old new : Option (List ℕ)) (p : FirstPart) : Type 0 where
  pub consumed : Consumes old new p.bytes.items
  pub whole : p.is_whole ≡ true → IsAtEnd new
  pub enough : p.is_whole ≡ false → tells_form (count_feeds p.bytes.items) p.bytes.items ≡ true

-- bytes of the input, where these are known, that begin with the first part, and are no more where that is whole
pub record IsInputFrom (input : Option (List ℕ)) (p : FirstPart) (bytes : List ℕ) : Type 0 where
  pub given : IfSome input (λ known. bytes ≡ known)
  pub rest : List ℕ
  pub all : bytes ≡ p.bytes.items ++ rest
  pub whole : p.is_whole ≡ true → rest ≡ []

-- what was left behind a text was taken in: all of it, where it is known
pub record TakesRest (o : Options) (f : Recorder) (device : Option Device) (text : List ℕ) (left : Option (List ℕ)) (s : LineStream) : Type 0 where
  pub rest : List ℕ
  pub given : IfSome left (λ known. rest ≡ known)
  pub along : IsAlong o f device (text ++ rest) s

pub record IsBadBehind (f : Recorder) (device : Option Device) (text : List ℕ) (left : Option (List ℕ)) (x : LineFault) : Type 0 where
  pub rest : List ℕ
  pub given : IfSome left (λ known. rest ≡ known)
  pub fault : IsFirstBad f device (text ++ rest) x

abbrev pub IsRestUntold : Recorder → Option Device → List ℕ → Option (List ℕ) → Bool → UnreadCapture → Type 0
IsRestUntold f device text left failed (unread.Text x) = IsOutside failed x.why
IsRestUntold f device text left failed (unread.Line x) = IsBadBehind f device text left x
IsRestUntold f device text left failed unread.Memory = ⊤

-- lines of an input whose first part was read
pub record AreLinesStreamed (o : Options) (f : Recorder) (device : Option Device) (input : Option (List ℕ)) (p : FirstPart) (c : StreamedCapture) : Type 0 where
  pub bytes : List ℕ
  pub on : IsInputFrom input p bytes
  pub streamed : AreStreamed o f device bytes c

pub record IsBadIn (f : Recorder) (device : Option Device) (input : Option (List ℕ)) (p : FirstPart) (x : LineFault) : Type 0 where
  pub bytes : List ℕ
  pub on : IsInputFrom input p bytes
  pub fault : IsFirstBad f device bytes x

abbrev pub AreLinesUnstreamed : Recorder → Option Device → Option (List ℕ) → FirstPart → Bool → UnreadCapture → Type 0
AreLinesUnstreamed f device input p failed (unread.Text x) = IsOutside failed x.why
AreLinesUnstreamed f device input p failed (unread.Line x) = IsBadIn f device input p x
AreLinesUnstreamed f device input p failed unread.Memory = ⊤

-- records of bytes that are all at hand
pub record AreRecordsStreamed (o : Options) (bytes : List ℕ) (c : StreamedCapture) : Type 0 where
  pub records : List Record
  pub spelled : SpellsCapture (csv_rows bytes) records
  pub streamed : HasStreamed records c.streamed
  pub plain : c.printed ≡ None
  pub ready : IsSummable o c

-- ---- of every text that may have been taken in
abbrev pub IsAlongSome : Recorder → Option Device → LineStream → Type 0
IsAlongSome f device s = (o : Options) × (text : List ℕ) × IsAlong o f device text s

abbrev pub IsReadSome : Recorder → LineStream → Type 0
IsReadSome f s = (o : Options) × (d : Option Device) × (past : List ℕ) × (given : List Record) × AreLinesRead o f d past given s

abbrev pub PassesOn : {E : Type 0} → Recorder → LineStream → LineStream → Result (Unit {0}) E → Type 0
PassesOn {E} f old new result = (o : Options) (d : Option Device) (past : List ℕ) (given : List Record) → AreLinesRead o f d past given old → OnOk result (IsPassedOn o f d past new)

abbrev pub ReadsPendingOf : Recorder → Option Device → LineStream → LineStream → Result (Unit {0}) UnreadCapture → Type 0
ReadsPendingOf f device old new result = (o : Options) (text : List ℕ) → IsAlong o f device text old → ReadsPending o f device text new result

abbrev pub TakesPartOf : Recorder → Option Device → List ℕ → LineStream → LineStream → Result (Unit {0}) UnreadCapture → Type 0
TakesPartOf f device part old new result = (o : Options) (text : List ℕ) → IsAlong o f device text old → TakesPart o f device (text ++ part) new result

-- all of it ends as it should
abbrev pub EndsStreamed : Options → Recorder → Option Device → List ℕ → Result StreamedCapture UnreadCapture → Type 0
EndsStreamed o f device text (Ok c) = AreStreamed o f device text c
EndsStreamed o f device text (Err x) = IsLineReadFault f device text x

abbrev pub EndsStreamedOf : Recorder → Option Device → LineStream → Result StreamedCapture UnreadCapture → Type 0
EndsStreamedOf f device s result = (o : Options) (text : List ℕ) → IsAlong o f device text s → EndsStreamed o f device text result

-- these records go on from those that were streamed
abbrev pub GoBehind : List Record → Streamed → Type 0
GoBehind records s = (past : List Record) × HasStreamed past s × AreInOrder (past ++ records) (length (past ++ records))

abbrev pub StreamsBehind : List Record → Streamed → StreamedCapture → Type 0
StreamsBehind records s c = (past : List Record) → HasStreamed past s → HasStreamed (past ++ records) c.streamed

abbrev pub IsReadFaultIf : UnreadCapture → UnreadCapture → Type 0
IsReadFaultIf x y = (f : Recorder) (d : Option Device) (bytes : List ℕ) → IsLineReadFault f d bytes x → IsLineReadFault f d bytes y

-- the rest of an input was taken in, or not
abbrev pub EndsRest : Options → Recorder → Option Device → List ℕ → Option (List ℕ) → Bool → LineStream → Result (Unit {0}) UnreadCapture → Type 0
EndsRest o f device text left failed new (Ok u) = TakesRest o f device text left new
EndsRest o f device text left failed new (Err x) = IsRestUntold f device text left failed x

abbrev pub EndsRestOf : Recorder → Option Device → Option (List ℕ) → Bool → LineStream → LineStream → Result (Unit {0}) UnreadCapture → Type 0
EndsRestOf f device left failed old new result = (o : Options) (text : List ℕ) → IsAlong o f device text old → EndsRest o f device text left failed new result

-- of an input whose first part was read
abbrev pub EndsLines : Options → Recorder → Option Device → Option (List ℕ) → FirstPart → Bool → Result StreamedCapture UnreadCapture → Type 0
EndsLines o f device input p failed (Ok c) = AreLinesStreamed o f device input p c
EndsLines o f device input p failed (Err x) = AreLinesUnstreamed f device input p failed x

abbrev pub EndsLinesOf : Options → Recorder → Option Device → FirstPart → Option (List ℕ) → Bool → Result StreamedCapture UnreadCapture → Type 0
EndsLinesOf o f device p left failed result = (input : Option (List ℕ)) → IsFirstPart input left p → EndsLines o f device input p failed result

abbrev pub ReadsRest : FirstPart → Option (List ℕ) → List ℕ → Type 0
ReadsRest p left bytes = (input : Option (List ℕ)) → IsFirstPart input left p → IsInputFrom input p bytes
