-- The steps that a recorder printed, line by line.
use Rattle.std.specs.Prelude.{ℕ, ◌≡◌, ◌⊎◌, ◌+◌, ◌-◌, ◌^◌, ◌==◌, ◌&&◌, not, min, if◌then◌else◌, nat_lt, nat_le, get_or, slice_index_or, ◌<◌, ◌≤◌, Bool, true, false, List, [], ◌∷◌, ◌++◌, length, Option, None, Some, Result, Ok, Err, OnOk}
use Rattle.std.specs.List.{slice_split}
use Rattle.std.specs.List.Sorted.{IsPermutation, IsSorted, IsStable}
use Rattle.std.specs.Ordering.{nat_cmp}
use Rattle.std.specs.declared.cmp.Ordering.{Ordering}
use Rattle.blk_capture.specs.Requests.{AreInOrder}
use Rattle.blk_capture.specs.declared.record.Record.{Record}
use Rattle.blk_recorders.specs.Words.{Word, words}
use Rattle.blk_recorders.specs.Layouts.{is_device, step_told}
use Rattle.blk_recorders.specs.Lines.{printed_line_of}
use Rattle.blk_recorders.specs.declared.device.Device.{Device}
use Rattle.blk_recorders.specs.declared.fault.LineFault.{LineFault}
use Rattle.blk_recorders.specs.declared.fault.LineReason.{LineReason}
use Rattle.blk_recorders.specs.declared.fault.LineReason.TheVariants as why
use Rattle.blk_recorders.specs.declared.layout.Step.{Step}
use Rattle.blk_recorders.specs.declared.lines.Line.{Line}
use Rattle.blk_recorders.specs.declared.lines.Line.TheVariants as line
use Rattle.blk_recorders.specs.declared.recorder.Recorder.{Recorder}
use Rattle.blk_recorders.specs.declared.recorder.Recorder.TheVariants.{Blkparse, Ftrace, Perf, Bpftrace}
use Rattle.blk_recorders.specs.declared.steps.StepReader.{StepReader}
use Rattle.blk_recorders.specs.declared.steps.Steps.{Steps}
use Rattle.blk_recorders.specs.declared.steps.TheConstants.{MAX_STEPS}

-- what was read so far: the records, how many there are, the device that they are of, how many steps of other devices, remarks and notices of
-- a loss there were, and the time of the last record
pub record ReadProgress : Type 0 where
  pub records : List Record
  pub count : ℕ
  pub device : Option Device
  pub others : ℕ
  pub remarks : ℕ
  pub losses : ℕ
  pub last : ℕ

abbrev pub none_yet : ReadProgress
none_yet = record { records = []; count = 0; device = None; others = 0; remarks = 0; losses = 0; last = 0 }

-- one more, of a count that stays at the greatest number of 64 bits
abbrev pub more : ℕ → ℕ
more n = min (n + 1) (2 ^ 64 - 1)

-- a step of another device than the one that is asked for; what names none is of any
abbrev pub is_other : Option Device → Option Device → Bool
is_other None d = false
is_other (Some asked) None = false
is_other (Some asked) (Some d) = not (is_device asked d)

-- the device of the steps up to one; None where that is of another one than those before
abbrev pub settle : Option Device → Option Device → Option (Option Device)
settle old None = Some old
settle None (Some d) = Some (Some d)
settle (Some e) (Some d) = if is_device e d then Some (Some e) else None

-- whether the lines of a recorder may stand in any order of their times
abbrev pub is_unordered : Recorder → Bool
is_unordered Blkparse = false
is_unordered Ftrace = false
is_unordered Perf = false
is_unordered Bpftrace = true

abbrev pub falls : Recorder → ReadProgress → Record → Bool
falls f s r = not (is_unordered f) && nat_lt r.time s.last

-- a step is read: its device is settled, its time isn't earlier than the last, and there is room among the most records that are taken
abbrev pub keep : ℕ → Recorder → ReadProgress → Record → Option (Option Device) → Result ReadProgress LineReason
keep most f s r None = Err why.Devices
keep most f s r (Some d) =
    if falls f s r then Err why.Order
    else (if nat_le most s.count then Err why.TooLong
    else Ok (record s { records = s.records ++ r ∷ []; count = s.count + 1; device = d; last = r.time }))

abbrev pub take_step : ℕ → Recorder → Option Device → ReadProgress → Step → Result ReadProgress LineReason
take_step most f asked s x = if is_other asked x.device then Ok (record s { others = more s.others }) else keep most f s x.told (settle s.device x.device)

abbrev pub if_step : ℕ → Recorder → Option Device → ReadProgress → Result Step LineReason → Result ReadProgress LineReason
if_step most f asked s (Ok x) = take_step most f asked s x
if_step most f asked s (Err w) = Err w

abbrev pub take_line : ℕ → Recorder → Option Device → ReadProgress → Result (Line Word) LineReason → Result ReadProgress LineReason
take_line most f asked s (Err w) = Err w
take_line most f asked s (Ok (line.Step l)) = if_step most f asked s (step_told l)
take_line most f asked s (Ok line.Remark) = Ok (record s { remarks = more s.remarks })
take_line most f asked s (Ok line.Loss) = Ok (record s { losses = more s.losses })

-- a line without words is none
abbrev pub take_words : ℕ → Recorder → Option Device → ReadProgress → List Word → Result ReadProgress LineReason
take_words most f asked s [] = Ok s
take_words most f asked s (w ∷ ws) = take_line most f asked s (printed_line_of f (w ∷ ws))

abbrev pub take : ℕ → Recorder → Option Device → ReadProgress → List ℕ → Result ReadProgress LineReason
take most f asked s text = take_words most f asked s (words text)

-- the lines from one of this number on
abbrev pub go_on : ℕ → (ReadProgress → Result ReadProgress LineFault) → Result ReadProgress LineReason → Result ReadProgress LineFault
go_on n rest (Ok s) = rest s
go_on n rest (Err w) = Err (record { at = n; why = w })

unfoldable pub read_from : ℕ → Recorder → Option Device → ℕ → ReadProgress → List (List ℕ) → Result ReadProgress LineFault
read_from most f asked n s [] = Ok s
read_from most f asked n s (l ∷ ls) = go_on n (λ t. read_from most f asked (more n) t ls) (take most f asked s l)

-- the lines of a text
abbrev pub lines_of : List ℕ → List (List ℕ)
lines_of text = slice_split (λ c. c == 10) text

abbrev pub read_upto : ℕ → Recorder → Option Device → List ℕ → Result ReadProgress LineFault
read_upto most f asked text = read_from most f asked 1 none_yet (lines_of text)

abbrev pub read_printed : Recorder → Option Device → List ℕ → Result ReadProgress LineFault
read_printed f asked text = read_upto MAX_STEPS f asked text

-- nothing stands behind a text, or it ends with a line's end
abbrev pub EndsLine : List ℕ → Type 0
EndsLine text = (k : ℕ) → k + 1 ≡ length text → (get_or text k 0 == 10) ≡ true

abbrev pub HasWholeLines : List ℕ → List ℕ → Type 0
HasWholeLines text rest = (rest ≡ []) ⊎ EndsLine text

-- the lines of a text were read, so that those of what stands behind it are left; or there is the first that is no good, or memory ran out
abbrev pub ReadsOn : ℕ → Recorder → Option Device → ℕ → ReadProgress → List ℕ → List ℕ → ℕ → ReadProgress → Result (Unit {0}) LineFault → Type 0
ReadsOn most f asked n s text rest m t (Ok u) = read_from most f asked n s (lines_of (text ++ rest)) ≡ read_from most f asked m t (lines_of rest)
ReadsOn most f asked n s text rest m t (Err x) = (x.why ≡ why.Memory) ⊎ (read_from most f asked n s (lines_of (text ++ rest)) ≡ Err x)

-- the records so far rise, up to the last time
pub record Rises (s : ReadProgress) : Type 0 where
  pub rising : AreInOrder s.records (length s.records)
  pub below : (k : ℕ) (d : Record) → k < length s.records → (slice_index_or s.records k d).time ≤ s.last

-- records by their times, those of one time as they were told
abbrev pub time_cmp : Record → Record → Ordering
time_cmp x y = nat_cmp x.time y.time

pub record AreByTime (told records : List Record) : Type 0 where
  pub same : IsPermutation told records
  pub sorted : IsSorted time_cmp records
  pub stable : IsStable time_cmp told records

abbrev pub AreOrdered : Recorder → List Record → List Record → Type 0
AreOrdered Bpftrace told records = AreByTime told records
AreOrdered f told records = records ≡ told

-- what a text of a recorder tells
pub record AreSteps (f : Recorder) (asked : Option Device) (text : List ℕ) (s : Steps) : Type 0 where
  pub told : ReadProgress
  pub read_so : read_printed f asked text ≡ Ok told
  pub ordered : AreOrdered f told.records s.records.items
  pub device_is : s.device ≡ told.device
  pub others_are : s.others ≡ told.others
  pub remarks_are : s.remarks ≡ told.remarks
  pub losses_are : s.losses ≡ told.losses

-- the first line that is no good, or memory ran out
abbrev pub IsLineFault : Recorder → Option Device → List ℕ → LineFault → Type 0
IsLineFault f asked text x = (x.why ≡ why.Memory) ⊎ (read_printed f asked text ≡ Err x)

-- what was read, by a reader whose records before those at hand were these, and the number of its next line
abbrev pub sofar : List Record → StepReader → ReadProgress
sofar past r = record { records = past ++ r.steps.records.items; count = r.count; device = r.steps.device; others = r.steps.others; remarks = r.steps.remarks; losses = r.steps.losses; last = r.last }

abbrev pub at_hand : StepReader → List Record
at_hand r = r.steps.records.items

abbrev pub steps_read : StepReader → ℕ
steps_read r = r.count

abbrev pub line_next : StepReader → ℕ
line_next r = r.number

-- as many records more are counted as are at hand
abbrev pub IsCountedOn : StepReader → StepReader → Type 0
IsCountedOn old new = steps_read new + length (at_hand old) ≡ steps_read old + length (at_hand new)

-- all but the records is the same
pub record HasCounts (r : StepReader) (s : Steps) : Type 0 where
  pub device_is : s.device ≡ r.steps.device
  pub others_are : s.others ≡ r.steps.others
  pub remarks_are : s.remarks ≡ r.steps.remarks
  pub losses_are : s.losses ≡ r.steps.losses

-- a reader read the lines of a text, whatever its records were before those at hand and whatever stands behind the text
abbrev pub ReadsText : ℕ → Recorder → Option Device → List ℕ → StepReader → StepReader → Result (Unit {0}) LineFault → Type 0
ReadsText most f asked text old new result =
    (past : List Record) (rest : List ℕ) → HasWholeLines text rest → ReadsOn most f asked (line_next old) (sofar past old) text rest (line_next new) (sofar past new) result

-- and its records rise if they did, where those of the recorder are in order
abbrev pub RisesOn : Recorder → StepReader → StepReader → Result (Unit {0}) LineFault → Type 0
RisesOn f old new result = (past : List Record) → is_unordered f ≡ false → Rises (sofar past old) → OnOk result (Rises (sofar past new))

-- the records at hand were let go of
abbrev pub HandsOn : StepReader → StepReader → Type 0
HandsOn old new = (past : List Record) → sofar (past ++ at_hand old) new ≡ sofar past old
