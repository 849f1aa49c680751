-- Which recorder printed a text, by its first lines.
use Rattle.std.specs.Prelude.{ℕ, ◌&&◌, ◌||◌, if◌then◌else◌, Bool, false, List, [], ◌∷◌, take, Option, None, Some, option_map, Result, Ok, Err, is_ok, codes, nat_eq}
use Rattle.std.specs.Str.{bytes_eq}
use Rattle.std.specs.List.{starts_with}
use Rattle.blk_recorders.specs.Words.{Word, words}
use Rattle.blk_recorders.specs.Layouts.{at, step_told}
use Rattle.blk_recorders.specs.Lines.{printed_line_of}
use Rattle.blk_recorders.specs.Steps.{lines_of}
use Rattle.blk_recorders.specs.declared.detect.CaptureForm.{CaptureForm}
use Rattle.blk_recorders.specs.declared.detect.CaptureForm.TheVariants.{Records, Printed}
use Rattle.blk_recorders.specs.declared.detect.TheConstants.{FIRST_LINES}
use Rattle.blk_recorders.specs.declared.fault.LineReason.{LineReason}
use Rattle.blk_recorders.specs.declared.lines.Line.{Line}
use Rattle.blk_recorders.specs.declared.lines.Line.TheVariants as line
use Rattle.blk_recorders.specs.declared.recorder.Recorder.{Recorder}
use Rattle.blk_recorders.specs.declared.recorder.Recorder.TheVariants.{Blkparse, Ftrace, Perf, Bpftrace}

-- `blk-`, perhaps behind a quote or a byte order mark
abbrev pub is_title : Word → Bool
is_title w = starts_with nat_eq w (codes "blk-") || starts_with nat_eq w (34 ∷ codes "blk-") || starts_with nat_eq w (239 ∷ 187 ∷ 191 ∷ codes "blk-")

-- a line tells a step in the form of a recorder
abbrev pub is_step : Result (Line Word) LineReason → Bool
is_step (Ok (line.Step l)) = is_ok (step_told l)
is_step (Ok line.Remark) = false
is_step (Ok line.Loss) = false
is_step (Err w) = false

abbrev pub tells_step : Recorder → List Word → Bool
tells_step f ws = is_step (printed_line_of f ws)

-- what a recorder prints before its steps
abbrev pub heading : List Word → Option Recorder
heading ws =
    if bytes_eq (at ws 0) (codes "Attaching") || bytes_eq (at ws 0) (codes "Attached") then Some Bpftrace
    else (if bytes_eq (at ws 0) (codes "Input") && bytes_eq (at ws 1) (codes "file") then Some Blkparse
    else (if bytes_eq (at ws 0) (codes "#") && bytes_eq (at ws 1) (codes "tracer:") then Some Ftrace
    else None))

-- of which recorder a line tells a step
abbrev pub recorder_of_step : List Word → Option Recorder
recorder_of_step ws =
    if tells_step Ftrace ws then Some Ftrace
    else (if tells_step Blkparse ws then Some Blkparse
    else (if tells_step Perf ws then Some Perf
    else None))

-- the form of which a line is, if it tells
abbrev pub recorder_told : Option Recorder → Option Recorder → Option Recorder
recorder_told (Some f) other = Some f
recorder_told None other = other

abbrev pub form_told : List Word → Option CaptureForm
form_told ws = if is_title (at ws 0) then Some Records else option_map Printed (recorder_told (heading ws) (recorder_of_step ws))

abbrev pub or_first : Option CaptureForm → CaptureForm → CaptureForm
or_first None form = form
or_first (Some form) other = form

unfoldable pub first_form : List (List ℕ) → CaptureForm
first_form [] = Records
first_form (l ∷ ls) = or_first (form_told (words l)) (first_form ls)

-- the first line that tells, among the first ones
abbrev pub form_of_lines : List ℕ → CaptureForm
form_of_lines text = first_form (take FIRST_LINES (lines_of text))
