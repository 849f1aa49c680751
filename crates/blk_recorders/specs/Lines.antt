-- The lines of each recorder.
use Rattle.std.specs.Prelude.{ℕ, ◌+◌, ◌-◌, ◌==◌, ◌&&◌, ◌||◌, not, if◌then◌else◌, nat_lt, nat_le, Bool, true, false, List, [], ◌∷◌, length, get_or, take, drop, is_some, Option, None, Some, option_map, Result, Ok, Err, codes}
use Rattle.std.specs.List.{list_any}
use Rattle.std.specs.Str.{bytes_eq}
use denote.Ref.{Bor}
use Rattle.blk_capture.specs.Passing.{action_by, passed_action}
use Rattle.blk_capture.specs.declared.record.Action.{Action}
use Rattle.blk_capture.specs.declared.record.Action.TheVariants as action
use Rattle.blk_recorders.specs.Words.{Word, fields, is_digit, begins_with, before_byte, behind_last, number}
use Rattle.blk_recorders.specs.Layouts.{at, laid, device_of, placed, seconds_of, fraction_of, span_from, with_span}
use Rattle.blk_recorders.specs.declared.fault.LineReason.{LineReason}
use Rattle.blk_recorders.specs.declared.fault.LineReason.TheVariants as why
use Rattle.blk_recorders.specs.declared.layout.Layout.{Layout}
use Rattle.blk_recorders.specs.declared.layout.Span.{Span}
use Rattle.blk_recorders.specs.declared.layout.Span.TheVariants as span
use Rattle.blk_recorders.specs.declared.lines.Line.{Line}
use Rattle.blk_recorders.specs.declared.lines.Line.TheVariants.{Step, Remark, Loss}
use Rattle.blk_recorders.specs.declared.lines.TheConstants.{BLKPARSE, CLASSIC, ROW_WIDTH}
use Rattle.blk_recorders.specs.declared.recorder.Recorder.{Recorder}
use Rattle.blk_recorders.specs.declared.recorder.Recorder.TheVariants.{Blkparse, Ftrace, Perf, Bpftrace}

-- what references point to
abbrev pub lined : Line (Bor Word) → Line Word
lined (Step l) = Step (laid l)
lined Remark = Remark
lined Loss = Loss

-- the place of the first word that passes a test, of words of which the first has this place
abbrev pub place_from : (Word → Bool) → ℕ → List Word → Option ℕ
place_from p k [] = None
place_from p k (w ∷ ws) = if p w then Some k else place_from p (k + 1) ws

abbrev pub begins_with_digit : Word → Bool
begins_with_digit [] = false
begins_with_digit (c ∷ cs) = is_digit c

abbrev pub ends_with_byte : ℕ → Word → Bool
ends_with_byte c w = not (length w == 0) && (get_or w (length w - 1) 0 == c)

-- words by which recorders say that something was lost
abbrev pub is_of_loss : Word → Bool
is_of_loss w = bytes_eq w (codes "Lost") || bytes_eq w (codes "[LOST") || bytes_eq w (codes "PERF_RECORD_LOST") || bytes_eq w (codes "lost") || bytes_eq w (codes "dropped")

abbrev pub is_no_zero : Option ℕ → Bool
is_no_zero None = true
is_no_zero (Some n) = not (n == 0)

abbrev pub tells_loss : List Word → Bool
tells_loss ws = if bytes_eq (at ws 0) (codes "Skips:") then is_no_zero (number (at ws 1)) else list_any is_of_loss ws

abbrev pub remark : List Word → Line Word
remark ws = if tells_loss ws then Loss else Remark

abbrev pub as_step : Result (Layout Word) LineReason → Result (Line Word) LineReason
as_step (Ok l) = Ok (Step l)
as_step (Err w) = Err w

-- a row: seconds, nanoseconds, processor, action, process, rwbs, first sector, sectors
abbrev pub row_layout : List Word → Result (Layout Word) LineReason
row_layout r =
    if length r == ROW_WIDTH
    then Ok (record { device = None; seconds = at r 0; fraction = at r 1; cpu = at r 2; action = action_by (at r 3); pid = at r 4; rwbs = at r 5; span = span.Sectors (at r 6) (at r 7) })
    else Err why.Fields

abbrev pub row_step : Word → Result (Line Word) LineReason
row_step row = as_step (row_layout (fields row))

-- what stands between brackets
abbrev pub inside : Word → Word
inside w = if nat_le 2 (length w) && begins_with 91 w && ends_with_byte 93 w then take (length w - 2) (drop 1 w) else []

abbrev pub is_cpu : Word → Bool
is_cpu w = is_some (number (inside w))

-- blkparse: a row, or the columns of its default output
abbrev pub blkparse_line : List Word → Result (Line Word) LineReason
blkparse_line ws =
    if begins_with_digit (at ws 0)
    then (if length ws == 1 then row_step (at ws 0) else as_step (placed ws BLKPARSE))
    else Ok (remark ws)

abbrev pub bpftrace_line : List Word → Result (Line Word) LineReason
bpftrace_line ws =
    if begins_with_digit (at ws 0)
    then (if length ws == 1 then row_step (at ws 0) else Err why.Fields)
    else Ok (remark ws)

-- the time before its colon
abbrev pub clock_of : Word → Word
clock_of w = before_byte 58 w

-- ftrace: `TASK-PID [CPU] FLAGS TIME: DEVICE ACTION RWBS ..`, by the places of the processor and of the time; the flags may be missing
abbrev pub task_layout : List Word → ℕ → ℕ → Span Word → Layout Word
task_layout ws cpu time s = record {
  device = Some (at ws (time + 1));
  seconds = seconds_of (clock_of (at ws time));
  fraction = fraction_of (clock_of (at ws time));
  cpu = inside (at ws cpu);
  action = action_by (at ws (time + 2));
  pid = behind_last 45 (at ws (cpu - 1));
  rwbs = at ws (time + 3);
  span = s;
}

abbrev pub timed_line : List Word → ℕ → ℕ → Result (Line Word) LineReason
timed_line ws cpu time =
    if (cpu == 0) || nat_le (length ws) (time + 1) then Err why.Fields
    else (if is_some (device_of (at ws (time + 1)))
    then as_step (with_span (task_layout ws cpu time) (span_from (action_by (at ws (time + 2))) ws (time + 4)))
    else Ok Remark)

abbrev pub task_line : List Word → ℕ → Result (Line Word) LineReason
task_line ws cpu = timed_line ws cpu (if ends_with_byte 58 (at ws (cpu + 1)) then cpu + 1 else cpu + 2)

abbrev pub of_task : List Word → Option ℕ → Result (Line Word) LineReason
of_task ws (Some cpu) = task_line ws cpu
of_task ws None = if tells_loss ws then Ok Loss else Err why.Fields

abbrev pub ftrace_line : List Word → Result (Line Word) LineReason
ftrace_line ws =
    if begins_with 35 (at ws 0) then Ok (remark ws)
    else (if is_some (device_of (at ws 0)) then as_step (placed ws CLASSIC)
    else of_task ws (place_from is_cpu 0 ws))

-- perf: `.. PID [CPU] TIME: EVENT: DEVICE RWBS ..`; of a request its bytes and command, `()`, stand before the range of sectors
abbrev pub request_event_of : Word → Option Action
request_event_of w =
    if bytes_eq w (codes "block:block_rq_insert:") then Some action.Insert
    else (if bytes_eq w (codes "block:block_rq_issue:") then Some action.Issue
    else (if bytes_eq w (codes "block:block_rq_complete:") then Some action.Complete
    else (if bytes_eq w (codes "block:block_rq_requeue:") then Some action.Requeue
    else (if bytes_eq w (codes "block:block_rq_merge:") then Some action.BackMerge
    else None))))

abbrev pub event_of : Word → Option Action
event_of w =
    if bytes_eq w (codes "block:block_bio_queue:") then Some action.Queue
    else (if bytes_eq w (codes "block:block_getrq:") then Some action.Get
    else (if bytes_eq w (codes "block:block_bio_backmerge:") then Some action.BackMerge
    else (if bytes_eq w (codes "block:block_bio_frontmerge:") then Some action.FrontMerge
    else (if bytes_eq w (codes "block:block_split:") then Some action.Split
    else (if bytes_eq w (codes "block:block_plug:") then Some action.Plug
    else (if bytes_eq w (codes "block:block_unplug:") then Some action.Unplug
    else request_event_of w))))))

abbrev pub is_event : Word → Bool
is_event w = is_some (event_of w)

abbrev pub place_of_range : List Word → ℕ → Option ℕ
place_of_range ws k =
    if is_some (request_event_of (at ws k))
    then option_map (λ j. j + 1) (place_from (ends_with_byte 41) (k + 3) (drop (k + 3) ws))
    else Some (k + 3)

abbrev pub perf_parts : List Word → ℕ → Action → Span Word → Layout Word
perf_parts ws k a s = record {
  device = if is_some (passed_action a) then None else Some (at ws (k + 1));
  seconds = seconds_of (clock_of (at ws (k - 1)));
  fraction = fraction_of (clock_of (at ws (k - 1)));
  cpu = inside (at ws (k - 2));
  action = a;
  pid = at ws (k - 3);
  rwbs = at ws (k + 2);
  span = s;
}

abbrev pub ranged : List Word → ℕ → Action → Option ℕ → Result (Layout Word) LineReason
ranged ws k a None = Err why.Fields
ranged ws k a (Some place) = if nat_lt k 3 then Err why.Fields else with_span (perf_parts ws k a) (span_from a ws place)

abbrev pub perf_layout : List Word → ℕ → Action → Result (Layout Word) LineReason
perf_layout ws k a = ranged ws k a (place_of_range ws k)

abbrev pub eventful : List Word → ℕ → Option Action → Result (Line Word) LineReason
eventful ws k None = Ok (remark ws)
eventful ws k (Some a) = as_step (perf_layout ws k a)

abbrev pub at_event : List Word → Option ℕ → Result (Line Word) LineReason
at_event ws None = Ok (remark ws)
at_event ws (Some k) = eventful ws k (event_of (at ws k))

abbrev pub perf_line : List Word → Result (Line Word) LineReason
perf_line ws = at_event ws (place_from is_event 0 ws)

-- a line of a recorder, by its words
abbrev pub printed_line_of : Recorder → List Word → Result (Line Word) LineReason
printed_line_of Blkparse ws = blkparse_line ws
printed_line_of Ftrace ws = ftrace_line ws
printed_line_of Perf ws = perf_line ws
printed_line_of Bpftrace ws = bpftrace_line ws
