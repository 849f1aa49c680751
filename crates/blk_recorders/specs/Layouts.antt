-- Where the parts of a step stand in a line, and the step that they tell.
use Rattle.std.specs.Prelude.{ℕ, ◌+◌, ◌-◌, ◌*◌, ◌==◌, ◌&&◌, ◌||◌, if◌then◌else◌, nat_lt, Bool, List, [], length, get_or, is_some, Option, None, Some, option_map, Result, Ok, Err, codes}
use Rattle.std.specs.Str.{bytes_eq}
use denote.Ref.{Bor}
use Rattle.blk_capture.specs.Passing.{action_by, op_by, passed_action}
use Rattle.blk_capture.specs.declared.record.Action.{Action}
use Rattle.blk_recorders.specs.Words.{Word, begins_with, before_byte, behind_byte, number, nanoseconds}
use Rattle.blk_recorders.specs.declared.device.Device.{Device}
use Rattle.blk_recorders.specs.declared.fault.LineReason.{LineReason}
use Rattle.blk_recorders.specs.declared.fault.LineReason.TheVariants as why
use Rattle.blk_recorders.specs.declared.layout.Layout.{Layout}
use Rattle.blk_recorders.specs.declared.layout.Places.{Places}
use Rattle.blk_recorders.specs.declared.layout.Span.{Span}
use Rattle.blk_recorders.specs.declared.layout.Span.TheVariants.{Nothing, Sectors, Until}
use Rattle.blk_recorders.specs.declared.layout.Step.{Step}
use Rattle.blk_recorders.specs.declared.layout.TheConstants.{MAX_SECONDS, SECOND}

-- both numbers, if both are there
abbrev pub both : {X Y : Type 0} → Option X → Option Y → Option (X × Y)
both None y = None
both (Some x) None = None
both (Some x) (Some y) = Some (x, y)

-- a device: two numbers with a comma between
abbrev pub device_of : Word → Option Device
device_of w = option_map (λ p. record { major = p.0; minor = p.1 }) (both (number (before_byte 44 w)) (number (behind_byte 44 w)))

abbrev pub is_device : Device → Device → Bool
is_device d e = (d.major == e.major) && (d.minor == e.minor)

-- the device that is named, none where no word names one; None where the word is no device
abbrev pub device_named : Option Word → Option (Option Device)
device_named None = Some None
device_named (Some w) = option_map Some (device_of w)

-- what references point to
abbrev pub spanned : Span (Bor Word) → Span Word
spanned Nothing = Nothing
spanned (Sectors a b) = Sectors a.now b.now
spanned (Until a b) = Until a.now b.now

abbrev pub laid : Layout (Bor Word) → Layout Word
laid l = record {
  device = option_map (λ w. w.now) l.device;
  seconds = l.seconds.now;
  fraction = l.fraction.now;
  cpu = l.cpu.now;
  action = l.action;
  pid = l.pid.now;
  rwbs = l.rwbs.now;
  span = spanned l.span;
}

-- the name of a process in brackets, or something in parentheses
abbrev pub is_remark : Word → Bool
is_remark w = begins_with 91 w || begins_with 40 w

-- the word at a place, empty where there are fewer
abbrev pub at : List Word → ℕ → Word
at ws k = get_or ws k []

-- a range of sectors, `FIRST + COUNT` or `FIRST / END`, if the action has one
abbrev pub span_by : Word → Word → Word → Result (Span Word) LineReason
span_by first sign second =
    if bytes_eq sign (codes "+") then Ok (Sectors first second) else (if bytes_eq sign (codes "/") then Ok (Until first second) else Err why.Fields)

abbrev pub span_of : Bool → Word → Word → Word → Result (Span Word) LineReason
span_of passed first sign second =
    if passed || is_remark first then Ok Nothing
    else (if length first == 0 then Err why.Fields
    else (if is_remark sign then Ok Nothing
    else (if length second == 0 then Err why.Fields
    else span_by first sign second)))

abbrev pub span_from : Action → List Word → ℕ → Result (Span Word) LineReason
span_from a ws k = span_of (is_some (passed_action a)) (at ws k) (at ws (k + 1)) (at ws (k + 2))

-- a line whose words stand at fixed places
abbrev pub with_span : (Span Word → Layout Word) → Result (Span Word) LineReason → Result (Layout Word) LineReason
with_span l (Ok s) = Ok (l s)
with_span l (Err w) = Err w

abbrev pub seconds_of : Word → Word
seconds_of time = before_byte 46 time

abbrev pub fraction_of : Word → Word
fraction_of time = behind_byte 46 time

abbrev pub layout_at : List Word → Places → Span Word → Layout Word
layout_at ws p s = record {
  device = Some (at ws p.device);
  seconds = seconds_of (at ws p.time);
  fraction = fraction_of (at ws p.time);
  cpu = at ws p.cpu;
  action = action_by (at ws p.action);
  pid = at ws p.pid;
  rwbs = at ws p.rwbs;
  span = s;
}

abbrev pub placed : List Word → Places → Result (Layout Word) LineReason
placed ws p = if nat_lt (length ws) p.span then Err why.Fields else with_span (layout_at ws p) (span_from (action_by (at ws p.action)) ws p.span)

-- the first sector and how many
abbrev pub span_numbers : Span Word → Option (ℕ × ℕ)
span_numbers Nothing = Some (0, 0)
span_numbers (Sectors a b) = both (number a) (number b)
span_numbers (Until a b) = option_map (λ p. (p.0, p.1 - p.0)) (both (number a) (number b))

-- the step of these numbers
abbrev pub step_by : Layout Word → Option ℕ → Option ℕ → Option ℕ → Option ℕ → Option (Option Device) → Option (ℕ × ℕ) → Result Step LineReason
step_by l (Some s) (Some n) (Some cpu) (Some pid) (Some d) (Some range) =
    if nat_lt s MAX_SECONDS
    then Ok (record { device = d; told = record { time = s * SECOND + n; cpu = cpu; action = l.action; pid = pid; op = op_by l.rwbs; first = range.0; sectors = range.1 } })
    else Err why.Range
step_by l _ _ _ _ _ _ = Err why.Number

abbrev pub step_told : Layout Word → Result Step LineReason
step_told l = step_by l (number l.seconds) (nanoseconds l.fraction) (number l.cpu) (number l.pid) (device_named l.device) (span_numbers l.span)
