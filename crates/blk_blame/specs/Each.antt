-- Each late request of a capture, and why it was late.
use Rattle.std.specs.Prelude.{◌-◌, List, Option, None, Some, zip}
use Rattle.std.specs.List.{filter_map}
use Rattle.edd_blame.specs.declared.late.Cause.{Cause}
use Rattle.edd_commands.specs.declared.Command.{Command}
use Rattle.blk_capture.specs.declared.requests.CapturedRequest.{CapturedRequest}
use Rattle.blk_blame.specs.declared.each.LateRequest.{LateRequest}

-- a request that has a cause
abbrev pub late_of : (Command × CapturedRequest) × Option Cause → Option LateRequest
late_of (p, None) = None
late_of (p, Some cause) = Some (record {
  command = p.0;
  pid = p.1.pid;
  dir = p.1.dir;
  first = p.1.first;
  sectors = p.1.sectors;
  wait = p.1.dispatched - p.1.entry;
  overrun = p.1.dispatched - p.1.deadline;
  deadline = p.1.deadline;
  released = p.1.released;
  cause = cause;
})

abbrev pub lates_of : List Command → List CapturedRequest → List (Option Cause) → List LateRequest
lates_of commands requests causes = filter_map late_of (zip (zip commands requests) causes)
