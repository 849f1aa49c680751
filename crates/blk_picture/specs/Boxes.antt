-- The boxes of a trace.
use Rattle.std.specs.Prelude.{List, map, reverse}
use Rattle.blk_trace.specs.Happened.{Happened}
use Rattle.blk_trace.specs.Issues.{issues_of}
use Rattle.blk_trace.specs.Setups.{Setup}
use Rattle.blk_report.specs.declared.serving.Service.{Service}
use Rattle.blk_report.specs.Services.{service_of}

-- one for each Issue, with its request, the last Issue first
unfoldable pub boxes_of : Setup → List Happened → List Service
boxes_of setup events = map (service_of setup events) (reverse (issues_of events))
