-- What a report and a picture show of a trace, read off the state that its events leave.
use Rattle.std.specs.Prelude.{ℕ, Bool, false, not, List, map, filter, nat_lt}
use Rattle.std.specs.Option.{option_map_or}
use Rattle.blk_bio.specs.Requests.{dir_of, first_of, sectors_of}
use Rattle.blk_trace.specs.declared.issued.Issued.{Issued}
use Rattle.blk_trace.specs.Issues.{was_requeued}
use Rattle.blk_report.specs.declared.serving.Service.{Service}
use Rattle.blk_trace_state.specs.State.{LayerState, request_now, command_now, waits_now}

-- an Issue with its request
abbrev pub service_now : LayerState → Issued → Service
service_now s i = record {
  id = i.id;
  dir = dir_of (request_now s i.id);
  first = first_of (request_now s i.id);
  sectors = sectors_of (request_now s i.id);
  release = (command_now s i.id).release;
  due = (command_now s i.id).due;
  issue = i.round;
  tag = i.tag;
  back = was_requeued i.outcome;
}

-- those that were not requeued
abbrev pub services_now : LayerState → List Service
services_now s = filter (λ v. not v.back) (map (service_now s) s.issued)

-- whether the request that waits under the id was due before the round that is on
abbrev pub overdue_now : LayerState → ℕ → Bool
overdue_now s id = option_map_or (λ w. nat_lt w.due s.round) (waits_now s id) false
