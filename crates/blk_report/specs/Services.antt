-- The Issues of a trace, each with its request, and what they served.
use Rattle.std.specs.Prelude.{ℕ, ◌≤◌, ◌<◌, not, List, length, map, filter, slice_index_or, All}
use Rattle.edd_commands.specs.declared.Command.{Command}
use Rattle.edd_commands.specs.declared.TheConstants.{MAX_COMMANDS, MAX_ROUNDS}
use Rattle.blk_bio.specs.Requests.{dir_of, first_of, sectors_of}
use Rattle.blk_trace.specs.declared.trace.TheConstants.{MAX_EVENTS}
use Rattle.blk_trace.specs.Happened.{Happened}
use Rattle.blk_trace.specs.Setups.{Setup}
use Rattle.blk_trace.specs.Events.{request_of}
use Rattle.blk_trace.specs.declared.issued.Issued.{Issued}
use Rattle.blk_trace.specs.Issues.{was_requeued, issues_of}
use Rattle.blk_trace.specs.Meaning.{release_of, due_of}
use Rattle.blk_report.specs.declared.serving.Service.{Service}

-- an Issue with the request that its id's Release and Joins make up
abbrev pub service_of : Setup → List Happened → Issued → Service
service_of setup events i = record {
  id = i.id;
  dir = dir_of (request_of events i.id);
  first = first_of (request_of events i.id);
  sectors = sectors_of (request_of events i.id);
  release = release_of events i.id;
  due = due_of setup events i.id;
  issue = i.round;
  tag = i.tag;
  back = was_requeued i.outcome;
}

-- those that were not requeued, in their order
unfoldable pub services_of : Setup → List Happened → List Service
services_of setup events = filter (λ s. not s.back) (map (service_of setup events) (issues_of events))

-- its command
abbrev pub command_in : Service → Command
command_in s = record { id = s.id; release = s.release; due = s.due }

-- few of them, each issued in its release or later, in rounds within the limits
pub record AreWithinLimits (services : List Service) : Type 0 where
  pub few : length services ≤ MAX_COMMANDS
  pub released : All (λ s. s.release ≤ s.issue) services
  pub in_time : All (λ s. (s.issue ≤ MAX_EVENTS) × (s.due < MAX_ROUNDS)) services

-- none is issued before the one that stands before it
abbrev pub AreInIssueOrder : List Service → Type 0
AreInIssueOrder services =
    (j k : ℕ) (d : Service) → j ≤ k → k < length services → (slice_index_or services j d).issue ≤ (slice_index_or services k d).issue
