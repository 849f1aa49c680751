-- Figures of requests that are taken in one by one.
use Rattle.std.specs.Prelude.{◌≡◌, ◌&&◌, nat_lt, Bool, List, map}
use Rattle.std.specs.List.{filter_map}
use Rattle.blk_bio.specs.declared.bio.Dir.{Dir}
use Rattle.blk_capture.specs.Summaries.{goes, time_in, back_by}
use Rattle.blk_capture.specs.declared.figures.Figures.{Figures}
use Rattle.blk_capture.specs.declared.figures.Flight.{Flight}
use Rattle.blk_capture.specs.declared.requests.CapturedRequest.{CapturedRequest}
use Rattle.blk_capture.specs.declared.summary.Phase.TheVariants.{Tag, Scheduler, Device}

-- what is kept of a request
abbrev pub flight_of : CapturedRequest → Flight
flight_of q = record { time = q.dispatched; dir = q.dir; is_late = nat_lt q.deadline q.dispatched; is_back = back_by q.dispatched q }

abbrev pub is_late_flight : Dir → Flight → Bool
is_late_flight d f = goes f.dir d && f.is_late

-- of these requests
pub record AreFiguresOf {A : Type 0} (qs : List CapturedRequest) (f : Figures A) : Type 0 where
  pub flights : f.flights.items ≡ map flight_of qs
  pub tag : f.tag.items ≡ filter_map (time_in Tag) qs
  pub scheduler : f.scheduler.items ≡ filter_map (time_in Scheduler) qs
  pub device : f.device.items ≡ filter_map (time_in Device) qs
  pub completions : f.completions.items ≡ filter_map (λ q. q.completed) qs
