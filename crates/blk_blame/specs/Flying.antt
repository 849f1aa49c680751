-- How many requests were at the device when one went out.
use Rattle.std.specs.Prelude.{ℕ, ◌-◌, ◌==◌, List, slice_get, if◌then◌else◌}
use Rattle.std.specs.Option.{option_map_or}
use Rattle.blk_capture.specs.Summaries.{in_flight_at}
use Rattle.blk_capture.specs.declared.requests.CapturedRequest.{CapturedRequest}

-- those that went out by the time of the dispatch of a number, from 1 on, and were not completed by then; before the first dispatch none was there
abbrev pub in_flight_from : List CapturedRequest → ℕ → ℕ
in_flight_from requests n = if n == 0 then 0 else option_map_or (λ q. in_flight_at requests q.dispatched) (slice_get requests (n - 1)) 0
