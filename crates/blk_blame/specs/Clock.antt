-- The requests of a capture by the clock: the time that each has, when they went out, and by how much the late ones were late.
use Rattle.std.specs.Prelude.{ℕ, ◌-◌, List, map, Option, Some, None, cond, nat_lt}
use Rattle.std.specs.List.{filter_map}
use Rattle.blk_capture.specs.declared.requests.CapturedRequest.{CapturedRequest}
use Rattle.edd_blame.specs.declared.late.Allowance.{Allowance}

-- the time that a request has
abbrev pub allowance_of : CapturedRequest → Allowance
allowance_of q = record { release = q.released; deadline = q.deadline }

abbrev pub allowances_of : List CapturedRequest → List Allowance
allowances_of requests = map allowance_of requests

-- when the requests went out
abbrev pub dispatches_of : List CapturedRequest → List ℕ
dispatches_of requests = map (λ q. q.dispatched) requests

-- by how much a late one went out after its deadline
abbrev pub overrun_of : CapturedRequest → Option ℕ
overrun_of q = cond (nat_lt q.deadline q.dispatched) (Some (q.dispatched - q.deadline)) None

abbrev pub overruns_of : List CapturedRequest → List ℕ
overruns_of requests = filter_map overrun_of requests
