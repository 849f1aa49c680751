-- How long at least one request waited.
use Rattle.std.specs.Prelude.{ℕ, ◌-◌, ◌&&◌, Bool, nat_le, nat_lt, List, length, count_by, slice_get}
use Rattle.std.specs.List.{list_any, range_with_len}
use Rattle.std.specs.Option.{option_map_or}
use Rattle.blk_capture.specs.declared.requests.CapturedRequest.{CapturedRequest}

-- whether a request waits at a time: it has come in, and has not gone out
abbrev pub is_waiting_at : ℕ → CapturedRequest → Bool
is_waiting_at t q = nat_le q.entry t && nat_lt t q.dispatched

abbrev pub some_waits : List CapturedRequest → ℕ → Bool
some_waits requests t = list_any (is_waiting_at t) requests

-- when the last one went out
abbrev pub last_dispatch : List CapturedRequest → ℕ
last_dispatch requests = option_map_or (λ q. q.dispatched) (slice_get requests (length requests - 1)) 0

-- at how many of the times before that, each a nanosecond, at least one waits
unfoldable pub waited_of : List CapturedRequest → ℕ
waited_of requests = count_by (some_waits requests) (range_with_len 0 (last_dispatch requests))
