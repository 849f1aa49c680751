-- Requests as rows of a table.
use Rattle.std.specs.Prelude.{ℕ, ◌≡◌, ◌<◌, ◌+◌, ◌-◌, List, length, slice_index_or, Option, None, Some}
use Rattle.blk_capture.specs.declared.requests.CapturedRequest.{CapturedRequest}
use Rattle.blk_capture.specs.declared.table.RequestRow.{RequestRow}

-- how long after the beginning a time is, 0 where it is no later
abbrev pub since : ℕ → ℕ → ℕ
since begin time = time - begin

abbrev pub known_since : ℕ → Option ℕ → Option ℕ
known_since begin None = None
known_since begin (Some time) = Some (since begin time)

-- the row of the request at place k
abbrev pub request_row : ℕ → ℕ → CapturedRequest → RequestRow
request_row begin k q = record {
  id = k + 1;
  dir = q.dir;
  first = q.first;
  sectors = q.sectors;
  bios = q.bios;
  pid = q.pid;
  queued = since begin q.queued;
  inserted = known_since begin q.inserted;
  dispatched = since begin q.dispatched;
  completed = known_since begin q.completed;
  due = since begin q.deadline;
}

-- each request's row, at its place
pub record AreRequestRows (begin : ℕ) (requests : List CapturedRequest) (rows : List RequestRow) : Type 0 where
  pub each : length rows ≡ length requests
  pub are : (k : ℕ) (d : CapturedRequest) (e : RequestRow) → k < length requests → slice_index_or rows k e ≡ request_row begin k (slice_index_or requests k d)
