-- What of a capture is dubious.
use Rattle.std.specs.Prelude.{ℕ, ◌+◌, ◌/◌, ◌==◌, not, if◌then◌else◌, nat_lt, Bool, false, List, [], ◌∷◌, length, Option, None, Some, is_some}
use Rattle.std.specs.List.{list_any}
use Rattle.blk_capture.specs.Passing.{place_of}
use Rattle.blk_capture.specs.declared.record.Action.{Action}
use Rattle.blk_capture.specs.declared.record.Action.TheVariants as action
use Rattle.blk_capture.specs.declared.record.Record.{Record}
use Rattle.blk_capture.specs.declared.requests.CapturedRequest.{CapturedRequest}

-- one more, where a time is the last one
abbrev pub is_at : Option ℕ → ℕ → Bool
is_at None time = false
is_at (Some last) time = last == time

abbrev pub one_if_at : ℕ → Option ℕ → ℕ → ℕ
one_if_at n last time = if is_at last time then n + 1 else n

-- how many records have the time of the record before them, beside those that were counted; the last time was this one
abbrev pub still_from : ℕ → Option ℕ → List Record → ℕ
still_from n last [] = n
still_from n last (r ∷ rs) = still_from (one_if_at n last r.time) (Some r.time) rs

abbrev pub count_still : List Record → ℕ
count_still rs = still_from 0 None rs

-- more than half of the records do
abbrev pub is_still : List Record → Bool
is_still rs = nat_lt (length rs / 2) (count_still rs)

-- which of the steps that every request takes no record tells
abbrev pub tells_action : Action → Record → Bool
tells_action a r = place_of r.action == place_of a

abbrev pub has_action : Action → List Record → Bool
has_action a rs = list_any (tells_action a) rs

abbrev pub lacked_action : List Record → Option Action
lacked_action rs =
    if not (has_action action.Queue rs) then Some action.Queue
    else (if not (has_action action.Get rs) then Some action.Get
    else (if not (has_action action.Issue rs) then Some action.Issue
    else (if not (has_action action.Complete rs) then Some action.Complete
    else None)))

-- there are records, and no request was completed: when it came in and went out is known of each
abbrev pub is_completed : CapturedRequest → Bool
is_completed q = is_some q.completed

abbrev pub has_nothing_whole : List Record → List CapturedRequest → Bool
has_nothing_whole rs qs = if length rs == 0 then false else not (list_any is_completed qs)
