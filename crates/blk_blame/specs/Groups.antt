-- What the late requests of a process, or of a processor, are blamed on.
use Rattle.std.specs.Prelude.{ℕ, ◌≡◌, ◌-◌, ◌==◌, ◌&&◌, Bool, true, false, List, filter, length, count_by, zip, slice_get, Option, None, Some, if◌then◌else◌}
use Rattle.std.specs.Option.{option_map_or}
use Rattle.std.specs.List.{filter_map, range_with_len}
use Rattle.edd_commands.specs.Capacity.{fixed}
use Rattle.blk_capture.specs.Summaries.{ArePercentiles}
use Rattle.blk_capture.specs.declared.requests.CapturedRequest.{CapturedRequest}
use Rattle.edd_blame.specs.Parts.{IsLeastLateAt, IsMostSavedAt}
use Rattle.edd_blame.specs.declared.late.Cause.{Cause}
use Rattle.edd_blame.specs.declared.late.Cause.TheVariants.{Arrival, Stall}
use Rattle.blk_blame.specs.Clock.{overrun_of}
use Rattle.blk_blame.specs.declared.account.Account.{Account}
use Rattle.blk_blame.specs.Grouped.{group_key}
use Rattle.blk_blame.specs.declared.grouped.GroupedBy.{GroupedBy}
use Rattle.blk_blame.specs.declared.groups.Group.{Group}
use Rattle.blk_blame.specs.declared.late_groups.LateGroup.{LateGroup}

-- the places of its requests
abbrev pub is_in_group : GroupedBy → List CapturedRequest → ℕ → ℕ → Bool
is_in_group by requests key k = option_map_or (λ q. group_key by q == key) (slice_get requests k) false

unfoldable pub own_places : GroupedBy → List CapturedRequest → ℕ → List ℕ
own_places by requests key = filter (is_in_group by requests key) (range_with_len 0 (length requests))

-- whether a request of it stalled, and whether it came in after its deadline
abbrev pub was_stall : Option Cause → Bool
was_stall (Some Stall) = true
was_stall _ = false

abbrev pub was_arrival : Option Cause → Bool
was_arrival (Some Arrival) = true
was_arrival _ = false

abbrev pub is_stall_of : GroupedBy → ℕ → CapturedRequest × Option Cause → Bool
is_stall_of by key z = (group_key by z.0 == key) && was_stall z.1

abbrev pub is_arrival_of : GroupedBy → ℕ → CapturedRequest × Option Cause → Bool
is_arrival_of by key z = (group_key by z.0 == key) && was_arrival z.1

-- how long a request of it waited, and by how much it was late
abbrev pub wait_in : GroupedBy → ℕ → CapturedRequest → Option ℕ
wait_in by key q = if group_key by q == key then Some (q.dispatched - q.entry) else None

abbrev pub overrun_in : GroupedBy → ℕ → CapturedRequest → Option ℕ
overrun_in by key q = if group_key by q == key then overrun_of q else None

-- how many requests it has, how many were late, stalled and came in late, the fewest late ones of it in any order, the most of its late
-- ones that can be on time beside all that were, how long its requests waited, and by how much its late ones were late
pub record IsGroup (by : GroupedBy) (requests : List CapturedRequest) (a : Account) (h : LateGroup) (p : Group) : Type 0 where
  pub key_is : p.key ≡ h.key
  pub requests_are : p.requests ≡ length (own_places by requests h.key)
  pub late_are : p.late ≡ h.late
  pub stalled_are : p.stalled ≡ count_by (is_stall_of by h.key) (zip requests a.causes.items)
  pub arrivals_are : p.arrivals ≡ count_by (is_arrival_of by h.key) (zip requests a.causes.items)
  pub least_is : IsLeastLateAt a.counted.commands.items (fixed 1) (own_places by requests h.key) p.least
  pub savable_is : IsMostSavedAt a.counted.commands.items a.counted.rounds.items (fixed 1) (own_places by requests h.key) p.savable
  pub waits_are : ArePercentiles (filter_map (wait_in by h.key) requests) p.wait
  pub overruns_are : ArePercentiles (filter_map (overrun_in by h.key) requests) p.overrun
