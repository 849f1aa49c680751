-- The processes, or the processors, whose requests were late, and how many of each were.
use Rattle.std.specs.Prelude.{ℕ, ◌≡◌, ◌==◌, List, map, count_by, Contains, Option, Some, None, cond, nat_lt}
use Rattle.std.specs.List.{filter_map}
use Rattle.std.specs.List.Sorted.{IsStrictlyIncreasing}
use Rattle.blk_capture.specs.declared.requests.CapturedRequest.{CapturedRequest}
use Rattle.blk_blame.specs.Grouped.{group_key}
use Rattle.blk_blame.specs.declared.grouped.GroupedBy.{GroupedBy}
use Rattle.blk_blame.specs.declared.late_groups.LateGroup.{LateGroup}

-- those of late requests, one each
abbrev pub late_group_key : GroupedBy → CapturedRequest → Option ℕ
late_group_key by q = cond (nat_lt q.deadline q.dispatched) (Some (group_key by q)) None

abbrev pub late_group_keys : GroupedBy → List CapturedRequest → List ℕ
late_group_keys by requests = filter_map (late_group_key by) requests

-- how many late requests one has
abbrev pub number_late_of : GroupedBy → List CapturedRequest → ℕ → ℕ
number_late_of by requests key = count_by (λ k. k == key) (late_group_keys by requests)

abbrev pub late_group_by : GroupedBy → List CapturedRequest → ℕ → LateGroup
late_group_by by requests key = record { key = key; late = number_late_of by requests key }

-- those that have some, by rising numbers, each once
pub record AreLateGroup (by : GroupedBy) (requests : List CapturedRequest) (late_groups : List LateGroup) : Type 0 where
  pub keys : List ℕ
  pub rise : IsStrictlyIncreasing keys
  pub all : (k : ℕ) → Contains (late_group_keys by requests) k → Contains keys k
  pub only : (k : ℕ) → Contains keys k → Contains (late_group_keys by requests) k
  pub are : late_groups ≡ map (late_group_by by requests) keys
