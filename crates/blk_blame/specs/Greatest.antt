-- Which processes, stalls and windows are greater.
use Rattle.std.specs.Prelude.{ℕ, ◌-◌, List}
use Rattle.std.specs.List.Sorted.{IsPermutation, IsSorted, IsStable}
use Rattle.std.specs.Ordering.{nat_cmp}
use Rattle.std.specs.declared.cmp.Ordering.{Ordering}
use Rattle.edd_blame.specs.declared.sum.StallTime.{StallTime}
use Rattle.blk_blame.specs.declared.late_groups.LateGroup.{LateGroup}
use Rattle.edd_figures.specs.declared.missing.Crowd.{Crowd}

-- how many requests of a process were late
abbrev pub late_group_size : LateGroup → ℕ
late_group_size h = h.late

-- how many requests were due in a stall, and how many a window has more than it carries
abbrev pub stall_size : StallTime → ℕ
stall_size s = s.requests

abbrev pub window_size : Crowd → ℕ
window_size w = w.commands - w.carries

-- the greater one comes first
abbrev pub greater_cmp : {X : Type 0} → (X → ℕ) → X → X → Ordering
greater_cmp size x y = nat_cmp (size y) (size x)

-- the same, the greatest first; of those that are as great in the order that they had
pub record AreGreatestFirst {X : Type 0} (size : X → ℕ) (before after : List X) : Type 0 where
  pub same : IsPermutation before after
  pub sorted : IsSorted (greater_cmp size) after
  pub stable : IsStable (greater_cmp size) before after
