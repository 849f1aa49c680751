-- What had to be late, by what made it so: arrivals, stalls and crowded windows add up.
use Rattle.std.specs.Prelude.{ℕ, ◌≡◌, ◌≤◌, ◌<◌, ◌+◌, ◌==◌, ◌&&◌, List, count_by, sum_by, nat_lt, All, AllPairs}
use Rattle.edd_figures.specs.declared.missing.Counts.{Counts}
use Rattle.edd_figures.specs.declared.missing.Crowd.{Crowd}
use Rattle.edd_blame.specs.Clock.{times_by, is_stalled}
use Rattle.edd_blame.specs.declared.late.Allowance.{Allowance}
use Rattle.edd_blame.specs.declared.sum.Reasons.{Reasons}
use Rattle.edd_blame.specs.declared.sum.StallTime.{StallTime}

-- how many requests came late, and how many stalled
unfoldable pub number_came_late : List Allowance → ℕ
number_came_late allowances = count_by (λ a. nat_lt a.deadline a.release) allowances

unfoldable pub number_stalled : List ℕ → List Allowance → ℕ
number_stalled dispatches allowances = count_by (is_stalled dispatches) allowances

-- how many of them after n dispatches
unfoldable pub number_stalled_after : List ℕ → List Allowance → ℕ → ℕ
number_stalled_after dispatches allowances n = count_by (λ a. is_stalled dispatches a && times_by dispatches a.deadline == n) allowances

-- some requests stalled after that many dispatches
pub record IsStallTime (dispatches : List ℕ) (allowances : List Allowance) (s : StallTime) : Type 0 where
  pub requests : s.requests ≡ number_stalled_after dispatches allowances s.after
  pub some : 0 < s.requests

-- the stalls by rising times; each request that stalled is counted in one
pub record AreStalls (dispatches : List ℕ) (allowances : List Allowance) (stalls : List StallTime) : Type 0 where
  pub each : All (IsStallTime dispatches allowances) stalls
  pub rising : AllPairs (λ s t. s.after < t.after) stalls
  pub all : sum_by (λ s. s.requests) stalls ≡ number_stalled dispatches allowances

-- what had to be late is what came late, what stalled, and what the windows have more than they carry
pub record AddUp (dispatches : List ℕ) (allowances : List Allowance) (c : Counts) (windows : List Crowd) (r : Reasons) : Type 0 where
  pub arrivals : r.arrivals ≡ number_came_late allowances
  pub stalled : r.stalled ≡ number_stalled dispatches allowances
  pub crowded : r.crowded + sum_by (λ w. w.carries) windows ≡ sum_by (λ w. w.commands) windows
  pub each : All (λ w. w.carries ≤ w.commands) windows
  pub sum : c.unavoidable ≡ r.arrivals + r.stalled + r.crowded
