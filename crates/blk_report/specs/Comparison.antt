-- Which of several reports is the best.
use Rattle.std.specs.Prelude.{ℕ, ◌≡◌, ◌<◌, List, length, slice_index_or, Some, None, ℤ, ◌≤ℤ◌, ◌<ℤ◌, All, IfSome}
use Rattle.edd_figures.specs.Figures.{greatest_in}
use Rattle.blk_report.specs.declared.figures.Report.{Report}

-- of the first n reports the one at this place has the smallest greatest lateness, and is the first of several
pub record LeadsOf (reports : List Report) (n place : ℕ) (late : ℤ) : Type 0 where
  pub in_list : place < n
  pub told : (d : Report) → greatest_in (slice_index_or reports place d).figures ≡ Some late
  pub smallest : (k : ℕ) (d : Report) → k < n → IfSome (greatest_in (slice_index_or reports k d).figures) (λ other. late ≤ℤ other)
  pub first : (k : ℕ) (d : Report) → k < place → IfSome (greatest_in (slice_index_or reports k d).figures) (λ other. late <ℤ other)

-- of all reports
pub record IsFirstBest (reports : List Report) (place : ℕ) : Type 0 where
  pub late : ℤ
  pub leads : LeadsOf reports (length reports) place late

-- no report has commands
abbrev pub HasNoBest : List Report → Type 0
HasNoBest reports = All (λ r. greatest_in r.figures ≡ None) reports
