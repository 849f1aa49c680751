-- The best of some reports, one report after the other.
use Rattle.std.specs.Prelude.{ℕ, ◌≡◌, ◌<◌, cond, int_lt, List, slice_index_or, Option, Some, None, ℤ}
use Rattle.edd_figures.specs.Figures.{greatest_in}
use Rattle.blk_report.specs.declared.figures.Report.{Report}
use Rattle.blk_report.specs.Comparison.{LeadsOf}

-- the better of the best so far, its place and its greatest lateness, and the report at this place
abbrev pub better_of : Option (ℕ × ℤ) → ℕ → Option ℤ → Option (ℕ × ℤ)
better_of best place None = best
better_of None place (Some late) = Some (place, late)
better_of (Some b) place (Some late) = cond (int_lt late b.1) (Some (place, late)) (Some b)

-- the best of the first n reports, if one of them has commands
abbrev pub IsBestOf : List Report → ℕ → Option (ℕ × ℤ) → Type 0
IsBestOf reports n None = (k : ℕ) (d : Report) → k < n → greatest_in (slice_index_or reports k d).figures ≡ None
IsBestOf reports n (Some b) = LeadsOf reports n b.0 b.1
