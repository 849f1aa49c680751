-- By what rows are put in order.
use Rattle.std.specs.Prelude.{ℕ, ℤ, Option}
use Rattle.edd_figures.specs.Figures.{shortfall_in}
use Rattle.blk_tune.specs.declared.row.TrialRow.{TrialRow}

-- by what rows are put in order: what is avoidable and the shortfall, or the other way round, and the waits
abbrev pub misses_key : TrialRow → ℕ × Option ℤ × Option ℤ × Option ℤ
misses_key r = (r.tally.avoidable, shortfall_in r.report.figures, r.wait_read, r.wait_write)

abbrev pub lateness_key : TrialRow → Option ℤ × ℕ × Option ℤ × Option ℤ
lateness_key r = (shortfall_in r.report.figures, r.tally.avoidable, r.wait_read, r.wait_write)
