use Rattle.blk_report.specs.Inside.Best.{IsBestOf}
use Rattle.blk_report.proofs.comparison.compare.Given as goal

abbrev pub invariant-loop-place : goal.invariant-loop-place
invariant-loop-place l = IsBestOf l.reports l.place l.best
