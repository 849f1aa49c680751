use Rattle.std.proofs.Common.{◌≡◌, ◌-◌, ◌++◌}
use Rattle.blk_picture.specs.Columns.{peaks_of}
use Rattle.blk_picture.proofs.columns.peaks.Given as goal

abbrev pub invariant-loop-column : goal.invariant-loop-column
invariant-loop-column l = l.peaks.items ++ peaks_of l.per (l.columns - l.column) l.rest ≡ peaks_of l.per l.columns l.numbers
