use Rattle.std.proofs.Common.{◌≡◌, map, take}
use Rattle.std.specs.Prelude.{zip}
use Rattle.blk_report.specs.Table.{names_of, table_row}
use Rattle.blk_report.proofs.comparison.table_rows.Given as goal

-- the rows so far
abbrev pub invariant-loop-place : goal.invariant-loop-place
invariant-loop-place l = l.rows.items ≡ map (λ p. table_row p.0 p.1) (take l.place (zip (names_of l.names) l.reports))
