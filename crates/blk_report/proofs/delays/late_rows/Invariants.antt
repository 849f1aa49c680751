use Rattle.std.proofs.Common.{◌≡◌, map, take}
use Rattle.blk_report.specs.Late.{late_row}
use Rattle.blk_report.proofs.delays.late_rows.Given as goal

-- the rows so far
abbrev pub invariant-loop-command : goal.invariant-loop-command
invariant-loop-command l = l.rows.items ≡ map (λ x. late_row x) (take l.command-index l.late)
