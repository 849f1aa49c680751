use Rattle.std.proofs.Common.{length}
use Rattle.answer.proofs.as_lines.+push_row_cells.Given as goal

abbrev pub decreases-push_row_cells : goal.decreases-push_row_cells
decreases-push_row_cells l = length l.columns.now
