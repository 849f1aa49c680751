use Rattle.std.proofs.Common.{length}
use Rattle.answer.proofs.as_json.+write_row_cells.Given as goal

abbrev pub decreases-write_row_cells : goal.decreases-write_row_cells
decreases-write_row_cells l = length l.columns.now
