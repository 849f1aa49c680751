use Rattle.std.proofs.Common.{◌≡◌, take, map}
use Rattle.blk_capture_text.specs.TableText.{table_row}
use Rattle.blk_capture_text.proofs.table.table_rows.Given as goal

-- the rows of the requests so far
abbrev pub invariant-loop-row : goal.invariant-loop-row
invariant-loop-row l = l.told.items ≡ map (λ r. table_row r) (take l.row-index l.rows)
