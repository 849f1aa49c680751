use Rattle.std.proofs.Common.{◌≡◌, ◌≤◌, ◌-◌, true, length, take}
use Rattle.answer.specs.Lines.{answer_lines}
use Rattle.blk_capture_text.specs.TableText.{table_parts}
use Rattle.blk_capture_text.proofs.table.table_text.Given as goal

-- the text of the requests so far
abbrev pub invariant-loop-end : goal.invariant-loop-end
invariant-loop-end l = record {
  within : l.end ≤ length l.rows;
  text : l.text.items ≡ answer_lines (table_parts true (take l.end l.rows));
}

abbrev pub decreases-loop-end : goal.decreases-loop-end
decreases-loop-end l = length l.rows - l.end
