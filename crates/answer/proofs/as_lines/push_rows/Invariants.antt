use Rattle.std.proofs.Common.{◌≡◌, ◌++◌, take}
use Rattle.std.specs.List.{flat_map}
use Rattle.answer.specs.Lines.{row_text}
use Rattle.answer.proofs.as_lines.push_rows.Given as goal

-- what is added so far
abbrev pub invariant-loop-row : goal.invariant-loop-row
invariant-loop-row l = l.draft ≡ l.fn.draft ++ flat_map (λ r. row_text l.columns r) (take l.row-index l.rows)
