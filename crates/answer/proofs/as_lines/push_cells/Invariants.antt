use Rattle.std.proofs.Common.{◌≡◌, ◌++◌, take}
use Rattle.std.specs.List.{flat_map}
use Rattle.answer.specs.Lines.{cell_text}
use Rattle.answer.proofs.as_lines.push_cells.Given as goal

-- what is added so far
abbrev pub invariant-loop-cell : goal.invariant-loop-cell
invariant-loop-cell l = l.draft ≡ l.fn.draft ++ flat_map (λ c. cell_text c) (take l.cell-index l.cells)
