use Rattle.std.proofs.Common.{◌≡◌, ◌++◌, take}
use Rattle.std.specs.List.{flat_map}
use Rattle.answer.specs.Inside.Tokens.{cell_tokens}
use Rattle.answer.proofs.as_json.write_cells.Given as goal

-- the tokens so far
abbrev pub invariant-loop-cell : goal.invariant-loop-cell
invariant-loop-cell l = l.page ≡ l.fn.page ++ flat_map (λ c. cell_tokens c) (take l.cell-index l.cells)
