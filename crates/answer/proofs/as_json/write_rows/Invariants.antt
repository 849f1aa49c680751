use Rattle.std.proofs.Common.{◌≡◌, ◌++◌, take}
use Rattle.std.specs.List.{flat_map}
use Rattle.json.specs.Tree.{json_tokens}
use Rattle.answer.specs.Json.{row_object}
use Rattle.answer.proofs.as_json.write_rows.Given as goal

-- the tokens so far
abbrev pub invariant-loop-row : goal.invariant-loop-row
invariant-loop-row l = l.page ≡ l.fn.page ++ flat_map (λ r. json_tokens (row_object l.columns r)) (take l.row-index l.rows)
