use Rattle.std.proofs.Common.{◌≡◌, ◌++◌, take}
use Rattle.std.specs.List.{flat_map}
use Rattle.answer.specs.Lines.{name_text}
use Rattle.answer.proofs.as_lines.push_names.Given as goal

-- what is added so far
abbrev pub invariant-loop-column : goal.invariant-loop-column
invariant-loop-column l = l.draft ≡ l.fn.draft ++ flat_map (λ c. name_text c) (take l.column-index l.columns)
