use Rattle.std.proofs.Common.{◌≡◌, ◌++◌, take}
use Rattle.std.specs.List.{flat_map}
use Rattle.answer.specs.Lines.{part_text}
use Rattle.answer.proofs.as_lines.push_parts.Given as goal

-- what is added so far
abbrev pub invariant-loop-part : goal.invariant-loop-part
invariant-loop-part l = l.draft ≡ l.fn.draft ++ flat_map (λ p. part_text p) (take l.part-index l.parts)
