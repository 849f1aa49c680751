use Rattle.std.proofs.Common.{◌≡◌, ◌++◌, take}
use Rattle.std.specs.List.{flat_map}
use Rattle.answer.specs.Inside.Tokens.{tokens_of}
use Rattle.answer.specs.Json.{part_members}
use Rattle.answer.proofs.as_json.write_parts.Given as goal

-- the tokens so far
abbrev pub invariant-loop-part : goal.invariant-loop-part
invariant-loop-part l = l.page ≡ l.fn.page ++ flat_map (λ p. tokens_of (part_members p)) (take l.part-index l.parts)
