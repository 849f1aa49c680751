use Rattle.std.proofs.Common.{◌≡◌, ◌++◌, ◌∷◌, take}
use Rattle.std.specs.List.{flat_map}
use Rattle.answer.specs.Inside.Tokens.{set_tokens}
use Rattle.answer.proofs.as_json.write_listed.Given as goal

-- what is added so far
abbrev pub invariant-loop-setting : goal.invariant-loop-setting
invariant-loop-setting l = l.page ≡ l.fn.page ++ flat_map (λ s. set_tokens s) (take l.setting-index l.settings)
