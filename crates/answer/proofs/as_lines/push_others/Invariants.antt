use Rattle.std.proofs.Common.{◌≡◌, ◌++◌, ◌∷◌, take}
use Rattle.std.specs.List.{flat_map}
use Rattle.answer.specs.Lines.{named_setting}
use Rattle.answer.proofs.as_lines.push_others.Given as goal

-- what is added so far
abbrev pub invariant-loop-setting : goal.invariant-loop-setting
invariant-loop-setting l = l.draft ≡ l.fn.draft ++ flat_map (λ s. 32 ∷ named_setting s) (take l.setting-index l.settings)
