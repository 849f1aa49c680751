-- The steps of a capacity, change by change.
use Rattle.std.specs.Prelude.{◌==◌, cond, List, [], ◌∷◌}
use Rattle.edd_commands.specs.declared.steps.Step.{Step}

-- with one more change, in place of the last one where both are of one round
abbrev pub with_change : List Step → Step → List Step
with_change [] s = s ∷ []
with_change (t ∷ []) s = cond (s.from == t.from) (s ∷ []) (t ∷ s ∷ [])
with_change (t ∷ u ∷ steps) s = t ∷ with_change (u ∷ steps) s
