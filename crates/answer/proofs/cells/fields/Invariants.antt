use Rattle.std.proofs.Common.{◌≡◌, ◌++◌, ◌∷◌, map, take}
use Rattle.answer.specs.Parts.{column}
use Rattle.answer.specs.declared.cells.Layout.TheVariants as layout
use Rattle.answer.proofs.cells.fields.Given as goal

-- the columns so far
abbrev pub invariant-loop-name : goal.invariant-loop-name
invariant-loop-name l = l.columns.items ≡ column layout.Plain l.first ∷ map (λ name. column layout.Comma name.now) (take l.name-index l.others)
