use Rattle.std.proofs.Common.{arith}
use Rattle.std.proofs.lemmas.Grind.{common_steps}
use Rattle.std.proofs.lemmas.Simd.{map-map}
use Rattle.answer.specs.Parts.{column}
use Rattle.answer.specs.declared.cells.Layout.TheVariants as layout
use Rattle.answer.proofs.cells.fields.Goals as goal

pub returns : goal.returns
returns c = rw (map-map (column layout.Comma) (λ name. name.now) c.args.others.now) (grind (arith, common_steps))
