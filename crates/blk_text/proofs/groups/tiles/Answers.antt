use Rattle.std.proofs.Common.{◌≡◌, ◌∙◌}
use Rattle.blk_bio.specs.declared.request.Side.TheVariants as side
use Rattle.blk_text.proofs.groups.tiles.Goals as goal

pub returns-in-Some-Front-clause-only : goal.returns-in-Some-Front-clause-only
returns-in-Some-Front-clause-only c = λ f. absurd (let e : side.Back ≡ side.Front = c.in-Some-Front.ensures.only side.Back f ∙ c.in-Some-Front.field-0-is in cc e)

pub returns-in-None-clause-only : goal.returns-in-None-clause-only
returns-in-None-clause-only c = λ f. absurd (c.in-None.ensures.none side.Back f)
