use Rattle.std.proofs.Common.{◌∙◌, length, sym, subst}
use Rattle.edd_blame.specs.Parts.{ArePlaces, IsLeastLateAt}
use Rattle.edd_blame.proofs.Marking.{marked_are}
use Rattle.edd_blame.proofs.part.least_late_marked.Goals as goal

pub least_late_at-requires-clause-places : goal.least_late_at-requires-clause-places
least_late_at-requires-clause-places g c =
    subst (λ l. ArePlaces (length c.args.commands.now) l) (sym (c.as_slice.ensures.value ∙ c.in_ok-parts.ensures.marked)) (marked_are c.args.marks.now (length c.args.commands.now) c.requires.one_each)

pub returns : goal.returns
returns g c =
    subst (λ l. IsLeastLateAt c.args.commands.now c.args.capacity.now l c.in_ok-least.least) (c.as_slice.ensures.value ∙ c.in_ok-parts.ensures.marked) c.in_ok-least.ensures
