use Rattle.std.proofs.Common.{◌≡◌, get_or, sym, subst, ◌∙◌}
use Rattle.edd_commands.specs.Capacity.{depth_at, IsCapacity}
use Rattle.edd_commands.proofs.InForce.{depth_here}
use Rattle.edd_commands.proofs.steps.Capacity.at.Given.{Over}
use Rattle.edd_commands.proofs.steps.Capacity.at.Goals as goal

here : (g : Over) (c : goal.After-place_at g) → IsCapacity c.as_slice-steps.result.now
here g c = subst (λ xs. IsCapacity xs) (sym c.as_slice-steps.ensures.value) c.self.invariant

pub returns-clause-value : goal.returns-clause-value
returns-clause-value g c =
    subst (λ xs. (get_or c.as_slice-steps.result.now c.place_at.result record { from = 0; depth = 0 }).depth ≡ depth_at xs c.args.round) (c.as_slice-steps.ensures.value ∙ c.self.view_is)
    (sym (depth_here c.as_slice-steps.result.now c.place_at.result c.args.round record { from = 0; depth = 0 } c.place_at.ensures))

pub returns-clause-some : goal.returns-clause-some
returns-clause-some g c = (((here g c).each c.place_at.result c.place_at.ensures.in_list).some_depth record { from = 0; depth = 0 }).0

pub returns-clause-most : goal.returns-clause-most
returns-clause-most g c = (((here g c).each c.place_at.result c.place_at.ensures.in_list).some_depth record { from = 0; depth = 0 }).1
