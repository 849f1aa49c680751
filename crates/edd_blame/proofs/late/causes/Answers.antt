use Rattle.std.proofs.Common.{◌≡◌, ◌∙◌, sym, ap, subst}
use Rattle.edd_blame.specs.Causes.{AreCauses}
use Rattle.edd_blame.specs.Inside.{causes_by}
use Rattle.edd_blame.proofs.Causing.{all_causes}
use Rattle.edd_blame.proofs.late.causes.Goals as goal

pub returns : goal.returns
returns g c =
    let same : c.in_ok-causes.causes.items ≡ causes_by c.in_ok-verdicts.verdicts.items c.args.allowances.now = c.in_ok-causes.ensures ∙ ap (λ l. causes_by l c.args.allowances.now) c.as_slice.ensures.value in
    subst (λ l. AreCauses c.args.commands.now c.args.rounds.now c.args.capacity.now c.args.allowances.now c.args.dispatches.now l) (sym same)
    (all_causes c.args.commands.now c.args.rounds.now c.args.capacity.now c.args.allowances.now c.args.dispatches.now c.in_ok-verdicts.verdicts.items c.requires.by_clock c.in_ok-verdicts.ensures)
