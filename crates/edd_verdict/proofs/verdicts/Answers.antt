use Rattle.std.proofs.Common.{subst}
use Rattle.edd_verdict.specs.Inside.Open.{AreJudged}
use Rattle.edd_verdict.proofs.Answering.{all_verdicts}
use Rattle.edd_verdict.proofs.verdicts.Goals as goal

pub returns : goal.returns
returns g c =
    all_verdicts c.args.commands.now c.args.rounds.now c.args.capacity.now c.in_ok-windows.windows.items c.requires.legal c.in_ok-windows.ensures c.in_ok-verdicts.verdicts.items
    (subst (λ ws. AreJudged c.args.commands.now c.args.rounds.now ws c.in_ok-verdicts.verdicts.items) c.as_slice.ensures.value c.in_ok-verdicts.ensures)
