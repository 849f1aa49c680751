use Rattle.std.proofs.Common.{◌≡◌, subst, Err, Ok}
use Rattle.std.specs.Prelude.{Result, IsErrAnd, IfErr}
use Rattle.blk_sim.specs.declared.refusal.SimReason.{SimReason}
use Rattle.blk_sim.specs.Refusals.{IsIssueRefused, IsBackRefused}
use Rattle.blk_sim.proofs.simulation.Simulation.step.Goals as goal

-- what is said of the reason is said of the one that is handed on
handed_on : {X : Type 0} (r : Result X SimReason) (Q P : SimReason → Type 0) → IsErrAnd r Q → ((w : SimReason) → Q w → P w) → IfErr r P
handed_on (Ok x) Q P h f = tt
handed_on (Err w) Q P h f = f w h

pub returns-in_err-issue-in-Issue-clause-refused : goal.returns-in_err-issue-in-Issue-clause-refused
returns-in_err-issue-in-Issue-clause-refused g c =
    rw (← c.self.view_is, c.in-Issue.is) (handed_on c.from_residual-in_err-issue-in-Issue.result _ _ c.from_residual-in_err-issue-in-Issue.ensures.1
    (λ w q. subst (λ (x : SimReason). IsIssueRefused c.self.inside.core c.in-Issue.hw c.in-Issue.tag x) (let same : c.in_err-issue-in-Issue.field-0.0 ≡ w = cc in same) c.in_err-issue-in-Issue.ensures.refused))

pub returns-in_err-back-in-Back-clause-refused : goal.returns-in_err-back-in-Back-clause-refused
returns-in_err-back-in-Back-clause-refused g c =
    rw (← c.self.view_is, c.in-Back.is) (handed_on c.from_residual-in_err-back-in-Back.result _ _ c.from_residual-in_err-back-in-Back.ensures.1
    (λ w q. subst (λ (x : SimReason). IsBackRefused c.self.inside.core c.in-Back.tag x) (let same : c.in_err-back-in-Back.field-0.0 ≡ w = cc in same) c.in_err-back-in-Back.ensures.refused))
