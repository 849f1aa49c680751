use Rattle.std.proofs.Common.{ℕ, ◌≡◌, ◌≤◌, ◌∙◌, Some, length, ap, sym, arith, subst}
use Rattle.std.specs.Prelude.{slice_get}
use Rattle.blk_trace.specs.declared.trace.TheConstants.{MAX_EVENTS}
use Rattle.blk_trace.specs.declared.issued.Issued.{Issued}
use Rattle.blk_trace.specs.Events.{IsIssued}
use Rattle.blk_trace.specs.Traces.{Traced}
use Rattle.blk_trace.proofs.More.{rounds_within}
use Rattle.blk_trace.proofs.Issues.{issues_few, issue_low, was_so}
use Rattle.blk_trace.proofs.trace.Trace.issues.Goals as goal

pub returns-clause-few : goal.returns-clause-few
returns-clause-few g c =
    let es = c.self.inside.events.items in
    omega (arith, c.as_slice.ensures.value, ap length c.self.invariant.0.issued_are, issues_few 0 es, c.self.invariant.0.legal.not_too_long)

pub returns-clause-each : goal.returns-clause-each
returns-clause-each g c =
    let s = c.self.inside in
    let P : Traced → Type 0 = λ v. (k : ℕ) (i : Issued) → slice_get c.as_slice.result.now k ≡ Some i → IsIssued v.events i.id × (i.round ≤ MAX_EVENTS) in
    let inner : (k : ℕ) (i : Issued) → slice_get c.as_slice.result.now k ≡ Some i → IsIssued s.events.items i.id × (i.round ≤ MAX_EVENTS) = λ k i at.
    let there = ap (λ l. slice_get l k) (sym (c.as_slice.ensures.value ∙ c.self.invariant.0.issued_are)) ∙ at in
    (was_so s.events.items k i there, omega (arith, issue_low 0 s.events.items k i there, rounds_within s.events.items, c.self.invariant.0.legal.not_too_long)) in
    subst P c.self.view_is inner
