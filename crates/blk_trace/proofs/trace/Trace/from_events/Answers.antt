use Rattle.std.proofs.Common.{◌≡◌, ◌++◌, ◌∷◌, [], length, List, ap, sym, refl, ◌∙◌, subst, append-nil, arith}
use Rattle.std.specs.Vec.Iter.{into_iter_items}
use Rattle.blk_trace.specs.Happened.{Happened}
use Rattle.blk_trace.specs.Legal.{IsLegalTrace}
use Rattle.blk_trace.proofs.Reading.{refused_at, not_legal}
use Rattle.blk_trace.proofs.trace.Trace.from_events.Goals as goal

pub returns-in-Err-default-Rule-clause-answer : goal.returns-in-Err-default-Rule-clause-answer
returns-in-Err-default-Rule-clause-answer g c =
    let i = c.loop-event.invariant in
    let told = rw c.in-Err-default-Rule.field-0-1-is at c.in-Err-default-Rule.ensures.answer in
    refused_at c.args.setup _ c.args.events.items _ c.loop-event.yielded _ c.in-Some.event _ c.in-Err-default-Rule.rule i.setup_same i.events_same i.legal ((i.rest ∙ ap (λ l. c.loop-event.yielded ++ l) c.in-Some.ensures.steps.0)) c.len-at.ensures.value told.1

pub returns-in-Err-default-Rule-clause-accepts : goal.returns-in-Err-default-Rule-clause-accepts
returns-in-Err-default-Rule-clause-accepts g c =
    λ legal.
    let i = c.loop-event.invariant in
    let told = rw c.in-Err-default-Rule.field-0-1-is at c.in-Err-default-Rule.ensures.answer in
    absurd (not_legal c.args.setup _ c.args.events.items _ c.loop-event.yielded _ c.in-Some.event c.in-Err-default-Rule.rule i.setup_same i.events_same ((i.rest ∙ ap (λ l. c.loop-event.yielded ++ l) c.in-Some.ensures.steps.0)) told.1 legal)

nothing : {X : Type 0} (xs : List X) → length xs ≡ 0 → xs ≡ []
nothing [] h = refl
nothing (x ∷ xs) h = absurd (omega arith)

pub returns-clause-answer : goal.returns-clause-answer
returns-clause-answer g c =
    let i = c.loop-event.invariant in
    let h = c.in-None.ensures.steps.0 in
    let none : into_iter_items c.loop-event.event-iterator ≡ [] = nothing _ (omega (arith, h, c.loop-event.event-iterator.rest.ok.0)) in
    let whole : c.args.events.items ≡ c.loop-event.yielded = i.rest ∙ ap (λ l. c.loop-event.yielded ++ l) none ∙ append-nil c.loop-event.yielded in
    (i.setup_same, i.events_same ∙ (sym whole), i.unprepared, subst (λ (l : List Happened). IsLegalTrace c.args.setup l) ((sym whole)) i.legal)
