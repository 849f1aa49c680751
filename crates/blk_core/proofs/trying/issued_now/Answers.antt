use Rattle.std.proofs.Common.{◌∙◌, ◌+◌, ℕ, sym, ap, subst, arith}
use Rattle.std.specs.Prelude.{is_some}
use Rattle.blk_core.proofs.IssuedNow.{Counts, at_tick, at_issue, at_other, at_end}
use Rattle.blk_core.proofs.trying.issued_now.Goals as goal
use Rattle.blk_core.proofs.trying.issued_now.Goals.{then-is_some, else-is_some}

pub returns-then-is_tick : goal.returns-then-is_tick
returns-then-is_tick g c =
    at_tick c.args.events.now c.loop-place.place c.loop-place.count c.index-events-events.result c.loop-place-test.true c.index-events-events.is (sym c.is_tick.ensures ∙ c.if-is_tick.true) c.loop-place.invariant.1

pub loop-place-preserved : goal.loop-place-preserved
loop-place-preserved g c = elim c.if-is_some.branch [
  | then-is_some w ↦ (
    omega (arith, w.count-is, c.loop-place.invariant.0),
    subst (λ (n : ℕ). Counts c.args.events.now (c.loop-place.place + 1) n) (sym w.count-is)
        (at_issue c.args.events.now c.loop-place.place c.loop-place.count c.index-events-events.result c.loop-place-test.true c.index-events-events.is (sym c.is_tick.ensures ∙ c.if-is_tick.false) (sym (c.is_some.ensures ∙ ap is_some c.issues.ensures) ∙ w.if-is_some.true) c.loop-place.invariant.1),
  )
  | else-is_some w ↦ (
    omega (arith, w.count-is, c.loop-place.invariant.0),
    subst (λ (n : ℕ). Counts c.args.events.now (c.loop-place.place + 1) n) (sym w.count-is)
        (at_other c.args.events.now c.loop-place.place c.loop-place.count c.index-events-events.result c.loop-place-test.true c.index-events-events.is (sym c.is_tick.ensures ∙ c.if-is_tick.false) (sym (c.is_some.ensures ∙ ap is_some c.issues.ensures) ∙ w.if-is_some.false) c.loop-place.invariant.1),
  )
]

pub returns : goal.returns
returns g c = at_end c.args.events.now c.loop-place.place c.loop-place.count (omega (arith, c.loop-place-test.false, c.loop-place.auto.place-end)) c.loop-place.invariant.1
