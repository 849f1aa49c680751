use Rattle.std.proofs.Common.{ℕ, ◌≡◌, ◌<◌, ◌+◌, ◌∙◌, length, refl, sym, ap, subst, arith}
use Rattle.std.proofs.lemmas.Bool.{eq-eqb, ne_eqb}
use Rattle.blk_capture.specs.Fates.{AddsUp}
use Rattle.blk_capture.specs.declared.fates.Fate.TheVariants.{LeftOut}
use Rattle.blk_capture.specs.declared.fates.ActionTally.{ActionTally}
use Rattle.blk_capture.proofs.Counted.{tally_none, tally_step, tally_same}
use Rattle.blk_capture.proofs.fates.tally_of.Goals as goal
use Rattle.blk_capture.proofs.fates.tally_of.Goals.{then-place, else-place}

pub loop-place-init : goal.loop-place-init
loop-place-init c = record { value = tally_none c.args.action c.args.records.now; sum = refl; few = omega arith }

pub loop-place-preserved : goal.loop-place-preserved
loop-place-preserved c =
    let n : ℕ = c.loop-place.place in
    let here : n < length c.args.fates.now = c.loop-place-test.true in
    elim c.if-place.branch [
      | then-place w ↦ record {
        value =
            tally_step c.args.action c.args.records.now c.args.fates.now n _ _ c.loop-place.counts c.if-place.counts here c.requires
            (eq-eqb _ _ (sym c.place.ensures ∙ w.if-place.true ∙ c.place-in-loop-place.ensures)) c.loop-place.invariant.value (w.counts-is ∙ w.with-counts.ensures.value);
        sum = subst AddsUp (sym w.counts-is) w.with-counts.ensures.up;
        few =
            let is : c.if-place.counts.records ≡ c.loop-place.counts.records + 1 = ap (λ (t : ActionTally). t.records) w.counts-is ∙ w.with-counts.ensures.records in
            omega (arith, is, c.loop-place.invariant.few);
      }
      | else-place w ↦ record {
        value =
            w.counts-is
            ∙ c.loop-place.invariant.value
            ∙ tally_same c.args.action c.args.records.now c.args.fates.now n _ LeftOut here c.requires (ne_eqb _ _ (λ e. w.if-place.false (c.place.ensures ∙ e ∙ sym c.place-in-loop-place.ensures)));
        sum = subst AddsUp (sym w.counts-is) c.loop-place.invariant.sum;
        few =
            let is : c.if-place.counts.records ≡ c.loop-place.counts.records = ap (λ (t : ActionTally). t.records) w.counts-is in
            omega (arith, is, c.loop-place.invariant.few);
      }
    ]
