use Rattle.std.proofs.Common.{◌≡◌, ◌∙◌, sym, ap, refl, arith, inl, inr, true, false, Some}
use Rattle.std.specs.Prelude.{slice_get}
use Rattle.std.proofs.lemmas.Bool.{cases_Bool, ltb-true, ltb-false}
use Rattle.std.proofs.lemmas.Option.{slice_get-get_or, slice_get_within}
use lib.Dec.{ltb}
use Rattle.blk_layer.specs.Seats.{SubmitterSeat}
use Rattle.blk_layer.proofs.closing.is_there.Goals as goal

pub returns-then-from-number : goal.returns-then-from-number
returns-then-from-number g c =
    let at : slice_get c.args.submitters.now c.loop-submitter.submitter-index ≡ Some c.submitter-item.result = slice_get-get_or c.args.submitters.now c.loop-submitter.submitter-index c.submitter-item.result c.loop-submitter-test.true ∙ ap Some (sym c.submitter-item.is) in
    ((λ t. (c.loop-submitter.submitter-index, (c.submitter-item.result, at, sym c.number.ensures ∙ sym c.from.ensures ∙ c.if-from-number.true))), λ h. refl)

pub loop-submitter-preserved : goal.loop-submitter-preserved
loop-submitter-preserved g c = λ k s less there named. elim (cases_Bool (ltb k c.loop-submitter.submitter-index)) [
  | inl y ↦ c.loop-submitter.invariant k s (ltb-true k c.loop-submitter.submitter-index y) there named
  | inr n ↦
      let here : k ≡ c.loop-submitter.submitter-index = omega (arith, less, ltb-false k c.loop-submitter.submitter-index n) in
      let at : slice_get c.args.submitters.now c.loop-submitter.submitter-index ≡ Some c.submitter-item.result = slice_get-get_or c.args.submitters.now c.loop-submitter.submitter-index c.submitter-item.result c.loop-submitter-test.true ∙ ap Some (sym c.submitter-item.is) in
      let both : Some c.submitter-item.result ≡ Some s = sym at ∙ ap (slice_get c.args.submitters.now) (sym here) ∙ there in
      let one : c.submitter-item.result ≡ s = cc in
      c.if-from-number.false (c.from.ensures ∙ c.number.ensures ∙ ap (λ (x : SubmitterSeat). x.number) one ∙ named)
]

pub returns : goal.returns
returns g c = (
  (λ t. let n : false ≡ true = t in absurd (cc)),
  λ h.
      let low = slice_get_within c.args.submitters.now h.0 h.1.0 h.1.1 in
      absurd (c.loop-submitter.invariant h.0 h.1.0 (omega (arith, low, c.loop-submitter-test.false)) h.1.1 h.1.2),
)
