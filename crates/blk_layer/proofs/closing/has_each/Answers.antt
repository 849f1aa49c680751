use Rattle.std.proofs.Common.{◌≡◌, refl, subst, arith, inl, inr, true, false}
use Rattle.std.proofs.lemmas.Bool.{cases_Bool, ltb-true, ltb-false}
use lib.Dec.{ltb}
use Rattle.blk_layer.specs.Closing.{HasNumber}
use Rattle.blk_layer.proofs.closing.has_each.Goals as goal

pub returns-then-not-is_there : goal.returns-then-not-is_there
returns-then-not-is_there g c = (
  (λ t. let n : false ≡ true = t in absurd (cc)),
  λ all.
      let has : c.is_there.result ≡ true = c.is_there.ensures.1 (all c.loop-number.number c.loop-number-test.true) in
      let not : c.is_there.result ≡ false = c.if-not-is_there.true in
      absurd (cc),
)

pub loop-number-preserved : goal.loop-number-preserved
loop-number-preserved g c = λ k less. elim (cases_Bool (ltb k c.loop-number.number)) [
  | inl y ↦ c.loop-number.invariant k (ltb-true k c.loop-number.number y)
  | inr n ↦
      let here : c.loop-number.number ≡ k = omega (arith, less, ltb-false k c.loop-number.number n) in
      subst (HasNumber c.args.submitters.now) here (c.is_there.ensures.0 c.if-not-is_there.false)
]

pub returns : goal.returns
returns g c = (λ t. λ k low. c.loop-number.invariant k (omega (arith, low, c.loop-number-test.false)), λ h. refl)
