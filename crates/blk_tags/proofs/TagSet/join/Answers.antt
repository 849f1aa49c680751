use Rattle.std.proofs.Common.{◌≡◌, ◌≢◌, ◌<◌, ◌+◌, ◌==◌, ◌∙◌, ℕ, [], ◌∷◌, length, refl, sym, ap, subst, arith, inl, inr}
use Rattle.std.specs.Prelude.{Contains}
use Rattle.std.proofs.lemmas.Bool.{cases_Bool, eqb-true, eq-eqb, ltb-true, ltb-false}
use Rattle.std.proofs.lemmas.List.{length-append}
use lib.Dec.{ltb}
use Rattle.blk_tags.specs.Tags.{Seat}
use Rattle.blk_tags.specs.Tags.{count_of}
use Rattle.blk_tags.proofs.Counts.{held_some, one_left}
use Rattle.blk_tags.proofs.Marked.{gave_other, holds_none}
use Rattle.blk_tags.proofs.TagSet.join.Goals as goal
use Rattle.blk_tags.proofs.TagSet.join.Goals.{then-holds, else-holds}

less : (t n : ℕ) → t < n + 1 → t ≢ n → t < n
less t n a d = elim (cases_Bool (ltb t n)) [
  | inl y ↦ ltb-true t n y
  | inr f ↦ absurd (d (omega (arith, a, ltb-false t n f)))
]

pub loop-tag-preserved : goal.loop-tag-preserved
loop-tag-preserved g c = elim c.if-holds.branch [
  | then-holds w ↦ (
    ap (λ o. o.of_set) w.other-is ∙ ap (λ o. o.of_set) w.give.ensures ∙ c.loop-tag.invariant.0,
    λ t a has.
        let kept = gave_other c.loop-tag.tag t c.loop-tag.other.tags (subst (λ tags. Contains tags t) (ap (λ o. o.tags) w.other-is ∙ ap (λ o. o.tags) w.give.ensures) has) in
        c.loop-tag.invariant.1 t (less t c.loop-tag.tag a kept.0) kept.1,
    ap (λ o. o.last) w.other-is ∙ ap (λ o. o.last) w.give.ensures ∙ c.loop-tag.invariant.2,
    (let has : Contains c.loop-tag.other.tags c.loop-tag.tag = c.holds.ensures.value.0 w.if-holds.true in
        let one : count_of c.loop-tag.tag c.loop-tag.other.tags ≡ 1 = omega (arith, held_some c.loop-tag.tag c.loop-tag.other.tags has, c.holds.ensures.is_seat.once c.loop-tag.tag) in
        rw (w.other-is, w.give.ensures) (omega (arith, c.loop-tag.invariant.3, one_left c.loop-tag.tag c.loop-tag.other.tags one, length-append c.loop-tag.other.steps (c.loop-tag.tag ∷ [])))),
  )
  | else-holds w ↦ (
    ap (λ o. o.of_set) w.other-is ∙ c.loop-tag.invariant.0,
    λ t a has.
        let was : Contains c.loop-tag.other.tags t = subst (λ tags. Contains tags t) (ap (λ o. o.tags) w.other-is) has in
        elim (cases_Bool (t == c.loop-tag.tag)) [
          | inl y ↦ cc (sym (c.holds.ensures.value.1 (subst (λ k. Contains c.loop-tag.other.tags k) (eqb-true t c.loop-tag.tag y) was)) ∙ w.if-holds.false)
          | inr n ↦ c.loop-tag.invariant.1 t (less t c.loop-tag.tag a (λ q. cc (sym (eq-eqb t c.loop-tag.tag q) ∙ n))) was
        ],
    ap (λ o. o.last) w.other-is ∙ c.loop-tag.invariant.2,
    ap (λ o. length o.steps + length o.tags) w.other-is ∙ c.loop-tag.invariant.3,
  )
]

pub returns-clause-emptied : goal.returns-clause-emptied
returns-clause-emptied g c =
    let other : Seat = c.loop-tag.other in
    let depth : other.of_set.depth ≡ c.self.inside.depth = ap (λ s. s.depth) (c.loop-tag.invariant.0 ∙ c.requires) ∙ sym (ap (λ s. s.depth) c.self.view_is) in
    let none : other.tags ≡ [] = holds_none other c.holds-2.ensures.is_seat (λ t a has. c.loop-tag.invariant.1 t (omega (arith, a, c.loop-tag-test.false, depth)) has) in
    rw (c.loop-tag.invariant.0, none, c.loop-tag.invariant.2) refl

pub returns-clause-steps : goal.returns-clause-steps
returns-clause-steps g c =
    let other : Seat = c.loop-tag.other in
    let depth : other.of_set.depth ≡ c.self.inside.depth = ap (λ s. s.depth) (c.loop-tag.invariant.0 ∙ c.requires) ∙ sym (ap (λ s. s.depth) c.self.view_is) in
    let none : other.tags ≡ [] = holds_none other c.holds-2.ensures.is_seat (λ t a has. c.loop-tag.invariant.1 t (omega (arith, a, c.loop-tag-test.false, depth)) has) in
    omega (arith, c.loop-tag.invariant.3, ap length none)
