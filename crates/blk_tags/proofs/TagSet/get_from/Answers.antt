use Rattle.std.proofs.Common.{◌≡◌, ◌<◌, ◌+◌, ◌%◌, ◌++◌, ◌∙◌, refl, sym, ap, arith}
use Rattle.blk_tags.specs.Tags.{tag_or_first, tried_from}
use Rattle.std.proofs.lemmas.List.{append-nil}
use Rattle.std.proofs.Math.Nat.{mod-lt}
use Rattle.blk_tags.proofs.Tries.{first_below, starts, goes_on, one_more}
use Rattle.blk_tags.proofs.TagSet.get_from.Goals as goal

pub loop-init : goal.loop-init
loop-init g c = (refl, rw c.or_first-tag.ensures.value (starts c.args.self.now.depth _ (first_below c.args.self.now.depth c.args.from c.or_first-tag.ensures.is_set.some)), sym (append-nil c.args.seat.now.steps))

pub take-requires-clause-below : goal.take-requires-clause-below
take-requires-clause-below g c = rw c.loop.invariant.1 (mod-lt (c.or_first-tag.result + c.loop.counter) c.or_first-tag.ensures.is_set.some)

pub returns-then-take-clause-below : goal.returns-then-take-clause-below
returns-then-take-clause-below g c = rw c.loop.invariant.1 (mod-lt (c.or_first-tag.result + c.loop.counter) c.or_first-tag.ensures.is_set.some)

pub returns-then-take-clause-steps : goal.returns-then-take-clause-steps
returns-then-take-clause-steps g c =
    let first = c.or_first-tag.ensures.value in (
      c.loop.counter,
      omega (arith, c.loop-test.true, ap (λ s. s.depth) c.self.view_is),
      c.loop.invariant.1 ∙ ap (λ k. (k + c.loop.counter) % c.args.self.now.depth) first,
      one_more c.args.self.now.depth c.or_first-tag.result c.loop.counter c.loop.tag _ _ _ c.loop.invariant.1 c.loop.invariant.2 c.take.ensures.steps
          ∙ ap (λ k. c.args.seat.now.steps ++ tried_from c.args.self.now.depth k (c.loop.counter + 1)) first,
    )

pub overflow_add-tag : goal.overflow_add-tag
overflow_add-tag g c =
    let small : c.loop.tag < c.args.self.now.depth = rw c.loop.invariant.1 (mod-lt (c.or_first-tag.result + c.loop.counter) c.or_first-tag.ensures.is_set.some) in
    omega (arith, small, c.or_first-tag.ensures.is_set.few)

pub loop-preserved : goal.loop-preserved
loop-preserved g c = (
  rw (c.if-take.ensures.lost, c.loop.invariant.0) refl,
  c.or_first-tag-in-loop.ensures.value ∙ goes_on c.args.self.now.depth c.or_first-tag.result c.loop.counter c.loop.tag c.or_first-tag.ensures.is_set.some c.loop.invariant.1,
  one_more c.args.self.now.depth c.or_first-tag.result c.loop.counter c.loop.tag _ _ _ c.loop.invariant.1 c.loop.invariant.2 c.take.ensures.steps,
)

pub returns-clause-steps : goal.returns-clause-steps
returns-clause-steps g c =
    let all : c.loop.counter ≡ c.args.self.now.depth = omega (arith, c.loop-test.false, c.loop.auto.counter-end, ap (λ s. s.depth) c.self.view_is) in
    c.loop.invariant.2 ∙ ap (λ k. c.args.seat.now.steps ++ tried_from c.args.self.now.depth k c.loop.counter) c.or_first-tag.ensures.value
    ∙ ap (λ n. c.args.seat.now.steps ++ tried_from c.args.self.now.depth (tag_or_first c.args.self.now.depth c.args.from) n) all
