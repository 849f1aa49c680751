use Rattle.std.proofs.Common.{rules, ◌≡◌, inl, inr, refl, arith}
use Rattle.std.proofs.lemmas.List.{take_all}
use Rattle.blk_explain.proofs.Worded.{has_at, lacks_more}
use Rattle.blk_explain.proofs.forms.kind_named.Goals as goal

pub returns-then-eq : goal.returns-then-eq
returns-then-eq c =
    let same : c.args.word.now ≡ c.kind-item.result.word = search rules in
    inl (has_at c.args.kinds.now c.loop-kind.kind-index c.kind-item.result c.loop-kind-test.true c.kind-item.is, same)

pub loop-kind-preserved : goal.loop-kind-preserved
loop-kind-preserved c =
    let other : ¬ (c.args.word.now ≡ c.kind-item.result.word) = search rules in
    lacks_more c.args.word.now c.args.kinds.now c.loop-kind.kind-index c.kind-item.result c.loop-kind-test.true c.kind-item.is c.loop-kind.invariant other

pub returns : goal.returns
returns c = inr ((rw (take_all c.loop-kind.kind-index c.args.kinds.now (omega arith)) at c.loop-kind.invariant), refl)
