use Rattle.std.proofs.Common.{◌≡◌, arith, replicate, subst}
use Rattle.blk_core.specs.declared.tags.TagState.TheVariants.{Free}
use Rattle.blk_core.proofs.tags.free_tags.Goals as goal

pub returns : goal.returns
returns g c =
    let all : c.loop.counter ≡ c.args.count = omega (arith, c.loop-test.false, c.loop.auto.counter-end) in
    subst (λ n. c.loop.tags.items ≡ replicate n Free) all c.loop.invariant
