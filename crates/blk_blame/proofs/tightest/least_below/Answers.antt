use Rattle.std.proofs.Common.{arith}
use Rattle.blk_blame.proofs.Laxer.{sooner_too}
use Rattle.blk_blame.proofs.tightest.least_below.Goals as goal

pub loop-low-init : goal.loop-low-init
loop-low-init c = record { order = omega arith; below = λ own h. absurd (omega (arith, h)); enough = c.requires.enough }

pub loop-low-preserved-then-enough : goal.loop-low-preserved-then-enough
loop-low-preserved-then-enough c = record {
  order = omega arith;
  below = c.loop-low.invariant.below;
  enough = rw c.if-enough.true at c.in_ok-enough.ensures;
}

pub loop-low-preserved : goal.loop-low-preserved
loop-low-preserved c = record {
  order = omega arith;
  below = λ own h. sooner_too c.args.requests.now c.args.aim c.args.others _ (rw c.if-enough.false at c.in_ok-enough.ensures) own (omega (arith, h));
  enough = c.loop-low.invariant.enough;
}

pub returns : goal.returns
returns c = record { enough = c.loop-low.invariant.enough; least = λ sooner h. c.loop-low.invariant.below sooner (omega (arith, h, c.loop-low.invariant.order, c.loop-low-test.false)) }
