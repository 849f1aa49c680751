use Rattle.std.proofs.Common.{arith}
use Rattle.blk_blame.proofs.Laxer.{sooner_too}
use Rattle.blk_blame.proofs.tightest.tightest_of.Goals as goal

pub least_below-requires-clause-enough : goal.least_below-requires-clause-enough
least_below-requires-clause-enough c = rw c.if-enough.true at c.in_ok-enough.ensures

pub least_below-requires-then-late_enough-clause-enough : goal.least_below-requires-then-late_enough-clause-enough
least_below-requires-then-late_enough-clause-enough c = rw c.if-late_enough.true at c.in_ok-late_enough.ensures

pub returns : goal.returns
returns c own h = sooner_too c.args.requests.now c.args.aim c.args.others _ (rw c.if-late_enough.false at c.in_ok-late_enough.ensures) own (omega (arith, h))
