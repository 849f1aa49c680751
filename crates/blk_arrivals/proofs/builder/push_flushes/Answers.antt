use Rattle.std.proofs.Common.{arith}
use Rattle.blk_arrivals.proofs.Stepping.{flush_step, no_flushes}
use Rattle.blk_arrivals.proofs.builder.push_flushes.Goals as goal

pub loop-submitter-preserved : goal.loop-submitter-preserved
loop-submitter-preserved c = flush_step c.loop-submitter.lines.items c.push_flush.new.lines.items _ c.args.held.now c.loop-submitter.submitter c.loop-submitter-test.true c.loop-submitter.invariant c.in_ok-push_flush.ensures

pub returns : goal.returns
returns c = no_flushes c.loop-submitter.lines.items _ c.args.held.now c.loop-submitter.submitter (omega arith) c.loop-submitter.invariant
