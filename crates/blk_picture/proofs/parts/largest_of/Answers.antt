use Rattle.std.proofs.Common.{List, arith}
use Rattle.blk_trace.specs.Traces.{Traced}
use Rattle.blk_picture.proofs.Joining.{none_most, none_deep, rounds_more, deep_more}
use Rattle.blk_picture.proofs.parts.largest_of.Goals as goal

pub loop-trace-init : goal.loop-trace-init
loop-trace-init c = record {
  rounds = none_most c.args.traces.now;
  deep = none_deep c.args.traces.now;
  few = omega arith;
  low = omega arith;
}

pub loop-trace-preserved : goal.loop-trace-preserved
loop-trace-preserved c =
    let old = c.loop-trace.invariant in
    let traces : List Traced = c.args.traces.now in
    let rounds = rounds_more traces c.loop-trace.trace-index c.trace-item.result c.loop-trace-test.true c.trace-item.is in
    let deep = deep_more traces c.loop-trace.trace-index c.trace-item.result c.loop-trace-test.true c.trace-item.is in
    record {
      rounds = omega (arith, old.rounds, rounds, c.rounds_shown.ensures.value);
      deep = omega (arith, old.deep, deep, c.tags_shown.ensures.value);
      few = omega (arith, old.few, c.rounds_shown.ensures.small);
      low = omega (arith, old.low, c.tags_shown.ensures.small);
    }
