use Rattle.std.proofs.Common.{arith, ◌∙◌, ap, List, Option, length}
use Rattle.blk_sched.specs.Meaning.{Waiting}
use Rattle.blk_index.specs.Inside.Lanes.{run_of}
use Rattle.blk_index.proofs.Lanes.{one_passed}
use Rattle.blk_index.proofs.lane.pass_over.Goals as goal

pub loop-run-preserved : goal.loop-run-preserved
loop-run-preserved g c = record {
  short = omega (arith, c.push_back_reserved.ensures.len);
  room = omega (arith, c.push_back_reserved.ensures.capacity, c.loop-run.invariant.room);
  same = ap (run_of c.args.from) c.push_back_reserved.ensures.items ∙ one_passed c.args.from c.loop-run.run.items ∙ c.loop-run.invariant.same;
}

pub returns-in_default-clause-same : goal.returns-in_default-clause-same
returns-in_default-clause-same g c = ap (run_of c.args.from) c.reserve.ensures.items

pub returns-in_default-clause-run : goal.returns-in_default-clause-run
returns-in_default-clause-run g c = λ h.
    let same = ap (λ (os : List (Option Waiting)). length os) c.reserve.ensures.items in
    omega (arith, same, h)

pub returns-clause-next : goal.returns-clause-next
returns-clause-next g c = omega (arith, c.loop-run.invariant.short, c.loop-run-test.false, c.len-in-loop-run.ensures, c.if-id-from.false)

pub returns-clause-same : goal.returns-clause-same
returns-clause-same g c = c.loop-run.invariant.same ∙ ap (run_of c.args.from) c.reserve.ensures.items

pub returns-clause-run : goal.returns-clause-run
returns-clause-run g c = λ h. omega (arith, c.loop-run.invariant.short, c.if-id-from.false)
