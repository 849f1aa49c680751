use Rattle.std.proofs.Common.{arith}
use Rattle.std.proofs.lemmas.Result.{err_from_is_err_and}
use Rattle.blk_sim.proofs.Chains.{work_none, work_more}
use Rattle.blk_sim.proofs.rounds.work_rounds.Goals as goal

pub loop-init : goal.loop-init
loop-init g c = work_none _ _

pub loop-preserved : goal.loop-preserved
loop-preserved g c = work_more g.S.Scheduler.policy c.loop.counter c.args.core.now c.loop.core c.work.new.core c.loop.invariant c.in_ok-work.ensures.worked

pub returns-in_err-work-clause-refused : goal.returns-in_err-work-clause-refused
returns-in_err-work-clause-refused g c = let p = err_from_is_err_and c.from_residual.result c.from_residual.ensures.1 in rw (p.1, p.2) (record {
  rounds = c.loop.counter;
  few = omega arith;
  middle = c.loop.core;
  worked = c.loop.invariant;
  refused = c.in_err-work.ensures.refused;
})
