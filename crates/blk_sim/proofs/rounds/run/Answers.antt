use Rattle.std.proofs.lemmas.Result.{err_from_is_err_and}
use Rattle.blk_sim.proofs.Rounding.{rounds_of, drains_refused, work_refused}
use Rattle.blk_sim.proofs.rounds.run.Goals as goal

pub returns-clause-passed : goal.returns-clause-passed
returns-clause-passed g c = rounds_of g.S.Scheduler.policy c.args.count c.args.queues.now.items c.drain_all.new.queues.items c.args.core.now c.drain_all.new.core c.work_rounds.new.core c.in_ok-drain_all.ensures.some c.requires.some c.in_ok-drain_all.ensures.drained c.in_ok-work_rounds.ensures.worked

pub returns-in_err-drain_all-clause-refused : goal.returns-in_err-drain_all-clause-refused
returns-in_err-drain_all-clause-refused g c = let p = err_from_is_err_and c.from_residual.result c.from_residual.ensures.1 in rw (p.1, p.2) (drains_refused g.S.Scheduler.policy c.args.count c.args.queues.now.items c.args.core.now _ c.requires.some c.in_err-drain_all.ensures.refused)

pub returns-in_err-work_rounds-clause-refused : goal.returns-in_err-work_rounds-clause-refused
returns-in_err-work_rounds-clause-refused g c = let p = err_from_is_err_and c.from_residual-in_err-work_rounds.result c.from_residual-in_err-work_rounds.ensures.1 in rw (p.1, p.2) (work_refused g.S.Scheduler.policy c.args.count c.args.queues.now.items c.drain_all.new.queues.items c.args.core.now c.drain_all.new.core _ c.in_ok-drain_all.ensures.some c.in_ok-drain_all.ensures.drained c.in_err-work_rounds.ensures.refused)
