use Rattle.std.proofs.Common.{inr}
use Rattle.std.proofs.lemmas.Result.{err_from_is_err_and}
use Rattle.blk_sim.proofs.rounds.work.Goals as goal

pub returns-in_err-tick-clause-refused : goal.returns-in_err-tick-clause-refused
returns-in_err-tick-clause-refused g c = let p = err_from_is_err_and c.from_residual-in_err-tick.result c.from_residual-in_err-tick.ensures.1 in rw (p.1, p.2) (inr (record {
  busy = c.issue_all.new.core;
  idle = c.complete_all.new.core;
  issues = c.in_ok-issue_all.ensures.issued;
  completes = c.complete_all.ensures;
  refused = c.in_err-tick.ensures.refused;
}))
