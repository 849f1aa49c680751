use Rattle.blk_sim.proofs.Keeping.{steps_stand, steps_ready, steps_went}
use Rattle.blk_sim.proofs.laws.each_step_keeps.Goals as goal

pub returns-clause-stands : goal.returns-clause-stands
returns-clause-stands g c = steps_stand g.S.Scheduler.policy

pub returns-clause-ready : goal.returns-clause-ready
returns-clause-ready g c = steps_ready g.S.Scheduler.policy

pub returns-clause-rounds : goal.returns-clause-rounds
returns-clause-rounds g c old l new h = (steps_went g.S.Scheduler.policy old l new h).ticks

pub returns-clause-setup : goal.returns-clause-setup
returns-clause-setup g c old l new h = (steps_went g.S.Scheduler.policy old l new h).setup
