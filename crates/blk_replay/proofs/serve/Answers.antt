use Rattle.blk_replay.proofs.Serving.{picks_one}
use Rattle.blk_replay.proofs.serve.Goals as goal

pub unreachable-requires : goal.unreachable-requires
unreachable-requires g c = picks_one g.S.Scheduler.policy.serves (g.S.Scheduler.meaning c.args.sched.now) c.requires.none_open c.requires.own c.requires.some c.pick.ensures.own c.in_default.ensures.none
