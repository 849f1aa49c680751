use Rattle.blk_schedulers.specs.Made.{IsStart}
use Rattle.blk_replayed.proofs.Starts.{from_start, is_at_start, made_start}
use Rattle.blk_replayed.proofs.serving.rounds_by.Goals as goal

pub replay_requests-requires-clause-start : goal.replay_requests-requires-clause-start
replay_requests-requires-clause-start g c =
    let start = made_start c.args.made c.in-Ok.scheduler (λ s. IsStart c.args.sched 1 (g.S.Scheduler.meaning s) (g.S.Scheduler.kept s)) c.in-Ok.is c.requires.start in
    is_at_start c.args.sched _ start.1

pub returns-in-Ok-replay_requests-clause-replayed : goal.returns-in-Ok-replay_requests-clause-replayed
returns-in-Ok-replay_requests-clause-replayed g c =
    let start = made_start c.args.made c.in-Ok.scheduler (λ s. IsStart c.args.sched 1 (g.S.Scheduler.meaning s) (g.S.Scheduler.kept s)) c.in-Ok.is c.requires.start in
    (start.0, from_start _ c.args.sched _ _ _ _ c.args.by _ start.1 start.2 c.in-Ok-replay_requests.ensures.replay)
