use Rattle.blk_text.specs.Script.{scripted}
use Rattle.blk_schedulers.specs.Made.{IsStart}
use Rattle.blk_runs.proofs.Starts.{from_start, made_start}
use Rattle.blk_runs.proofs.tracing.traced_by.Goals as goal

pub returns-in-Ok-simulate-clause-ran : goal.returns-in-Ok-simulate-clause-ran
returns-in-Ok-simulate-clause-ran g c =
    let start = made_start c.args.made c.in-Ok.scheduler (λ s. IsStart c.args.sched c.args.script.now.setup.depth (g.S.Scheduler.meaning s) (g.S.Scheduler.kept s)) c.in-Ok.is c.requires.start in
    (start.0, from_start _ (scripted c.args.script.now) c.in-Ok-simulate.trace _ _ _ _ start.1 start.2 c.in-Ok-simulate.ensures.ran)
