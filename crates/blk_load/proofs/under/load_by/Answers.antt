use Rattle.blk_schedulers.specs.Made.{IsStart}
use Rattle.blk_load.proofs.Made.{is_told}
use Rattle.blk_load.proofs.Ruled.{made_start, run_under}
use Rattle.blk_load.proofs.under.load_by.Goals as goal

pub returns-in-Ok-load-clause-ran : goal.returns-in-Ok-load-clause-ran
returns-in-Ok-load-clause-ran g c =
    let S = g.S.Scheduler in
    let start = made_start c.args.made c.in-Ok.scheduler (λ s. IsStart c.args.sched c.args.amounts.depth (S.meaning s) (S.kept s)) c.in-Ok.is c.requires.start in
    run_under S.policy _ _ _ _ c.in-Ok-load.loaded.trace start.1 start.2 c.in-Ok-load.ensures.ran

pub returns-in-Err-load-clause-failed : goal.returns-in-Err-load-clause-failed
returns-in-Err-load-clause-failed g c = (c.requires.range, is_told c.in-Err-load.fault c.told.result c.told.ensures.name c.told.ensures.beside)
