use Rattle.std.proofs.Common.{take}
use Rattle.blk_text.specs.Script.{scripted}
use Rattle.blk_schedulers.proofs.Unmade.{no_sched}
use Rattle.blk_runs.proofs.Turns.{unrun_at}
use Rattle.blk_cli.specs.Comparing.{IsReportUnder}
use Rattle.blk_cli.proofs.Compared.{none_yet, one_more, reports_whole}
use Rattle.blk_cli.proofs.comparing.reports_of.Goals as goal

pub loop-i-init : goal.loop-i-init
loop-i-init c = record { reports = rw c.new-all.ensures.items (none_yet IsReportUnder (scripted c.args.script.now)) }

pub returns-in-Err-clause-uncompared : goal.returns-in-Err-clause-uncompared
returns-in-Err-clause-uncompared c =
    let whole = reports_whole (take c.loop-i.i c.args.scheds.now) (scripted c.args.script.now) c.loop-i.all.items c.loop-i.invariant.reports in
    unrun_at c.args.scheds.now c.loop-i.i no_sched (scripted c.args.script.now) c.in-Err.fault c.loop-i-test.true c.requires.made whole c.in-Err.ensures.unrun

pub loop-i-preserved : goal.loop-i-preserved
loop-i-preserved c = record {
  reports = rw c.in-Ok-push.ensures.items
      (one_more IsReportUnder c.args.scheds.now c.loop-i.i no_sched (scripted c.args.script.now) c.loop-i.all.items c.in-Ok.report c.loop-i-test.true c.loop-i.invariant.reports c.in-Ok.ensures.report);
}
