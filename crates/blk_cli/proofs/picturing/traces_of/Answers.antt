use Rattle.std.proofs.Common.{take}
use Rattle.blk_text.specs.Script.{scripted}
use Rattle.blk_schedulers.proofs.Unmade.{no_sched}
use Rattle.blk_runs.specs.Runs.{IsTraceOfScript}
use Rattle.blk_runs.proofs.Turns.{unrun_at}
use Rattle.blk_cli.proofs.Compared.{none_yet, one_more, traces_whole}
use Rattle.blk_cli.proofs.picturing.traces_of.Goals as goal

pub loop-i-init : goal.loop-i-init
loop-i-init c = record { traces = rw c.new-all.ensures.items (none_yet IsTraceOfScript (scripted c.args.script.now)) }

pub returns-in-Err-clause-uncompared : goal.returns-in-Err-clause-uncompared
returns-in-Err-clause-uncompared c =
    let whole = traces_whole (take c.loop-i.i c.args.scheds.now) (scripted c.args.script.now) c.loop-i.all.items c.loop-i.invariant.traces in
    unrun_at c.args.scheds.now c.loop-i.i no_sched (scripted c.args.script.now) c.in-Err.fault c.loop-i-test.true c.requires.made whole c.in-Err.ensures.unrun

pub loop-i-preserved : goal.loop-i-preserved
loop-i-preserved c =
    let t = c.in-Ok.ensures in
    record {
      traces = rw c.in-Ok-push.ensures.items
          (one_more IsTraceOfScript c.args.scheds.now c.loop-i.i no_sched (scripted c.args.script.now) c.loop-i.all.items c.in-Ok.trace c.loop-i-test.true c.loop-i.invariant.traces
          (record { ran = t.ran; setup = t.setup; bios = t.bios; ticks = t.ticks }));
    }
