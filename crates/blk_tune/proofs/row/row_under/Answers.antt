use Rattle.std.proofs.Common.{sym, subst}
use Rattle.blk_schedulers.specs.declared.sched.Sched.{Sched}
use Rattle.blk_text.specs.Script.{scripted}
use Rattle.blk_runs.specs.Runs.{IsTraceOfScript}
use Rattle.blk_tune.proofs.row.row_under.Goals as goal

pub returns-in-Ok-numbers_of : goal.returns-in-Ok-numbers_of
returns-in-Ok-numbers_of c =
    let t = c.in-Ok.ensures in
    let row = c.in-Ok-numbers_of.ensures in
    let is : IsTraceOfScript c.args.sched (scripted c.args.script.now) c.in-Ok.trace = record { ran = t.ran; setup = t.setup; bios = t.bios; ticks = t.ticks } in
    (row.sched, record { trace = c.in-Ok.trace; is_trace = subst (λ (s : Sched). IsTraceOfScript s (scripted c.args.script.now) c.in-Ok.trace) (sym row.sched) is; is_row = row.row })
