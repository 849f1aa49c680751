use Rattle.blk_args.specs.Options.{json_option, times_option, trace_option}
use Rattle.blk_args.specs.Asked.{is_flagged, sched_asked, amounts_of}
use Rattle.blk_args.specs.Inside.Options.{given}
use Rattle.blk_args.proofs.Lines.{loads_by, not_first, not_second}
use Rattle.blk_args.proofs.words.load_job.Goals as goal
use Rattle.blk_args.proofs.words.load_job.Goals.{else-trace-via-then-trace+else-json, else-trace-via-else-trace}

pub returns-else-trace : goal.returns-else-trace
returns-else-trace c =
    let rows = given c.args.options.now in
    let trace = c.is_flagged-trace.result in
    let json = c.is_flagged-json.result in
    elim c.else-trace.branch [
      | else-trace-via-then-trace+else-json w ↦ loads_by (is_flagged times_option.name rows) trace json (is_flagged trace_option.name rows) (is_flagged json_option.name rows) c.shown_of.result (sched_asked rows) (amounts_of rows) c.load_of.result (not_second trace json w.if-json.false) c.is_flagged-trace.ensures c.is_flagged-json.ensures c.shown_of.ensures c.load_of.ensures
      | else-trace-via-else-trace w ↦ loads_by (is_flagged times_option.name rows) trace json (is_flagged trace_option.name rows) (is_flagged json_option.name rows) c.shown_of.result (sched_asked rows) (amounts_of rows) c.load_of.result (not_first trace json w.if-trace.false) c.is_flagged-trace.ensures c.is_flagged-json.ensures c.shown_of.ensures c.load_of.ensures
    ]
