use Rattle.std.proofs.Common.{◌∙◌, ap, true, map, string_bytes, codes}
use Rattle.text_output.specs.Outputs.{stream_of}
use Rattle.blk_cli.specs.Said.{said_of}
use Rattle.blk_schedulers.specs.Defaults.{earliest_by}
use Rattle.blk_schedulers.specs.declared.form.Form.TheVariants as form
use Rattle.blk_args.specs.declared.table.FiguresAsked.TheVariants as figures
use Rattle.blk_args.specs.declared.inputs.Running.TheVariants as running
use Rattle.blk_args.specs.declared.inputs.TraceOutput.TheVariants as tell
use Rattle.blk_args.specs.declared.inputs.TextJob.TheVariants as text_job
use Rattle.blk_online_cli.specs.Told.{CountsNoneAvoidable}
use Rattle.blk_online_cli.specs.Inside.Words.{sim_words, misses_words}
use Rattle.blk_online_cli.proofs.Ending.{piped}
use Rattle.blk_online_cli.proofs.Telling.{misses}
use Rattle.blk_online_cli.proofs.misses_of_late_last.Goals as goal

pub returns : goal.returns
returns g c script known by good =
    let traced = said_of c.in-Ok.traced in
    let old = stream_of g.W.Write.contents c.args.out.now in
    let new = stream_of g.W.Write.contents c.run.new.out in
    piped CountsNoneAvoidable (text_job.OfScript (running.One (earliest_by true))) (text_job.OfTrace (tell.Figures figures.Misses form.Lines)) (sim_words true) misses_words (map string_bytes c.as_slice.result.now) (map string_bytes c.as_slice-3.result.now) script traced c.as_slice-2.result.now
    c.args.records.now.left c.new-read.result.left c.args.records.now.bytes c.new-read.result.bytes c.run.new.records.failed old new (stream_of g.F.Write.contents c.args.faults.now) (stream_of g.F.Write.contents c.run.new.faults) c.run.result
    (λ text. misses script traced.text text old new by) (c.plain_lines.ensures.late_last (codes "blk")) (c.plain_lines.ensures.misses (codes "blk"))
    (ap (map string_bytes) c.as_slice.ensures.value ∙ c.in_ok-first.ensures) (ap (map string_bytes) c.as_slice-3.ensures.value ∙ c.in_ok-second.ensures)
    known c.new-read.ensures.left c.new-read.ensures.bytes c.as_slice-2.ensures.value c.in-Ok.ensures.answers c.run.ensures.ended good
