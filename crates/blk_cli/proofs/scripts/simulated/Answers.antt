use Rattle.blk_text.proofs.TraceLaws.{rows_spell}
use Rattle.blk_cli.proofs.scripts.simulated.Goals as goal

pub returns-in-Ok-trace_text-clause-text : goal.returns-in-Ok-trace_text-clause-text
returns-in-Ok-trace_text-clause-text c =
    let t = c.in-Ok.ensures in
    record {
      trace = c.in-Ok.trace;
      is_trace = record { ran = t.ran; setup = t.setup; bios = t.bios; ticks = t.ticks };
      is_text = record { spelled = rows_spell c.in-Ok.trace c.in-Ok-trace_text.ensures.fits; is_text = c.in-Ok-trace_text.ensures.text };
    }
