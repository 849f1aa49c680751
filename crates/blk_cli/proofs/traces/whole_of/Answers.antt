use Rattle.blk_text.proofs.TraceLaws.{rows_spell}
use Rattle.blk_cli.proofs.traces.whole_of.Goals as goal

pub returns-in-Ok-clause-text : goal.returns-in-Ok-clause-text
returns-in-Ok-clause-text c = record { spelled = rows_spell c.args.trace.now c.in-Ok.ensures.fits; is_text = c.in-Ok.ensures.text }
