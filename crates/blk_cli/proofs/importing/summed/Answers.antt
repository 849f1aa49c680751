use Rattle.std.specs.Prelude.{option_map}
use Rattle.blk_cli.specs.Said.{said_of}
use Rattle.blk_cli.proofs.Sums.{sums_up}
use Rattle.blk_cli.proofs.importing.summed.Goals as goal

pub returns-in-Ok-with_source-clause-answers : goal.returns-in-Ok-with_source-clause-answers
returns-in-Ok-with_source-clause-answers c rs has =
    sums_up c.args.wanted rs c.args.capture.printed c.asked_of-asked.result c.in-Ok.sum c.tags_asked.result c.in-Ok-summary_answer.numbers c.in-Ok-lines.text.items c.in-Ok-doubt_text.doubts.items
    (option_map (λ n. n.items) c.in-Ok-noted.note) (said_of c.in-Ok-with_source.answer)
    c.asked_of-asked.ensures (c.in-Ok.ensures rs has) c.tags_asked.ensures c.in-Ok-summary_answer.ensures c.in-Ok-lines.ensures c.in-Ok-doubt_text.ensures c.in-Ok-noted.ensures
    c.in-Ok-with_source.ensures.ok
