use Rattle.blk_cli.proofs.failure.tell_words.Goals as goal

pub returns-in-Text : goal.returns-in-Text
returns-in-Text g c = (_, c.tell_name.ensures)
