use Rattle.blk_cli.proofs.failure.tell_too_many.Goals as goal

pub returns : goal.returns
returns g c = (_, c.put_all.ensures)
