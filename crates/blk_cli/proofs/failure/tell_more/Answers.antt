use Rattle.blk_cli.proofs.failure.tell_more.Goals as goal

pub returns : goal.returns
returns g c = rw (c.put_number-end.ensures.written, c.as_bytes.ensures.value) at c.put_all.ensures
