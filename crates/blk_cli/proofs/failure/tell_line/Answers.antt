use Rattle.blk_cli.proofs.failure.tell_line.Goals as goal

pub returns-in-TooLong : goal.returns-in-TooLong
returns-in-TooLong g c = rw c.in-TooLong.is (_, c.tell_line_name.ensures)
