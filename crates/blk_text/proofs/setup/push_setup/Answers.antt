use Rattle.blk_text.proofs.setup.push_setup.Goals as goal

pub returns-clause-text : goal.returns-clause-text
returns-clause-text c = rw (c.read_expire.ensures.value, c.write_expire.ensures.value, c.max_sectors.ensures.value, c.max_segments.ensures.value, c.limits-limits.ensures) at c.push.ensures.text
