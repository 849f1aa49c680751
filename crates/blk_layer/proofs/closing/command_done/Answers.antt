use Rattle.blk_layer.proofs.closing.command_done.Goals as goal

pub unreachable-requires : goal.unreachable-requires
unreachable-requires g c = c.in_default.ensures.none (c.in_default.ensures.issued c.requires)
