use Rattle.std.proofs.Common.{◌∙◌, sym}
use Rattle.blk_trace.proofs.Served.{in_command}
use Rattle.blk_trace.proofs.trace.reading.command_in.Goals as goal

pub returns-then-was_requeued : goal.returns-then-was_requeued
returns-then-was_requeued g c = sym (in_command c.args.trace.now.setup c.args.trace.now.events c.args.issue.now _ (sym c.was_requeued.ensures ∙ c.if-was_requeued.true))

pub unreachable-requires : goal.unreachable-requires
unreachable-requires g c = c.in_default.ensures.none (c.in_default.ensures.issued c.requires)
