use Rattle.std.proofs.Common.{take}
use Rattle.blk_records.specs.Inside.Schedule.{AreIds}
use Rattle.blk_records.proofs.schedule.ids_of.Given as goal

-- the ids of the commands so far
abbrev pub invariant-loop-command : goal.invariant-loop-command
invariant-loop-command l = AreIds (take l.command-index l.served) l.ids
