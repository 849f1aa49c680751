use Rattle.std.proofs.Common.{arith, get_or}
use Rattle.blk_records.specs.Commands.{command_list}
use Rattle.blk_records.proofs.CommandLaws.{list_read, title_halts, title_told, list_halts}
use Rattle.blk_records.proofs.Reading.{halts_err, halts_reached}
use Rattle.blk_records.proofs.commands.read_commands.Goals as goal

pub returns-in-Ok-read_records-clause-ok : goal.returns-in-Ok-read_records-clause-ok
returns-in-Ok-read_records-clause-ok g c =
    list_read c.args.records.now.left c.read_title.new.records.left c.in-Ok.title.0 (get_or c.in-Ok.title.1 2 0) c.in-Ok-read_records.commands.items (title_told _ _ c.in-Ok.title c.in-Ok.ensures.ok).0 (title_told _ _ c.in-Ok.title c.in-Ok.ensures.ok).1.0 c.in-Ok-read_records.ensures.ok

pub returns-in-Ok-read_records-clause-in_range : goal.returns-in-Ok-read_records-clause-in_range
returns-in-Ok-read_records-clause-in_range g c = ((title_told _ _ c.in-Ok.title c.in-Ok.ensures.ok).1.1.0, (title_told _ _ c.in-Ok.title c.in-Ok.ensures.ok).1.1.1, c.in-Ok-read_records.ensures.fit.1, c.in-Ok-read_records.ensures.fit.0)

pub returns-in-Err-clause-err : goal.returns-in-Err-clause-err
returns-in-Err-clause-err g c = halts_err _ command_list _ _ _ (title_halts _ _ _ _ (omega (arith, c.requires, c.read_title.ensures.at, c.in-Err.ensures.last)) c.in-Err.ensures.err)

pub returns-in-Err-clause-reached : goal.returns-in-Err-clause-reached
returns-in-Err-clause-reached g c = halts_reached _ command_list _ _ _ (title_halts _ _ _ _ (omega (arith, c.requires, c.read_title.ensures.at, c.in-Err.ensures.last)) c.in-Err.ensures.err)

pub returns-in-Err-read_records-clause-err : goal.returns-in-Err-read_records-clause-err
returns-in-Err-read_records-clause-err g c = halts_err _ command_list _ _ _ (list_halts _ _ _ (c.in-Ok.title.0, get_or c.in-Ok.title.1 2 0) _ _ _ (omega arith) (title_told _ _ c.in-Ok.title c.in-Ok.ensures.ok).0 c.in-Err-read_records.ensures.err)

pub returns-in-Err-read_records-clause-reached : goal.returns-in-Err-read_records-clause-reached
returns-in-Err-read_records-clause-reached g c = halts_reached _ command_list _ _ _ (list_halts _ _ _ (c.in-Ok.title.0, get_or c.in-Ok.title.1 2 0) _ _ _ (omega arith) (title_told _ _ c.in-Ok.title c.in-Ok.ensures.ok).0 c.in-Err-read_records.ensures.err)
