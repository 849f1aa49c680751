use Rattle.blk_records.specs.OnTime.{on_time_claimed}
use Rattle.blk_records.proofs.OnTimeLaws.{rows_spell}
use Rattle.blk_cli.proofs.lists.most_of.Goals as goal

pub returns-in-Ok-on_time_text-clause-text : goal.returns-in-Ok-on_time_text-clause-text
returns-in-Ok-on_time_text-clause-text c =
    let made = c.in-Ok.ensures in
    record {
      claim = on_time_claimed c.in-Ok.certificate;
      same_depth = made.depth;
      same_commands = made.commands;
      proved = made.proved;
      spelled = rows_spell (on_time_claimed c.in-Ok.certificate) made.in_range;
      is_text = c.in-Ok-on_time_text.ensures;
    }
