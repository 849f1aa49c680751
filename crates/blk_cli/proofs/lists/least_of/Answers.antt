use Rattle.blk_records.specs.Certificate.{claimed}
use Rattle.blk_records.proofs.ClaimLaws.{rows_spell}
use Rattle.blk_cli.proofs.lists.least_of.Goals as goal

pub returns-in-Ok-certificate_text-clause-text : goal.returns-in-Ok-certificate_text-clause-text
returns-in-Ok-certificate_text-clause-text c =
    let made = c.in-Ok.ensures in
    record {
      claim = claimed c.in-Ok.certificate;
      same_depth = made.depth;
      same_commands = made.commands;
      proved = made.proved;
      spelled = rows_spell (claimed c.in-Ok.certificate) made.in_range;
      is_text = c.in-Ok-certificate_text.ensures;
    }
