use Rattle.blk_cli.proofs.importing.over_summary.Goals as goal

pub returns-in-Ok-summed-clause-answers : goal.returns-in-Ok-summed-clause-answers
returns-in-Ok-summed-clause-answers g c =
    let from = c.in-Ok.ensures.ok in
    record {
      bytes = from.bytes;
      given = from.given;
      records = from.records;
      printed = c.in-Ok.capture.printed;
      told = from.told;
      summed = c.in-Ok-summed.ensures.answers from.records from.streamed;
    }
