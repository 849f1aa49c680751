use Rattle.std.proofs.Common.{inl, map, string_bytes}
use Rattle.blk_cli.proofs.Failed.{without_of}
use Rattle.blk_cli.proofs.answer.Goals as goal

pub returns-in-Ok-answer_of : goal.returns-in-Ok-answer_of
returns-in-Ok-answer_of g c = record {
  answers = (c.in-Ok.job, c.in-Ok.ensures.asked, c.in-Ok-answer_of.ensures.answer);
  without = tt;
  unread = λ ask. c.answer_of.ensures.unread (ask c.in-Ok.job c.in-Ok.ensures.asked);
  run = inl (c.in-Ok.job, c.in-Ok.ensures.asked, c.in-Ok-answer_of.ensures.run);
}

pub returns-in-Err : goal.returns-in-Err
returns-in-Err g c =
    let of = without_of (map string_bytes c.args.words.now) c.args.records.now.left c.args.records.now.bytes c.answer_of.new.records.failed in
    record {
      answers = tt;
      without = of c.in-Ok.job c.in-Err.none c.in-Ok.ensures.asked c.in-Err.ensures.none;
      unread = λ ask. c.answer_of.ensures.unread (ask c.in-Ok.job c.in-Ok.ensures.asked);
      run = inl (c.in-Ok.job, c.in-Ok.ensures.asked, c.in-Err.ensures.run);
    }
