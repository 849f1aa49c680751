use Rattle.std.proofs.Common.{◌≡◌, map, string_bytes, true}
use Rattle.blk_cli.specs.Said.{Said, said_of}
use Rattle.blk_cli.proofs.Alone.{alone_by, good_by, put_not_one}
use Rattle.blk_cli.proofs.run.Goals as goal

pub returns-in-Ok-clause-kept : goal.returns-in-Ok-clause-kept
returns-in-Ok-clause-kept g c ask one =
    let s : Said = said_of c.in-Ok.answer in
    let is : s.good ≡ true = good_by (map string_bytes c.args.words.now) c.args.records.now.left c.args.records.now.bytes s ask c.in-Ok.ensures.answers in
    absurd (put_not_one s _ _ _ _ c.put_out.result is c.put_out.ensures.ends one)

pub returns-in-Ok-clause-quiet : goal.returns-in-Ok-clause-quiet
returns-in-Ok-clause-quiet g c ask zero =
    c.put_out.ensures.quiet (alone_by (map string_bytes c.args.words.now) c.args.records.now.left c.args.records.now.bytes (said_of c.in-Ok.answer) ask c.in-Ok.ensures.answers) zero
