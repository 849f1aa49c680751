use Rattle.clap.specs.Words.{found_of}
use Rattle.blk_args.proofs.Lines.{flagged_by, not_flagged_by}
use Rattle.blk_args.proofs.words.is_flagged.Goals as goal

pub returns-in-Some : goal.returns-in-Some
returns-in-Some c = flagged_by (found_of c.args.options.now) c.args.id.now c.in-Some.text.now c.eq.result c.in-Some.ensures c.eq.ensures

pub returns-in-None : goal.returns-in-None
returns-in-None c = not_flagged_by (found_of c.args.options.now) c.args.id.now c.in-None.ensures
