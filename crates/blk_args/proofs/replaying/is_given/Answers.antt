use Rattle.std.proofs.Common.{Bool, true, false, refl}
use Rattle.clap.specs.Words.{Text, found_of}
use Rattle.blk_args.proofs.Lines.{read_by, unread_by}
use Rattle.blk_args.proofs.replaying.is_given.Goals as goal

abbrev always : Text → Bool
always t = true

pub returns-in-Some : goal.returns-in-Some
returns-in-Some c = read_by (found_of c.args.options.now) c.args.id.now _ always false true c.in-Some.ensures refl

pub returns-in-None : goal.returns-in-None
returns-in-None c = unread_by (found_of c.args.options.now) c.args.id.now always false c.in-None.ensures
