use Rattle.std.proofs.Common.{Some, false}
use Rattle.clap.specs.Words.{found_of}
use Rattle.blk_args.specs.Options.{for_option}
use Rattle.blk_args.specs.Asked.{writes_named}
use Rattle.blk_args.proofs.Lines.{read_by, unread_by}
use Rattle.blk_args.proofs.blaming.writes_given.Goals as goal

pub returns-in-Some : goal.returns-in-Some
returns-in-Some c = read_by (found_of c.args.options.now) for_option.name c.in-Some.text.now writes_named (Some false) c.writes_named.result c.in-Some.ensures c.writes_named.ensures

pub returns-in-None : goal.returns-in-None
returns-in-None c = unread_by (found_of c.args.options.now) for_option.name writes_named (Some false) c.in-None.ensures
