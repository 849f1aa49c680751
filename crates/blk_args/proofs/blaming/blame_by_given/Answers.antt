use Rattle.std.proofs.Common.{Some}
use Rattle.clap.specs.Words.{found_of}
use Rattle.blk_args.specs.declared.blaming.BlameBy.TheVariants as blame_by
use Rattle.blk_args.specs.Options.{blame_by_option}
use Rattle.blk_args.specs.Asked.{blame_by_named}
use Rattle.blk_args.proofs.Lines.{read_by, unread_by}
use Rattle.blk_args.proofs.blaming.blame_by_given.Goals as goal

pub returns-in-Some : goal.returns-in-Some
returns-in-Some c = read_by (found_of c.args.options.now) blame_by_option.name c.in-Some.text.now blame_by_named (Some blame_by.Process) c.blame_by_named.result c.in-Some.ensures c.blame_by_named.ensures

pub returns-in-None : goal.returns-in-None
returns-in-None c = unread_by (found_of c.args.options.now) blame_by_option.name blame_by_named (Some blame_by.Process) c.in-None.ensures
