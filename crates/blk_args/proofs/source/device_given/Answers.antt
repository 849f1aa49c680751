use Rattle.std.proofs.Common.{None}
use Rattle.std.specs.Prelude.{Ok}
use Rattle.clap.specs.Words.{found_of}
use Rattle.blk_args.specs.Options.{device_option}
use Rattle.blk_args.specs.Asked.{device_by}
use Rattle.blk_args.proofs.Lines.{read_by, unread_by}
use Rattle.blk_args.proofs.source.device_given.Goals as goal

pub returns-in-Some : goal.returns-in-Some
returns-in-Some c = read_by (found_of c.args.options.now) device_option.name c.in-Some.text.now device_by (Ok None) c.device_by.result c.in-Some.ensures c.device_by.ensures

pub returns-in-None : goal.returns-in-None
returns-in-None c = unread_by (found_of c.args.options.now) device_option.name device_by (Ok None) c.in-None.ensures
