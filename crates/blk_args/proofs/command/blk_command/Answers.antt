use Rattle.std.proofs.Common.{◌≡◌, codes, rules}
use Rattle.clap.specs.Words.{app_of, new_app}
use Rattle.blk_args.specs.CommandLine.{topmost}
use Rattle.blk_args.proofs.Lines.{blk_made}
use Rattle.blk_args.proofs.command.blk_command.Goals as goal

pub returns : goal.returns
returns c =
    let base : app_of c.subcommand_required-blk.result ≡ topmost (new_app (codes "blk")) = search rules in
    (c.args.names, c.requires.names, blk_made c.args.names _ _ _ _ _ base c.run_commands.ensures c.other_commands.ensures c.in_ok-runs.ensures c.in_ok-all.ensures)
