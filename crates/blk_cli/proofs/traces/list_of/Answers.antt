use Rattle.std.proofs.Common.{rules, List, refl}
use Rattle.edd_commands.specs.declared.Command.{Command}
use Rattle.blk_trace.specs.Meaning.{commands_of, rounds_of}
use Rattle.blk_trace.specs.Setups.{Setup, IsSetup}
use Rattle.blk_records.proofs.CommandLaws.{rows_spell}
use Rattle.blk_cli.proofs.Claims.{commands_in, ids_fit}
use Rattle.blk_cli.proofs.traces.list_of.Goals as goal

pub returns-in-Ok-commands_text-clause-text : goal.returns-in-Ok-commands_text-clause-text
returns-in-Ok-commands_text-clause-text c =
    let setup : Setup = c.args.trace.now.setup in
    let own : List Command = commands_of setup c.args.trace.now.events in
    let is : IsSetup setup = search rules in
    record {
      one_depth = search rules;
      spelled = rows_spell setup.depth own (commands_in setup setup.depth own own (rounds_of c.args.trace.now.events) refl is c.in-Ok.ensures.bounded refl (ids_fit setup c.args.trace.now.events c.requires.events));
      is_text = search rules;
    }
