use Rattle.std.proofs.Common.{map, arith}
use Rattle.std.proofs.lemmas.List.{length-map}
use Rattle.blk_capture.specs.Requests.{times_of}
use Rattle.blk_cli.proofs.Counted.{are_commands}
use Rattle.blk_cli.proofs.blaming.certificate_of.Goals as goal

pub most_of-requires : goal.most_of-requires
most_of-requires c = are_commands (map times_of c.args.requests.now) _ _ c.in_ok-counted.ensures.counted (omega (arith, c.requires.few, length-map c.args.requests.now times_of)) c.in_ok-counted.ensures.solvable

pub returns-in-Ok : goal.returns-in-Ok
returns-in-Ok c = record {
  commands = c.in_ok-counted.counted.commands.items;
  rounds = c.in_ok-counted.counted.rounds.items;
  counted = c.in_ok-counted.ensures.counted;
  certificate = c.in-Ok.ensures.text;
}
