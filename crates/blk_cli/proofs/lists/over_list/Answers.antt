use Rattle.std.proofs.Common.{inl, ℕ, List}
use Rattle.edd_commands.specs.declared.Command.{Command}
use Rattle.blk_records.specs.Commands.{CommandsFault}
use Rattle.blk_cli.specs.Certificates.{SpellsList, IsSolved, IsOracleFailure}
use Rattle.blk_cli.proofs.OfRead.{told, refused}
use Rattle.blk_cli.proofs.lists.over_list.Goals as goal

pub returns-in-Err-clause-fails : goal.returns-in-Err-clause-fails
returns-in-Err-clause-fails g c = inl c.in-Err.ensures.err

pub returns-clause-text : goal.returns-clause-text
returns-clause-text g c =
    let list : ℕ × List Command = (c.in-Ok.list.0, c.in-Ok.list.1.items) in
    told SpellsList (IsSolved c.args.solving) c.args.records.now.left list (λ text. text.items) _ c.in-Ok.ensures.ok c.solved.ensures.text

pub returns-clause-fails : goal.returns-clause-fails
returns-clause-fails g c =
    let list : ℕ × List Command = (c.in-Ok.list.0, c.in-Ok.list.1.items) in
    refused SpellsList CommandsFault IsOracleFailure c.args.records.now.left _ list _ c.in-Ok.ensures.ok c.solved.ensures.unsolved
