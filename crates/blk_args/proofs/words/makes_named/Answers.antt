use Rattle.std.proofs.Common.{◌∙◌}
use Rattle.std.specs.Str.{bytes_eq}
use Rattle.blk_args.specs.CommandLine.{run_table, other_table}
use Rattle.blk_args.proofs.Lines.{named_in}
use Rattle.blk_args.proofs.words.makes_named.Goals as goal

pub returns : goal.returns
returns c =
    c.first_of.ensures ∙ named_in (λ s. s.makes) (λ s. bytes_eq c.args.name.now s.name) run_table other_table c.makes_of-first.result c.makes_of-second.result
    (rw c.run_commands.ensures at c.makes_of-first.ensures) (rw c.other_commands.ensures at c.makes_of-second.ensures)
