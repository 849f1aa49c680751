use Rattle.std.proofs.Common.{◌≡◌, ◌∙◌, Some, ap, sym}
use Rattle.std.specs.Prelude.{find, option_and_then}
use Rattle.std.specs.Str.{bytes_eq}
use Rattle.clap.specs.Words.{found_of, rows_of, subcommand_rows_of}
use Rattle.blk_args.specs.Asked.{job_of}
use Rattle.blk_args.specs.CommandLine.{command_table}
use Rattle.blk_args.proofs.Lines.{subcommand_read, made, not_made}
use Rattle.blk_args.proofs.words.job_of.Goals as goal

pub returns-in_err-makes : goal.returns-in_err-makes
returns-in_err-makes c =
    let name = c.in_ok-name.name.now in
    let rows = rows_of (found_of c.in_ok-name.options.now) in
    let e = c.in_ok-name.ensures in
    let read : subcommand_rows_of c.args.matches.now ≡ Some (name, rows) = subcommand_read c.args.matches.now _ _ e.name e.rows in
    c.from_residual-in_err-makes.ensures ∙ not_made (find (λ s. bytes_eq name s.name) command_table) rows c.in_err-makes.ensures ∙ sym (ap (option_and_then job_of) read)

pub returns : goal.returns
returns c =
    let name = c.in_ok-name.name.now in
    let rows = rows_of (found_of c.in_ok-name.options.now) in
    let e = c.in_ok-name.ensures in
    let read : subcommand_rows_of c.args.matches.now ≡ Some (name, rows) = subcommand_read c.args.matches.now _ _ e.name e.rows in
    c.job_made.ensures ∙ made (find (λ s. bytes_eq name s.name) command_table) c.in_ok-makes.makes rows c.in_ok-makes.ensures ∙ sym (ap (option_and_then job_of) read)
