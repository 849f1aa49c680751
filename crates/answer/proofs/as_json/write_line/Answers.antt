use Rattle.std.proofs.Common.{◌++◌, ◌∙◌, sym, ap}
use Rattle.std.specs.List.{flat_map}
use Rattle.answer.specs.Inside.Tokens.{cell_tokens}
use Rattle.answer.proofs.Tokens.{cells_written}
use Rattle.answer.proofs.as_json.write_line.Goals as goal

pub returns : goal.returns
returns c = c.in_ok-write_cells.ensures ∙ ap (λ cs. c.args.page.now ++ flat_map (λ x. cell_tokens x) cs) c.cells.ensures ∙ ap (λ ts. c.args.page.now ++ ts) (sym (cells_written c.args.line.now.cells))
