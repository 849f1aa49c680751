use Rattle.std.proofs.Common.{map}
use Rattle.std.proofs.lemmas.List.{append_assoc}
use Rattle.answer.specs.Parts.{row_cells}
use Rattle.answer.specs.Json.{cell_member}
use Rattle.answer.proofs.Tokens.{cells_written, members_written}
use Rattle.answer.proofs.as_json.write_row.Goals as goal

pub returns : goal.returns
returns c =
    let cells = row_cells c.args.columns.now c.args.row.now in
    rw (c.in_ok-end_object.ensures, c.in_ok-write_row_cells.ensures, c.in_ok-begin_object.ensures, c.values.ensures) (simp (members_written (map cell_member cells), cells_written cells, append_assoc))
