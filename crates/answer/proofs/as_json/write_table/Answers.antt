use Rattle.std.proofs.lemmas.List.{append_assoc}
use Rattle.answer.specs.Json.{row_object}
use Rattle.answer.proofs.Tokens.{items_written}
use Rattle.answer.proofs.as_json.write_table.Goals as goal

pub returns : goal.returns
returns c =
    let table = c.args.rows.now in
    rw (c.in_ok-end_array.ensures, c.in_ok-write_rows.ensures, c.in_ok-begin_array.ensures, c.in_ok-key.ensures, c.name.ensures, c.columns.ensures, c.rows.ensures)
    (simp (items_written (row_object table.columns) table.rows, append_assoc))
