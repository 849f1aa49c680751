use Rattle.std.proofs.Common.{map}
use Rattle.std.proofs.lemmas.List.{append_assoc}
use Rattle.answer.specs.Json.{entry_member}
use Rattle.answer.proofs.Tokens.{members_written, entries_told}
use Rattle.answer.proofs.as_json.write_group.Goals as goal

pub returns : goal.returns
returns c =
    let g = c.args.group.now in
    rw (c.in_ok-end_object.ensures, c.in_ok-write_entries.ensures, c.in_ok-begin_object.ensures, c.in_ok-key.ensures, c.name.ensures, c.columns.ensures, c.entries.ensures)
    (simp (members_written (map (entry_member g.columns) g.entries), entries_told g.columns g.entries, append_assoc))
