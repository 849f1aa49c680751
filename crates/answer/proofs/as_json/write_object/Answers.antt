use Rattle.std.proofs.Common.{map}
use Rattle.std.proofs.lemmas.List.{append_assoc}
use Rattle.answer.specs.Json.{cell_member}
use Rattle.answer.proofs.Tokens.{members_written}
use Rattle.answer.proofs.as_json.write_object.Goals as goal

pub returns : goal.returns
returns c = rw (c.in_ok-end_object.ensures, c.in_ok-write_line.ensures, c.in_ok-begin_object.ensures, c.in_ok-key.ensures, c.text.ensures) (simp (members_written (map cell_member c.args.line.now.cells), append_assoc))
