-- For private clauses: the tokens of members.
use Rattle.std.specs.Prelude.{ℕ, List, [], ◌∷◌, ◌++◌, map}
use Rattle.json.specs.Json as json
use Rattle.json.specs.Token as token
use Rattle.json.specs.Tree.{json_tokens}
use Rattle.answer.specs.declared.cells.Cell.{Cell}
use Rattle.answer.specs.declared.value.Setting.{Setting}
use Rattle.answer.specs.declared.cells.Column.{Column}
use Rattle.answer.specs.declared.answer.Entry.{Entry}
use Rattle.answer.specs.Parts.{Table, Grouped}
use Rattle.answer.specs.Values.{array_of, object_of}
use Rattle.answer.specs.Json.{json_value, set_value, row_object, entry_member}

-- of a member
abbrev pub member_tokens : List ℕ → json.Json → List token.Token
member_tokens name j = token.key name ∷ json_tokens j

-- of some members, one after the other, without the closing bracket
abbrev pub tokens_of : List (List ℕ × json.Json) → List token.Token
tokens_of [] = []
tokens_of (m ∷ ms) = member_tokens m.0 m.1 ++ tokens_of ms

-- of a cell
abbrev pub cell_tokens : Cell → List token.Token
cell_tokens c = member_tokens c.column.name (json_value c.value)

-- of a setting, and of a row under its name
abbrev pub set_tokens : Setting → List token.Token
set_tokens s = member_tokens s.name (set_value s.set)

abbrev pub entry_tokens : List Column → Entry → List token.Token
entry_tokens columns e = member_tokens e.name (row_object columns e.row)

-- of rows, and of rows under their names
abbrev pub table_tokens : Table → List token.Token
table_tokens t = member_tokens t.name (array_of (map (row_object t.columns) t.rows))

abbrev pub group_tokens : Grouped → List token.Token
group_tokens g = member_tokens g.name (object_of (map (entry_member g.columns) g.entries))
