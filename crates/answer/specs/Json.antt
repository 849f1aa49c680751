-- An answer as a JSON value.
use Rattle.std.specs.Prelude.{ℕ, List, [], ◌∷◌, map, codes}
use Rattle.std.specs.List.{flat_map}
use Rattle.json.specs.Json as json
use Rattle.answer.specs.declared.names.TheConstants as names
use Rattle.answer.specs.declared.value.Value.{Value}
use Rattle.answer.specs.declared.value.Value.TheVariants.{Count, Signed, Text, Nothing, Remark, Window, Time, Share, Settings}
use Rattle.answer.specs.declared.value.Set.{Set}
use Rattle.answer.specs.declared.value.Set.TheVariants.{Number, Switch, Word}
use Rattle.answer.specs.declared.value.Setting.{Setting}
use Rattle.answer.specs.declared.cells.Column.{Column}
use Rattle.answer.specs.declared.cells.Cell.{Cell}
use Rattle.answer.specs.declared.answer.Part.{Part}
use Rattle.answer.specs.declared.answer.Part.TheVariants.{Member, Line, Rows, Object, Group}
use Rattle.answer.specs.declared.answer.Entry.{Entry}
use Rattle.answer.specs.Parts.{Sentence, Table, Grouped, row_cells}
use Rattle.answer.specs.Values.{count, signed_count, array_of, object_of, value_line}

-- the first round of a window and the one in which it is due
abbrev pub window_value : ℕ → ℕ → json.Json
window_value from due = object_of ((names.FROM.now, count from) ∷ (names.DUE.now, count due) ∷ [])

-- settings by their names
abbrev pub set_value : Set → json.Json
set_value (Number n) = count n
set_value (Switch is_on) = json.boolean is_on
set_value (Word w) = json.string w

abbrev pub setting_told : Setting → List ℕ × json.Json
setting_told s = (s.name, set_value s.set)

abbrev pub json_value : Value → json.Json
json_value (Count n) = count n
json_value (Signed z) = signed_count z
json_value (Text w) = json.string w
json_value (Nothing w) = json.null
json_value (Remark w) = json.string w
json_value (Window from due) = window_value from due
json_value (Time n) = count n
json_value (Share n) = count n
json_value (Settings ss) = object_of (map setting_told ss)

abbrev pub cell_member : Cell → List ℕ × json.Json
cell_member c = (c.column.name, json_value c.value)

abbrev pub row_object : List Column → List Value → json.Json
row_object columns values = object_of (map cell_member (row_cells columns values))

abbrev pub entry_member : List Column → Entry → List ℕ × json.Json
entry_member columns e = (e.name, row_object columns e.row)

-- the members of a part
abbrev pub part_members : Part → List (List ℕ × json.Json)
part_members (Member name value) = (name, json_value value) ∷ []
part_members (Line s) = map cell_member s.cells
part_members (Object name s) = (name, object_of (map cell_member s.cells)) ∷ []
part_members (Group g) = (g.name, object_of (map (entry_member g.columns) g.entries)) ∷ []
part_members (Rows t) = (t.name, array_of (map (row_object t.columns) t.rows)) ∷ []

-- an object of the members of all parts, in their order
abbrev pub object_told : List Part → json.Json
object_told parts = object_of (flat_map part_members parts)

abbrev pub json_of : List Part → List ℕ
json_of parts = value_line (object_told parts)
