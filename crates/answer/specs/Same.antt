-- The lines and the JSON of an answer tell the same: the same members and rows, under the same names, in the same order.
use Rattle.std.specs.Prelude.{◌≡◌, ℕ, List, [], ◌∷◌, ◌++◌, map}
use Rattle.std.specs.List.{flat_map}
use Rattle.json.specs.Json as json
use Rattle.answer.specs.declared.value.Value.{Value}
use Rattle.answer.specs.declared.cells.Layout.TheVariants as layout
use Rattle.answer.specs.declared.cells.Cell.{Cell}
use Rattle.answer.specs.declared.answer.Part.{Part}
use Rattle.answer.specs.declared.answer.Part.TheVariants.{Member, Line, Rows, Object, Group}
use Rattle.answer.specs.Parts.{Sentence, Table, Grouped, row_cells, column}
use Rattle.answer.specs.Lines.{cell_text, column_heads, group_head, answer_lines}
use Rattle.answer.specs.Json.{json_value, object_told}

-- what lines are made of: words that say nothing by themselves, and cells
pub data Piece : Type 0 where
  words : List ℕ → Piece
  told : Cell → Piece

abbrev pub piece_text : Piece → List ℕ
piece_text (words text) = text
piece_text (told c) = cell_text c

abbrev pub row_pieces : List Cell → List Piece
row_pieces cells = map told cells ++ words (10 ∷ []) ∷ []

abbrev pub pieces_of : Part → List Piece
pieces_of (Member name value) = row_pieces (record { column = column layout.Name name; value = value } ∷ [])
pieces_of (Line s) = map told s.cells ++ words s.end ∷ []
pieces_of (Object name s) = map told s.cells ++ words s.end ∷ []
pieces_of (Group g) = words (group_head g.head) ∷ flat_map (λ e. words (g.name ++ 44 ∷ e.name) ∷ row_pieces (row_cells g.columns e.row)) g.entries
pieces_of (Rows t) = words (column_heads t.head t.columns) ∷ flat_map (λ r. row_pieces (row_cells t.columns r)) t.rows

-- the cells of pieces
abbrev pub told_in : List Piece → List Cell
told_in [] = []
told_in (words text ∷ ps) = told_in ps
told_in (told c ∷ ps) = c ∷ told_in ps

-- the texts, numbers, switches and nulls of a JSON value in their order, each under the name that it stands under
abbrev mutual
  pub leaves : List ℕ → json.Json → List (List ℕ × json.Json)
  leaves name json.null = (name, json.null) ∷ []
  leaves name (json.boolean b) = (name, json.boolean b) ∷ []
  leaves name (json.number s) = (name, json.number s) ∷ []
  leaves name (json.string s) = (name, json.string s) ∷ []
  leaves name (json.array js) = item_leaves name js
  leaves name (json.object ms) = member_leaves ms

  pub item_leaves : List ℕ → json.Items → List (List ℕ × json.Json)
  item_leaves name json.no_items = []
  item_leaves name (json.item j js) = leaves name j ++ item_leaves name js

  pub member_leaves : json.Members → List (List ℕ × json.Json)
  member_leaves json.no_members = []
  member_leaves (json.member k j ms) = leaves k j ++ member_leaves ms

abbrev pub cell_leaves : Cell → List (List ℕ × json.Json)
cell_leaves c = leaves c.column.name (json_value c.value)

-- the lines are these pieces, and what stands in the JSON is what their cells say, no more and no less
pub record TellsSame (parts : List Part) : Type 0 where
  pub are_lines : answer_lines parts ≡ flat_map piece_text (flat_map pieces_of parts)
  pub are_members : leaves [] (object_told parts) ≡ flat_map cell_leaves (told_in (flat_map pieces_of parts))
