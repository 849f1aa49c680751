-- The lines and the JSON of an answer tell the same.
use Rattle.std.proofs.Common.{◌≡◌, ◌++◌, ◌∷◌, [], ℕ, List, map, refl, sym, ap, ◌∙◌}
use Rattle.std.specs.List.{flat_map}
use Rattle.std.proofs.lemmas.List.{append_assoc, append-nil}
use Rattle.std.proofs.lemmas.Grind.{flat_map-append}
use Rattle.json.specs.Json as json
use Rattle.answer.specs.declared.value.Value.{Value}
use Rattle.answer.specs.declared.cells.Column.{Column}
use Rattle.answer.specs.declared.cells.Cell.{Cell}
use Rattle.answer.specs.declared.answer.Part.{Part}
use Rattle.answer.specs.declared.answer.Part.TheVariants.{Member, Line, Rows, Object, Group}
use Rattle.answer.specs.declared.answer.Entry.{Entry}
use Rattle.answer.specs.Parts.{row_cells}
use Rattle.answer.specs.Values.{json_items, members_of, array_of}
use Rattle.answer.specs.Lines.{cell_text, column_heads, group_head, row_text, entry_text, part_text, answer_lines}
use Rattle.answer.specs.Json.{cell_member, row_object, entry_member, part_members}
use Rattle.answer.specs.Same.{Piece, words, told, piece_text, row_pieces, pieces_of, told_in, leaves, item_leaves, member_leaves, cell_leaves, TellsSame}

-- ---- the lines

cells_in_lines : (cs : List Cell) → flat_map piece_text (map told cs) ≡ flat_map cell_text cs
cells_in_lines [] = refl
cells_in_lines (c ∷ cs) = ap (λ text. cell_text c ++ text) (cells_in_lines cs)

ended : (cs : List Cell) (end : List ℕ) → flat_map piece_text (map told cs ++ words end ∷ []) ≡ flat_map cell_text cs ++ end
ended cs end = rw (flat_map-append piece_text (map told cs) (words end ∷ []), cells_in_lines cs, append-nil end)

rows_in_lines : (columns : List Column) (rows : List (List Value))
    → flat_map piece_text (flat_map (λ r. row_pieces (row_cells columns r)) rows) ≡ flat_map (row_text columns) rows
rows_in_lines columns [] = refl
rows_in_lines columns (r ∷ rs) =
    flat_map-append piece_text (row_pieces (row_cells columns r)) _ ∙ ap (λ text. text ++ flat_map piece_text (flat_map (λ s. row_pieces (row_cells columns s)) rs)) (ended (row_cells columns r) (10 ∷ [])) ∙ ap (λ text. row_text columns r ++ text) (rows_in_lines columns rs)

entries_in_lines : (name : List ℕ) (columns : List Column) (es : List Entry)
    → flat_map piece_text (flat_map (λ e. words (name ++ 44 ∷ e.name) ∷ row_pieces (row_cells columns e.row)) es) ≡ flat_map (entry_text name columns) es
entries_in_lines name columns [] = refl
entries_in_lines name columns (e ∷ es) =
    let more = flat_map piece_text (flat_map (λ d. words (name ++ 44 ∷ d.name) ∷ row_pieces (row_cells columns d.row)) es) in
    flat_map-append piece_text (words (name ++ 44 ∷ e.name) ∷ row_pieces (row_cells columns e.row)) _
    ∙ ap (λ text. ((name ++ 44 ∷ e.name) ++ text) ++ more) (ended (row_cells columns e.row) (10 ∷ []))
    ∙ ap (λ text. text ++ more) (sym (append_assoc (name ++ 44 ∷ e.name) (flat_map cell_text (row_cells columns e.row)) (10 ∷ [])))
    ∙ ap (λ text. entry_text name columns e ++ text) (entries_in_lines name columns es)

part_in_lines : (p : Part) → flat_map piece_text (pieces_of p) ≡ part_text p
part_in_lines (Member name value) = refl
part_in_lines (Line s) = ended s.cells s.end
part_in_lines (Object name s) = ended s.cells s.end
part_in_lines (Group g) = ap (λ text. group_head g.head ++ text) (entries_in_lines g.name g.columns g.entries)
part_in_lines (Rows t) = ap (λ text. column_heads t.head t.columns ++ text) (rows_in_lines t.columns t.rows)

parts_in_lines : (ps : List Part) → flat_map piece_text (flat_map pieces_of ps) ≡ answer_lines ps
parts_in_lines [] = refl
parts_in_lines (p ∷ ps) =
    flat_map-append piece_text (pieces_of p) (flat_map pieces_of ps) ∙ ap (λ text. text ++ flat_map piece_text (flat_map pieces_of ps)) (part_in_lines p) ∙ ap (λ text. part_text p ++ text) (parts_in_lines ps)

-- ---- the cells of the pieces

told_append : (ps qs : List Piece) → told_in (ps ++ qs) ≡ told_in ps ++ told_in qs
told_append [] qs = refl
told_append (words text ∷ ps) qs = told_append ps qs
told_append (told c ∷ ps) qs = ap (λ cs. c ∷ cs) (told_append ps qs)

told_cells : (cs : List Cell) → told_in (map told cs) ≡ cs
told_cells [] = refl
told_cells (c ∷ cs) = ap (λ ds. c ∷ ds) (told_cells cs)

told_line : (cs : List Cell) (end : List ℕ) → told_in (map told cs ++ words end ∷ []) ≡ cs
told_line cs end = told_append (map told cs) (words end ∷ []) ∙ append-nil (told_in (map told cs)) ∙ told_cells cs

-- ---- the JSON

leaves_append : (ms ns : List (List ℕ × json.Json)) → member_leaves (members_of (ms ++ ns)) ≡ member_leaves (members_of ms) ++ member_leaves (members_of ns)
leaves_append [] ns = refl
leaves_append (m ∷ ms) ns = ap (λ ls. leaves m.0 m.1 ++ ls) (leaves_append ms ns) ∙ sym (append_assoc (leaves m.0 m.1) _ _)

cells_in_json : (cs : List Cell) → member_leaves (members_of (map cell_member cs)) ≡ flat_map cell_leaves cs
cells_in_json [] = refl
cells_in_json (c ∷ cs) = ap (λ ls. cell_leaves c ++ ls) (cells_in_json cs)

rows_in_json : (name : List ℕ) (columns : List Column) (rows : List (List Value))
    → item_leaves name (json_items (map (row_object columns) rows)) ≡ flat_map cell_leaves (told_in (flat_map (λ r. row_pieces (row_cells columns r)) rows))
unfolding json_items
rows_in_json name columns [] = refl
rows_in_json name columns (r ∷ rs) =
    let cells = row_cells columns r in
    let rest = flat_map (λ s. row_pieces (row_cells columns s)) rs in
    ap (λ ls. ls ++ item_leaves name (json_items (map (row_object columns) rs))) (cells_in_json cells) ∙ ap (λ ls. flat_map cell_leaves cells ++ ls) (rows_in_json name columns rs)
    ∙ sym (ap (λ cs. flat_map cell_leaves cs) (told_append (row_pieces cells) rest ∙ ap (λ cs. cs ++ told_in rest) (told_line cells (10 ∷ []))) ∙ flat_map-append cell_leaves cells (told_in rest))

entries_in_json : (name : List ℕ) (columns : List Column) (es : List Entry)
    → member_leaves (members_of (map (entry_member columns) es)) ≡ flat_map cell_leaves (told_in (flat_map (λ e. words (name ++ 44 ∷ e.name) ∷ row_pieces (row_cells columns e.row)) es))
entries_in_json name columns [] = refl
entries_in_json name columns (e ∷ es) =
    let cells = row_cells columns e.row in
    let rest = flat_map (λ d. words (name ++ 44 ∷ d.name) ∷ row_pieces (row_cells columns d.row)) es in
    ap (λ ls. ls ++ member_leaves (members_of (map (entry_member columns) es))) (cells_in_json cells) ∙ ap (λ ls. flat_map cell_leaves cells ++ ls) (entries_in_json name columns es)
    ∙ sym (ap (λ cs. flat_map cell_leaves cs) (told_append (row_pieces cells) rest ∙ ap (λ cs. cs ++ told_in rest) (told_line cells (10 ∷ []))) ∙ flat_map-append cell_leaves cells (told_in rest))

part_in_json : (p : Part) → member_leaves (members_of (part_members p)) ≡ flat_map cell_leaves (told_in (pieces_of p))
part_in_json (Member name value) = refl
part_in_json (Line s) = cells_in_json s.cells ∙ sym (ap (λ cs. flat_map cell_leaves cs) (told_line s.cells s.end))
part_in_json (Object name s) = append-nil _ ∙ cells_in_json s.cells ∙ sym (ap (λ cs. flat_map cell_leaves cs) (told_line s.cells s.end))
part_in_json (Group g) = append-nil _ ∙ entries_in_json g.name g.columns g.entries
part_in_json (Rows t) = append-nil _ ∙ rows_in_json t.name t.columns t.rows

parts_in_json : (ps : List Part) → member_leaves (members_of (flat_map part_members ps)) ≡ flat_map cell_leaves (told_in (flat_map pieces_of ps))
parts_in_json [] = refl
parts_in_json (p ∷ ps) =
    leaves_append (part_members p) (flat_map part_members ps) ∙ ap (λ ls. ls ++ member_leaves (members_of (flat_map part_members ps))) (part_in_json p)
    ∙ ap (λ ls. flat_map cell_leaves (told_in (pieces_of p)) ++ ls) (parts_in_json ps)
    ∙ sym (ap (λ cs. flat_map cell_leaves cs) (told_append (pieces_of p) (flat_map pieces_of ps)) ∙ flat_map-append cell_leaves (told_in (pieces_of p)) (told_in (flat_map pieces_of ps)))

pub tells_same : (parts : List Part) → TellsSame parts
tells_same parts = record { are_lines = sym (parts_in_lines parts); are_members = parts_in_json parts }
