-- An answer in lines.
use Rattle.std.specs.Prelude.{ℕ, List, [], ◌∷◌, ◌++◌, ◌+◌, ◌-◌, ◌/◌, ◌%◌, Bool, true, false, length, decimal, codes}
use Rattle.std.specs.Fmt.{signed_decimal}
use Rattle.std.specs.List.{flat_map}
use Rattle.std.proofs.Math.ListN.{replicate}
use Rattle.answer.specs.declared.value.Value.{Value}
use Rattle.answer.specs.declared.value.Value.TheVariants.{Count, Signed, Text, Nothing, Remark, Window, Time, Share, Settings}
use Rattle.answer.specs.declared.value.Set.{Set}
use Rattle.answer.specs.declared.value.Set.TheVariants.{Number, Switch, Word}
use Rattle.answer.specs.declared.value.Setting.{Setting}
use Rattle.answer.specs.declared.cells.Layout.{Layout}
use Rattle.answer.specs.declared.cells.Layout.TheVariants as layout
use Rattle.answer.specs.declared.cells.Column.{Column}
use Rattle.answer.specs.declared.cells.Cell.{Cell}
use Rattle.answer.specs.declared.answer.Part.{Part}
use Rattle.answer.specs.declared.answer.Part.TheVariants.{Member, Line, Rows, Object, Group}
use Rattle.answer.specs.declared.answer.Entry.{Entry}
use Rattle.answer.specs.Parts.{Sentence, Table, Grouped, row_cells}

abbrev pub set_text : Set → List ℕ
set_text (Number n) = decimal n
set_text (Switch true) = codes "on"
set_text (Switch false) = codes "off"
set_text (Word w) = w

abbrev pub named_setting : Setting → List ℕ
named_setting s = (s.name ++ codes "=") ++ set_text s.set

-- settings in their order with a space between, or `-` where there are none
abbrev pub settings_line : List Setting → List ℕ
settings_line [] = codes "-"
settings_line (s ∷ ss) = named_setting s ++ flat_map (λ t. 32 ∷ named_setting t) ss

-- a number below 1,000 in three digits; a time of so many nanoseconds in milliseconds, and thousandths in hundredths
abbrev pub three_digits : ℕ → List ℕ
three_digits n = (48 + n / 100) ∷ (48 + n / 10 % 10) ∷ (48 + n % 10) ∷ []

abbrev pub time_words : ℕ → List ℕ
time_words n = (decimal (n / 1000000) ++ codes ".") ++ three_digits (n / 1000 % 1000)

abbrev pub share_words : ℕ → List ℕ
share_words n = (decimal (n / 10) ++ codes ".") ++ decimal (n % 10)

abbrev pub value_words : Value → List ℕ
value_words (Count n) = decimal n
value_words (Signed z) = signed_decimal z
value_words (Text w) = w
value_words (Nothing w) = w
value_words (Remark w) = (codes " (" ++ w) ++ codes ")"
value_words (Window from due) = (decimal from ++ 32 ∷ []) ++ decimal due
value_words (Time n) = time_words n
value_words (Share n) = share_words n
value_words (Settings ss) = settings_line ss

-- bytes at the left and at the right of a number of places; more of them are not cut
abbrev pub at_left : ℕ → List ℕ → List ℕ
at_left places bytes = bytes ++ replicate (places - length bytes) 32

abbrev pub at_right : ℕ → List ℕ → List ℕ
at_right places bytes = replicate (places - length bytes) 32 ++ bytes

-- what stands before a cell, and the cell itself in its places
abbrev pub lead_text : Layout → List ℕ → List ℕ
lead_text layout.Plain name = []
lead_text layout.Comma name = codes ","
lead_text layout.Space name = codes " "
lead_text layout.Name name = name ++ 32 ∷ []
lead_text layout.NextName name = (codes " " ++ name) ++ 32 ∷ []
lead_text (layout.OtherName other) name = other ++ 32 ∷ []
lead_text (layout.WordsName words) name = (words ++ name) ++ 32 ∷ []
lead_text (layout.Words words) name = words
lead_text (layout.Left places) name = []
lead_text (layout.Right places) name = []

abbrev pub in_places : Layout → List ℕ → List ℕ
in_places layout.Plain bytes = bytes
in_places layout.Comma bytes = bytes
in_places layout.Space bytes = bytes
in_places layout.Name bytes = bytes
in_places layout.NextName bytes = bytes
in_places (layout.OtherName other) bytes = bytes
in_places (layout.WordsName words) bytes = bytes
in_places (layout.Words words) bytes = bytes
in_places (layout.Left places) bytes = at_left places bytes
in_places (layout.Right places) bytes = at_right places bytes

abbrev pub in_layout : Layout → List ℕ → List ℕ → List ℕ
in_layout how name bytes = lead_text how name ++ in_places how bytes

abbrev pub cell_text : Cell → List ℕ
cell_text c = in_layout c.column.layout c.column.name (value_words c.value)

-- the head line of columns, where there is one
abbrev pub name_text : Column → List ℕ
name_text c = in_layout c.layout c.name c.name

abbrev pub column_heads : Bool → List Column → List ℕ
column_heads false columns = []
column_heads true columns = flat_map name_text columns ++ 10 ∷ []

abbrev pub row_text : List Column → List Value → List ℕ
row_text columns values = flat_map cell_text (row_cells columns values) ++ 10 ∷ []

-- a row behind two names, and the head line of such rows, where columns are named for one
abbrev pub entry_text : List ℕ → List Column → Entry → List ℕ
entry_text name columns e = ((name ++ 44 ∷ e.name) ++ flat_map cell_text (row_cells columns e.row)) ++ 10 ∷ []

abbrev pub group_head : List Column → List ℕ
group_head [] = []
group_head (c ∷ cs) = flat_map name_text (c ∷ cs) ++ 10 ∷ []

-- a member on a line of its own: its name, a space and what it says
abbrev pub member_text : List ℕ → Value → List ℕ
member_text name value = ((name ++ 32 ∷ []) ++ value_words value) ++ 10 ∷ []

abbrev pub part_text : Part → List ℕ
part_text (Member name value) = member_text name value
part_text (Line s) = flat_map cell_text s.cells ++ s.end
part_text (Object name s) = flat_map cell_text s.cells ++ s.end
part_text (Group g) = group_head g.head ++ flat_map (entry_text g.name g.columns) g.entries
part_text (Rows t) = column_heads t.head t.columns ++ flat_map (row_text t.columns) t.rows

-- the parts of an answer, one after the other
abbrev pub answer_lines : List Part → List ℕ
answer_lines parts = flat_map part_text parts
