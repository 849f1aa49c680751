-- What the parts of an answer are.
use Rattle.std.specs.Prelude.{ℕ, ℤ, Bool, List, [], ◌∷◌, Option, None, Some, map}
use Rattle.answer.specs.declared.names.TheConstants as names
use Rattle.answer.specs.declared.value.Value.{Value}
use Rattle.answer.specs.declared.value.Value.TheVariants.{Count, Signed, Nothing, Time, Window}
use Rattle.answer.specs.declared.cells.Cell.{Cell}
use Rattle.answer.specs.declared.answer.Entry.{Entry}
use Rattle.answer.specs.declared.cells.Column.{Column}
use Rattle.answer.specs.declared.cells.Layout.{Layout}
use Rattle.answer.specs.declared.cells.Layout.TheVariants as layout

-- members on one line, and what ends it
pub record Sentence : Type 0 where
  pub cells : List Cell
  pub end : List ℕ

-- rows under a name: what a cell of each column is of, whether a head line names the columns, and what the rows say
pub record Table : Type 0 where
  pub name : List ℕ
  pub columns : List Column
  pub head : Bool
  pub rows : List (List Value)

-- rows under a name each, all under one name, and the columns of a head line, where there is one
pub record Grouped : Type 0 where
  pub name : List ℕ
  pub head : List Column
  pub columns : List Column
  pub entries : List Entry

-- the cells of a row
abbrev pub row_cells : List Column → List Value → List Cell
row_cells [] values = []
row_cells (c ∷ cs) [] = []
row_cells (c ∷ cs) (v ∷ vs) = record { column = c; value = v } ∷ row_cells cs vs

-- values that may not be there
abbrev pub counted : Option ℕ → Value
counted None = Nothing names.NONE.now
counted (Some n) = Count n

abbrev pub signed : Option ℤ → Value
signed None = Nothing names.NONE.now
signed (Some z) = Signed z

abbrev pub clocked : Option ℕ → Value
clocked None = Nothing names.NONE.now
clocked (Some n) = Time n

abbrev pub windowed : Option (ℕ × ℕ) → Value
windowed None = Nothing names.NONE.now
windowed (Some w) = Window w.0 w.1

abbrev pub column : Layout → List ℕ → Column
column how name = record { layout = how; name = name }

abbrev pub cell : Layout → List ℕ → Value → Cell
cell how name value = record { column = column how name; value = value }

-- the columns of records: all but the first stand after a comma
abbrev pub record_columns : List (List ℕ) → List Column
record_columns [] = []
record_columns (n ∷ ns) = column layout.Plain n ∷ map (column layout.Comma) ns
