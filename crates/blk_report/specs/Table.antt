-- A table of reports, as an answer.
use Rattle.std.specs.Prelude.{ℕ, ◌≡◌, ◌∷◌, [], List, Option, Some, None, true, map, zip, slice_index_or}
use Rattle.std.specs.Borrow.{Bor}
use Rattle.answer.specs.declared.names.TheConstants as names
use Rattle.answer.specs.declared.value.Value.{Value}
use Rattle.answer.specs.declared.value.Value.TheVariants.{Count, Text, Nothing}
use Rattle.answer.specs.declared.cells.Column.{Column}
use Rattle.answer.specs.declared.cells.Layout.TheVariants as layout
use Rattle.answer.specs.declared.answer.Part.{Part}
use Rattle.answer.specs.declared.answer.Part.TheVariants.{Member, Rows}
use Rattle.answer.specs.Parts.{column, signed}
use Rattle.blk_report.specs.declared.figures.Report.{Report}
use Rattle.blk_report.specs.Comparison.{IsFirstBest, HasNoBest}
use Rattle.edd_figures.specs.Figures.{greatest_in, least_in, shortfall_in}

-- the names behind their references
abbrev pub names_of : List (Bor (List ℕ)) → List (List ℕ)
names_of names = map (λ name. name.now) names

-- a report under a name, and each of some
abbrev pub table_row : List ℕ → Report → List Value
table_row name r = Text name ∷ Count r.commands ∷ Count r.waiting ∷ signed (greatest_in r.figures) ∷ signed (least_in r.figures) ∷ signed (shortfall_in r.figures) ∷ []

abbrev pub table_rows : List (List ℕ) → List Report → List (List Value)
table_rows names reports = map (λ p. table_row p.0 p.1) (zip names reports)

-- the name at the left of 8 places, and each number at the right of 10
abbrev pub table_columns : List Column
table_columns =
    column (layout.Left 8) names.SCHED.now ∷ column (layout.Right 10) names.COMMANDS.now ∷ column (layout.Right 10) names.WAITING.now
    ∷ column (layout.Right 10) names.GREATEST.now ∷ column (layout.Right 10) names.LEAST.now ∷ column (layout.Right 10) names.SHORTFALL.now ∷ []

-- the name of the best, where some have commands
abbrev pub best_value : List (List ℕ) → Option ℕ → Value
best_value titles None = Nothing names.NONE_SERVED.now
best_value titles (Some place) = Text (slice_index_or titles place [])

-- the place is that of the best report, if there is one
abbrev pub IsBestPlace : List Report → Option ℕ → Type 0
IsBestPlace reports None = HasNoBest reports
IsBestPlace reports (Some place) = IsFirstBest reports place

-- what is said of these reports, each under its scheduler's name, and which is the best
pub record IsTable (titles : List (List ℕ)) (reports : List Report) (parts : List Part) : Type 0 where
  pub best : Option ℕ
  pub is_best : IsBestPlace reports best
  pub are_parts : parts ≡ Rows (record { name = names.SCHEDULERS.now; columns = table_columns; head = true; rows = table_rows titles reports }) ∷ Member names.BEST.now (best_value titles best) ∷ []
