-- What figures, windows and verdicts say in an answer.
use Rattle.std.specs.Prelude.{ℕ, ℤ, List, [], ◌∷◌, Option, None, Some, false, map}
use Rattle.answer.specs.declared.names.TheConstants as names
use Rattle.answer.specs.declared.value.Value.{Value}
use Rattle.answer.specs.declared.value.Value.TheVariants.{Count, Text, Nothing}
use Rattle.answer.specs.declared.cells.Column.{Column}
use Rattle.answer.specs.declared.cells.Layout.TheVariants as layout
use Rattle.answer.specs.declared.answer.Part.{Part}
use Rattle.answer.specs.declared.answer.Part.TheVariants.{Member, Rows}
use Rattle.answer.specs.Parts.{column, counted, signed, windowed}
use Rattle.edd_verdict.specs.declared.Verdict.{Verdict}
use Rattle.edd_verdict.specs.declared.Verdict.TheVariants.{Arrival, Spare, Full}
use Rattle.edd_figures.specs.declared.lateness.Figures.{Figures}
use Rattle.edd_figures.specs.declared.missing.Crowd.{Crowd}

-- the five figures, which are `none` where there are none
abbrev pub values_parts : Option ℤ → Option ℤ → Option ℤ → Option (ℕ × ℕ) → Option ℕ → List Part
values_parts greatest least shortfall window load =
    Member names.GREATEST.now (signed greatest) ∷ Member names.LEAST.now (signed least) ∷ Member names.SHORTFALL.now (signed shortfall)
    ∷ Member names.WINDOW.now (windowed window) ∷ Member names.LOAD.now (counted load) ∷ []

abbrev pub figures_parts : Option Figures → List Part
figures_parts None = values_parts None None None None None
figures_parts (Some f) = values_parts (Some f.greatest) (Some f.least) (Some f.shortfall) (Some (f.window.from, f.window.due)) (Some f.load)

-- windows: the first and the last round of each, how many commands lie in it, and how many its rounds carry
abbrev pub crowd_columns : List Column
crowd_columns =
    column (layout.OtherName names.WINDOW.now) names.FROM.now ∷ column layout.Space names.UNTIL.now ∷ column layout.NextName names.COMMANDS.now ∷ column layout.NextName names.CARRIES.now ∷ []

abbrev pub crowd_row : Crowd → List Value
crowd_row c = Count c.window.from ∷ Count c.window.due ∷ Count c.commands ∷ Count c.carries ∷ []

abbrev pub crowds_part : List Crowd → Part
crowds_part windows = Rows (record { name = names.WINDOWS.now; columns = crowd_columns; head = false; rows = map crowd_row windows })

-- why a command was late, and the first and the last round of its window, if it has one
abbrev pub verdict_value : Verdict → Value
verdict_value Arrival = Text names.ARRIVAL.now
verdict_value Spare = Text names.SPARE.now
verdict_value (Full w) = Text names.FULL.now

abbrev pub from_value : Verdict → Value
from_value Arrival = Nothing []
from_value Spare = Nothing []
from_value (Full w) = Count w.from

abbrev pub until_value : Verdict → Value
until_value Arrival = Nothing []
until_value Spare = Nothing []
until_value (Full w) = Count w.due
