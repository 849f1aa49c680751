-- What is said of a schedule, as answers.
use Rattle.std.specs.Prelude.{◌-◌, ◌==◌, ◌++◌, ◌∷◌, [], List, Option, true, map, if◌then◌else◌}
use Rattle.answer.specs.declared.names.TheConstants as names
use Rattle.answer.specs.declared.value.Value.{Value}
use Rattle.answer.specs.declared.value.Value.TheVariants.{Count, Text}
use Rattle.answer.specs.declared.cells.Column.{Column}
use Rattle.answer.specs.declared.answer.Part.{Part}
use Rattle.answer.specs.declared.answer.Part.TheVariants.{Member, Rows}
use Rattle.answer.specs.Parts.{record_columns}
use Rattle.edd_figures.specs.Answers.{figures_parts, crowds_part, verdict_value, from_value, until_value}
use Rattle.edd_figures.specs.declared.lateness.Figures.{Figures}
use Rattle.edd_figures.specs.declared.missing.Counts.{Counts}
use Rattle.edd_figures.specs.declared.missing.Crowd.{Crowd}
use Rattle.blk_judge.specs.declared.missing.Miss.{Miss}

-- a judgement: its counts, its figures, and the windows that prove how many had to be late
abbrev pub counts_parts : Counts → List Part
counts_parts c =
    Member names.COMMANDS.now (Count c.commands) ∷ Member names.LATE.now (Count c.late) ∷ Member names.UNAVOIDABLE.now (Count c.unavoidable)
    ∷ Member names.AVOIDABLE.now (Count c.avoidable) ∷ Member names.SPARE.now (Count c.spare) ∷ []

abbrev pub judged_parts : Counts → Option Figures → List Crowd → List Part
judged_parts c f windows = (counts_parts c ++ figures_parts f) ++ crowds_part windows ∷ []

-- why a command was late, as far as rounds tell: of one due in the round before its release they don't tell whether a deadline passed before it
-- came in, or after
abbrev pub miss_cause : Miss → Value
miss_cause m = if m.command.release - m.command.due == 1 then Text names.GAP.now else verdict_value m.verdict

-- late commands, and why each is late
abbrev pub miss_row : Miss → List Value
miss_row m =
    Count m.command.id ∷ Count m.command.release ∷ Count m.command.due ∷ Count m.round ∷ Count m.lateness
    ∷ miss_cause m ∷ from_value m.verdict ∷ until_value m.verdict ∷ []

abbrev pub miss_columns : List Column
miss_columns =
    record_columns (names.ID.now ∷ names.RELEASE.now ∷ names.DUE.now ∷ names.ROUND.now ∷ names.LATENESS.now ∷ names.VERDICT.now ∷ names.FROM.now ∷ names.UNTIL.now ∷ [])

abbrev pub missed_parts : List Miss → List Part
missed_parts misses = Rows (record { name = names.LATE.now; columns = miss_columns; head = true; rows = map miss_row misses }) ∷ []
