-- What is said of a trial, as an answer.
use Rattle.std.specs.Prelude.{ℕ, ◌∷◌, [], List, Bool, true, false, Option, None, Some, ℤ, pos, if◌then◌else◌, ◌&&◌, ◌==◌, nat_lt, codes, map, take}
use Rattle.std.specs.Ordering.{int_eq}
use Rattle.answer.specs.declared.names.TheConstants as names
use Rattle.answer.specs.declared.value.Value.{Value}
use Rattle.answer.specs.declared.value.Value.TheVariants.{Count, Text, Nothing, Remark, Settings}
use Rattle.answer.specs.declared.cells.Cell.{Cell}
use Rattle.answer.specs.declared.cells.Column.{Column}
use Rattle.answer.specs.declared.cells.Layout.TheVariants as layout
use Rattle.answer.specs.declared.answer.Part.{Part}
use Rattle.answer.specs.declared.answer.Part.TheVariants.{Member, Line, Object, Rows}
use Rattle.answer.specs.Parts.{Sentence, cell, record_columns, signed}
use Rattle.edd_figures.specs.Figures.{greatest_in, least_in, shortfall_in}
use Rattle.blk_schedulers.specs.Scheds.{name_of, settings_of}
use Rattle.blk_schedulers.specs.Told.{told_setting}
use Rattle.blk_schedulers.specs.declared.sched.Sched.{Sched}
use Rattle.blk_schedulers.specs.declared.grid.RankBy.{RankBy}
use Rattle.blk_schedulers.specs.declared.grid.RankBy.TheVariants as by
use Rattle.blk_tune.specs.declared.row.TrialRow.{TrialRow}

-- the settings of a scheduler, by the names that the command line has for them
abbrev pub settings_value : Sched → Value
settings_value s = Settings (map told_setting (settings_of s))

-- a row: its scheduler, how far its trace fell short, what was late, and how long 99 of 100 reads and of 100 writes waited at most
unfoldable pub trial_row : TrialRow → List Value
trial_row r =
    Text (name_of r.sched) ∷ settings_value r.sched ∷ Count r.report.commands ∷ Count r.report.waiting
    ∷ signed (greatest_in r.report.figures) ∷ signed (least_in r.report.figures) ∷ signed (shortfall_in r.report.figures)
    ∷ Count r.tally.late ∷ Count r.tally.unavoidable ∷ Count r.tally.avoidable ∷ signed r.wait_read ∷ signed r.wait_write ∷ []

abbrev pub trial_columns : List Column
trial_columns =
    record_columns (names.SCHED.now ∷ names.SETTINGS.now ∷ names.COMMANDS.now ∷ names.WAITING.now ∷ names.GREATEST.now ∷ names.LEAST.now ∷ names.SHORTFALL.now
    ∷ names.LATE.now ∷ names.UNAVOIDABLE.now ∷ names.AVOIDABLE.now ∷ names.WAIT_READ.now ∷ names.WAIT_WRITE.now ∷ [])

-- no rounds are lost
abbrev pub is_none : Option ℤ → Bool
is_none None = false
is_none (Some z) = int_eq z (pos 0)

-- whether no schedule of a row's commands is better, nothing being avoidable, with some commands, or nothing lost; and how that is said
abbrev pub is_proved : RankBy → TrialRow → Bool
is_proved by.Misses r = nat_lt 0 r.tally.commands && (r.tally.avoidable == 0)
is_proved by.Lateness r = is_none (shortfall_in r.report.figures)

abbrev pub proved_words : RankBy → List ℕ
proved_words by.Misses = codes "no schedule misses fewer"
proved_words by.Lateness = codes "no schedule is less late"

abbrev pub proved_value : RankBy → TrialRow → Value
proved_value b r = if is_proved b r then Remark (proved_words b) else Nothing []

abbrev pub proved_line : Value → List ℕ → Sentence
proved_line value end = record { cells = cell layout.Plain names.PROVED.now value ∷ []; end = end }

-- the first row of those that stand best first, and what is proved of it; nothing without rows
abbrev pub best_cells : TrialRow → List Cell
best_cells r = cell (layout.OtherName names.BEST.now) names.SCHED.now (Text (name_of r.sched)) ∷ cell layout.Space names.SETTINGS.now (settings_value r.sched) ∷ []

abbrev pub best_parts : RankBy → List TrialRow → List Part
best_parts b [] = Member names.BEST.now (Nothing names.NONE_SERVED.now) ∷ Line (proved_line (Nothing []) []) ∷ []
best_parts b (r ∷ rs) = Object names.BEST.now (record { cells = best_cells r; end = [] }) ∷ Line (proved_line (proved_value b r) (10 ∷ [])) ∷ []

-- the rows that are shown
abbrev pub shown : Option ℕ → List TrialRow → List TrialRow
shown None rows = rows
shown (Some n) rows = take n rows

abbrev pub trial_parts : RankBy → Option ℕ → List TrialRow → List Part
trial_parts b top rows = Rows (record { name = names.ROWS.now; columns = trial_columns; head = true; rows = map trial_row (shown top rows) }) ∷ best_parts b rows
