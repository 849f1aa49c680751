-- What is said of replays.
use Rattle.std.specs.Prelude.{ℕ, List, [], ◌∷◌, ◌++◌, Bool, true, Option, None, Some, if◌then◌else◌, ◌&&◌, ◌==◌, nat_lt, map, take, codes}
use Rattle.answer.specs.declared.names.TheConstants as names
use Rattle.answer.specs.declared.answer.Part.{Part}
use Rattle.answer.specs.declared.answer.Part.TheVariants.{Member, Line, Rows, Object}
use Rattle.answer.specs.declared.cells.Cell.{Cell}
use Rattle.answer.specs.declared.cells.Column.{Column}
use Rattle.answer.specs.declared.cells.Layout.{Layout}
use Rattle.answer.specs.declared.cells.Layout.TheVariants as layout
use Rattle.answer.specs.declared.value.Set.TheVariants.{Number}
use Rattle.answer.specs.declared.value.Setting.{Setting}
use Rattle.answer.specs.declared.value.Value.{Value}
use Rattle.answer.specs.declared.value.Value.TheVariants.{Count, Text, Nothing, Remark, Settings}
use Rattle.answer.specs.Parts.{column, counted, record_columns}
use Rattle.blk_capture.specs.declared.summary.Percentiles.{Percentiles}
use Rattle.blk_replay.specs.declared.figures.ClockFigures.{ClockFigures}
use Rattle.blk_schedulers.specs.Plans.{has_fifo_lists}
use Rattle.blk_schedulers.specs.Scheds.{name_of, settings_of}
use Rattle.blk_schedulers.specs.Told.{told_setting}
use Rattle.blk_schedulers.specs.declared.plans.Plan.{Plan}
use Rattle.blk_replayed.specs.declared.row.Chooser.{Chooser}
use Rattle.blk_replayed.specs.declared.row.Chooser.TheVariants.{Machine, Replay}
use Rattle.blk_replayed.specs.declared.row.ReplayRow.{ReplayRow}

-- the expiries by which a replay goes, as settings, where its scheduler has FIFO lists; and all its settings, with the expiries where they are shown
abbrev pub expiry : List ℕ → ℕ → Setting
expiry name time = record { name = name; set = Number time }

abbrev pub expiries_of : Plan → List Setting
expiries_of p =
    if has_fifo_lists p.sched.kind then expiry names.FIFO_READ_EXPIRE.now p.fifo.read ∷ expiry names.FIFO_WRITE_EXPIRE.now p.fifo.write ∷ [] else []

abbrev pub plan_settings : Bool → Plan → List Setting
plan_settings expiries p = map (λ s. told_setting s) (settings_of p.sched) ++ (if expiries then expiries_of p else [])

-- who chose an order, and by which settings
abbrev pub chooser_name : Chooser → List ℕ
chooser_name Machine = names.CAPTURED.now
chooser_name (Replay p) = name_of p.sched

abbrev pub chooser_settings : Bool → Chooser → List Setting
chooser_settings expiries Machine = []
chooser_settings expiries (Replay p) = plan_settings expiries p

-- three of the percentiles of waits
abbrev pub waits_told : Percentiles → List Value → List Value
waits_told p rest = counted p.p50 ∷ counted p.p99 ∷ counted p.max ∷ rest

-- a row, and the rows that are shown
unfoldable pub replay_row : Bool → ReplayRow → List Value
replay_row expiries r =
    Text (chooser_name r.chooser) ∷ Settings (chooser_settings expiries r.chooser) ∷ Count r.late ∷ Count r.clock.late_reads ∷ Count r.clock.late_writes
    ∷ Count r.unavoidable ∷ Count r.avoidable ∷ Count r.clock.greatest ∷ waits_told r.clock.reads (waits_told r.clock.writes [])

abbrev pub replay_columns : List Column
replay_columns =
    record_columns (names.SCHED.now ∷ names.SETTINGS.now ∷ names.LATE.now ∷ names.LATE_READS.now ∷ names.LATE_WRITES.now ∷ names.UNAVOIDABLE.now ∷ names.AVOIDABLE.now
    ∷ names.GREATEST.now ∷ names.READ_P50.now ∷ names.READ_P99.now ∷ names.READ_MAX.now ∷ names.WRITE_P50.now ∷ names.WRITE_P99.now ∷ names.WRITE_MAX.now ∷ [])

abbrev pub best_replays : Option ℕ → List ReplayRow → List ReplayRow
best_replays None rows = rows
best_replays (Some n) rows = take n rows

abbrev pub replay_rows : Bool → Option ℕ → ReplayRow → List ReplayRow → Part
replay_rows expiries top captured replayed =
    Rows (record { name = names.ROWS.now; columns = replay_columns; head = true; rows = map (λ r. replay_row expiries r) (captured ∷ best_replays top replayed) })

-- the best of them, and that no order has fewer late than it, where there are requests and it has none that is avoidable
abbrev pub is_least : ReplayRow → Bool
is_least r = nat_lt 0 r.requests && (r.avoidable == 0)

abbrev pub proof_told : ReplayRow → Value
proof_told r = if is_least r then Remark (codes "no order has fewer") else Nothing []

abbrev pub told_cell : Layout → List ℕ → Value → Cell
told_cell how name value = record { column = column how name; value = value }

-- a line that says what is proved
abbrev pub told_line : Value → List ℕ → Part
told_line told end = Line (record { cells = told_cell layout.Plain names.PROVED.now told ∷ []; end = end })

abbrev pub best_told : Bool → ReplayRow → Part
best_told expiries r =
    Object names.BEST.now (record { cells = told_cell (layout.OtherName names.BEST.now) names.SCHED.now (Text (chooser_name r.chooser)) ∷ told_cell layout.Space names.SETTINGS.now (Settings (chooser_settings expiries r.chooser)) ∷ []; end = [] })

abbrev pub best_of_row : Bool → ReplayRow → List Part
best_of_row expiries r = best_told expiries r ∷ told_line (proof_told r) (10 ∷ []) ∷ []

abbrev pub best_of_none : List Part
best_of_none =
    Member names.BEST.now (Nothing names.NONE.now) ∷ told_line (Nothing []) [] ∷ []

abbrev pub best_of_rows : Bool → List ReplayRow → List Part
best_of_rows expiries [] = best_of_none
best_of_rows expiries (r ∷ rows) = best_of_row expiries r

-- all that is said of them
abbrev pub replays_parts : Bool → Option ℕ → ReplayRow → List ReplayRow → List Part
replays_parts expiries top captured replayed = replay_rows expiries top captured replayed ∷ best_of_rows expiries replayed
