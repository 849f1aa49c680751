-- How rounds are counted in columns.
use Rattle.std.specs.Prelude.{ℕ, ◌≡◌, ◌<◌, ◌+◌, ◌==◌, cond, List, length, slice_index_or}
use Rattle.blk_bio.specs.declared.bio.Dir.{Dir}
use Rattle.blk_trace.specs.Happened.{Happened}
use Rattle.blk_report.specs.declared.serving.Service.{Service}
use Rattle.blk_picture.specs.declared.scale.Scale.{Scale}
use Rattle.blk_picture.specs.declared.columns.Column.{Column}
use Rattle.blk_picture.specs.declared.columns.IssueKind.{IssueKind}
use Rattle.blk_picture.specs.Columns.{in_column, rounds_in, entered_in, waits_of, peaks_of}
use Rattle.blk_picture.specs.Made.{made}

-- one more is counted in the column, where there is such a column
abbrev pub CountsOneMore : ℕ → List ℕ → List ℕ → Type 0
CountsOneMore column old new = (c : ℕ) → c < length old
    → slice_index_or new c 0 ≡ cond (column == c) (slice_index_or old c 0 + 1) (slice_index_or old c 0)

-- of each column how many of the rounds stand in it
abbrev pub AreCounts : ℕ → ℕ → List ℕ → List ℕ → Type 0
AreCounts per columns rounds counts = (c : ℕ) → c < columns → slice_index_or counts c 0 ≡ in_column per c rounds

-- the most that waited at the end of a round of each column: those of the direction that entered, without those of the kind
abbrev pub most_waits : Scale → Dir → IssueKind → List Happened → List Service → List ℕ
most_waits scale dir kind events boxes =
    peaks_of scale.per scale.columns (waits_of (entered_in dir events) (rounds_in kind boxes) scale.rounds)

-- a column with these numbers, and that of a place in lists of them
abbrev pub column_with : ℕ → ℕ → ℕ → ℕ → ℕ → ℕ → ℕ → Column
column_with reads writes lates backs room rw ww = record { reads = reads; writes = writes; lates = lates; backs = backs; room = room; read_waits = rw; write_waits = ww }

abbrev pub column_from : List ℕ → List ℕ → List ℕ → List ℕ → List ℕ → List ℕ → List ℕ → ℕ → Column
column_from reads writes lates backs rooms rw ww n =
    column_with (slice_index_or reads n 0) (slice_index_or writes n 0) (slice_index_or lates n 0) (slice_index_or backs n 0) (slice_index_or rooms n 0) (slice_index_or rw n 0) (slice_index_or ww n 0)

-- the columns of these numbers
abbrev pub by_column : List ℕ → List ℕ → List ℕ → List ℕ → List ℕ → List ℕ → List ℕ → List Column
by_column reads writes lates backs rooms rw ww = made (column_from reads writes lates backs rooms rw ww) (length reads)
