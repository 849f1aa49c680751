-- What each column of a picture stands for.
use Rattle.std.specs.Prelude.{ℕ, zero, suc, ◌+◌, ◌-◌, ◌/◌, ◌==◌, ◌&&◌, ◌++◌, ◌∷◌, [], Bool, not, cond, min, nat_lt, List, Option, Some, None, count_by, take, drop, slice_index_or}
use Rattle.std.specs.Option.{option_map_or}
use Rattle.std.specs.List.{filter_map}
use Rattle.edd_commands.specs.declared.steps.Step.{Step}
use Rattle.edd_commands.specs.Capacity.{carried}
use Rattle.blk_bio.specs.declared.bio.Dir.{Dir}
use Rattle.blk_bio.specs.declared.bio.Dir.TheVariants.{Read, Write}
use Rattle.blk_bio.specs.Requests.{dir_of}
use Rattle.blk_trace.specs.Happened.{Happened}
use Rattle.blk_trace.specs.Kinds.{releases}
use Rattle.blk_trace.specs.Setups.{Setup, same_dir}
use Rattle.blk_trace.specs.Meaning.{timed, greatest}
use Rattle.blk_trace.specs.Depths.{capacity_of}
use Rattle.blk_report.specs.declared.serving.Service.{Service}
use Rattle.blk_picture.specs.declared.scale.Scale.{Scale}
use Rattle.blk_picture.specs.declared.columns.Column.{Column}
use Rattle.blk_picture.specs.declared.columns.IssueKind.{IssueKind}
use Rattle.blk_picture.specs.declared.columns.IssueKind.TheVariants.{Reads, Writes, Lates, Backs, GoneReads, GoneWrites}
use Rattle.blk_picture.specs.Boxes.{boxes_of}
use Rattle.blk_picture.specs.Made.{made}
use Rattle.blk_picture.specs.Scales.{shown_at}

-- whether it was issued after it was due
abbrev pub is_late : Service → Bool
is_late b = nat_lt b.due b.issue

-- whether it is of the kind: each is a read or a write on time, late, or was requeued
abbrev pub counts_as : IssueKind → Service → Bool
counts_as Reads b = (not b.back && not (is_late b)) && same_dir b.dir Read
counts_as Writes b = (not b.back && not (is_late b)) && same_dir b.dir Write
counts_as Lates b = not b.back && is_late b
counts_as Backs b = b.back
counts_as GoneReads b = not b.back && same_dir b.dir Read
counts_as GoneWrites b = not b.back && same_dir b.dir Write

-- its round, if it is of the kind
abbrev pub round_in : IssueKind → Service → Option ℕ
round_in kind b = cond (counts_as kind b) (Some b.issue) None

-- the rounds of those of the kind
unfoldable pub rounds_in : IssueKind → List Service → List ℕ
rounds_in kind boxes = filter_map (round_in kind) boxes

-- the round, if a request of the direction enters by the event
abbrev pub entry_in : Dir → ℕ × Happened → Option ℕ
entry_in dir t = option_map_or (λ p. cond (same_dir (dir_of p.1) dir) (Some t.0) None) (releases t.1) None

-- the rounds in which requests of the direction enter
unfoldable pub entered_in : Dir → List Happened → List ℕ
entered_in dir events = filter_map (entry_in dir) (timed 0 events)

-- how many of the rounds stand in the column
unfoldable pub in_column : ℕ → ℕ → List ℕ → ℕ
in_column per c rounds = count_by (λ r. (r / per) == c) rounds

-- how many of the rounds are before this one
unfoldable pub before : List ℕ → ℕ → ℕ
before rounds r = count_by (λ x. nat_lt x r) rounds

-- for each round how many of those that entered in it or before have not gone out in it or before
unfoldable pub waits_of : List ℕ → List ℕ → ℕ → List ℕ
waits_of entered gone zero = []
waits_of entered gone (suc r) = waits_of entered gone r ++ (before entered (r + 1) - before gone (r + 1)) ∷ []

-- the greatest of each `per` numbers
unfoldable pub peaks_of : ℕ → ℕ → List ℕ → List ℕ
peaks_of per zero numbers = []
peaks_of per (suc n) numbers = greatest (take per numbers) ∷ peaks_of per n (drop per numbers)

-- how many commands each `per` rounds carry, from a round on and to the end
unfoldable pub rooms_of : List Step → ℕ → ℕ → ℕ → ℕ → List ℕ
rooms_of steps per rounds start zero = []
rooms_of steps per rounds start (suc n) = carried steps start (min (start + per) rounds - start) ∷ rooms_of steps per rounds (min (start + per) rounds) n

-- the numbers of a column
unfoldable pub column_of : Setup → List Happened → Scale → ℕ → Column
column_of setup events scale c = record {
  reads = in_column scale.per c (rounds_in Reads (boxes_of setup events));
  writes = in_column scale.per c (rounds_in Writes (boxes_of setup events));
  lates = in_column scale.per c (rounds_in Lates (boxes_of setup events));
  backs = in_column scale.per c (rounds_in Backs (boxes_of setup events));
  room = slice_index_or (rooms_of (capacity_of setup events) scale.per scale.rounds 0 scale.columns) c 0;
  read_waits = slice_index_or (peaks_of scale.per scale.columns (waits_of (entered_in Read events) (rounds_in GoneReads (boxes_of setup events)) scale.rounds)) c 0;
  write_waits = slice_index_or (peaks_of scale.per scale.columns (waits_of (entered_in Write events) (rounds_in GoneWrites (boxes_of setup events)) scale.rounds)) c 0;
}

-- one in which nothing is, and those that are drawn, in their order
abbrev pub no_column : Column
no_column = record { reads = 0; writes = 0; lates = 0; backs = 0; room = 0; read_waits = 0; write_waits = 0 }

unfoldable pub drawn_columns : Scale → List Column → List Column
drawn_columns scale columns = made (λ n. slice_index_or columns (shown_at scale n) no_column) scale.drawn
