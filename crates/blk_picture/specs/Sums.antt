-- The columns of a picture, and what their numbers add up to.
use Rattle.std.specs.Prelude.{ℕ, ◌≡◌, ◌<◌, ◌≤◌, ◌+◌, ◌-◌, ◌*◌, List, Some, length, sum_by, count_by, slice_get}
use Rattle.edd_commands.specs.Capacity.{carried}
use Rattle.blk_trace.specs.Happened.{Happened}
use Rattle.blk_trace.specs.Setups.{Setup}
use Rattle.blk_trace.specs.Events.{round_of}
use Rattle.blk_trace.specs.Depths.{capacity_of}
use Rattle.blk_trace.specs.Traces.{Traced}
use Rattle.blk_picture.specs.declared.scale.Scale.{Scale}
use Rattle.blk_picture.specs.declared.columns.Column.{Column}
use Rattle.blk_picture.specs.declared.columns.IssueKind.TheVariants.{Reads, Writes, Lates, Backs}
use Rattle.blk_picture.specs.Scales.{IsScaled}
use Rattle.blk_picture.specs.Boxes.{boxes_of}
use Rattle.blk_picture.specs.Columns.{counts_as, column_of}
use Rattle.blk_picture.specs.Made.{made}

-- the columns of a trace
abbrev pub columns_in : Setup → List Happened → Scale → List Column
columns_in setup events scale = made (column_of setup events scale) scale.columns

-- what was issued in a column: reads and writes on time, late ones, and those requeued
abbrev pub issued_in : Column → ℕ
issued_in n = n.reads + n.writes + n.lates + n.backs

-- the places of a column that were left idle
abbrev pub idle_in : Column → ℕ
idle_in n = n.room - issued_in n

-- a column stands for some rounds, all columns for all rounds that are shown, and the round that is on is one of these
pub record ShowsAll (events : List Happened) (scale : Scale) : Type 0 where
  pub some : 0 < scale.per
  pub whole : scale.rounds ≤ scale.columns * scale.per
  pub last : round_of events < scale.rounds

-- it holds of each scale of so many rounds
abbrev pub HoldsScaled : ℕ → (Scale → Type 0) → Type 0
HoldsScaled rounds P = (deep : ℕ) → (scale : Scale) → IsScaled rounds deep scale → P scale

-- it shows all of each of the traces
abbrev pub ShowsAllOfEach : List Traced → Scale → Type 0
ShowsAllOfEach traces scale = (k : ℕ) → (t : Traced) → slice_get traces k ≡ Some t → ShowsAll t.events scale

-- it holds on each scale that shows all of the trace
abbrev pub WhereAllIsShown : (Setup → List Happened → Scale → Type 0) → Setup → List Happened → Type 0
WhereAllIsShown P setup events = (scale : Scale) → ShowsAll events scale → P setup events scale

-- the numbers of a kind, in all columns, add up to the boxes of that kind
abbrev pub ReadsAddUp : Setup → List Happened → Scale → Type 0
ReadsAddUp setup events scale = sum_by (λ n. n.reads) (columns_in setup events scale) ≡ count_by (counts_as Reads) (boxes_of setup events)

abbrev pub WritesAddUp : Setup → List Happened → Scale → Type 0
WritesAddUp setup events scale = sum_by (λ n. n.writes) (columns_in setup events scale) ≡ count_by (counts_as Writes) (boxes_of setup events)

abbrev pub LatesAddUp : Setup → List Happened → Scale → Type 0
LatesAddUp setup events scale = sum_by (λ n. n.lates) (columns_in setup events scale) ≡ count_by (counts_as Lates) (boxes_of setup events)

abbrev pub BacksAddUp : Setup → List Happened → Scale → Type 0
BacksAddUp setup events scale = sum_by (λ n. n.backs) (columns_in setup events scale) ≡ count_by (counts_as Backs) (boxes_of setup events)

-- what was issued in all columns adds up to all boxes
abbrev pub BoxesAddUp : Setup → List Happened → Scale → Type 0
BoxesAddUp setup events scale = sum_by issued_in (columns_in setup events scale) ≡ length (boxes_of setup events)

-- the rooms of all columns add up to what the rounds that are shown carry
abbrev pub RoomsAddUp : Setup → List Happened → Scale → Type 0
RoomsAddUp setup events scale = sum_by (λ n. n.room) (columns_in setup events scale) ≡ carried (capacity_of setup events) 0 scale.rounds

-- no column has more boxes than room
abbrev pub ColumnsFit : Setup → List Happened → Scale → Type 0
ColumnsFit setup events scale = (n : ℕ) → n < scale.columns → issued_in (column_of setup events scale n) ≤ (column_of setup events scale n).room

-- the idle places of all columns, and the boxes, add up to what the rounds that are shown carry
abbrev pub IdlePlacesAddUp : Setup → List Happened → Scale → Type 0
IdlePlacesAddUp setup events scale = sum_by idle_in (columns_in setup events scale) + length (boxes_of setup events) ≡ carried (capacity_of setup events) 0 scale.rounds
