-- Worked rows: lists of events with what replay says of them.
use Rattle.std.specs.Prelude.{ℕ, ◌≡◌, ◌++◌, List, [], ◌∷◌, map, Option, None, Some, Result, Ok, Err}
use Rattle.blk_bio.specs.declared.bio.Dir.{Dir}
use Rattle.blk_bio.specs.declared.bio.Dir.TheVariants.{Read, Write}
use Rattle.blk_bio.specs.declared.rule.TraceRule.{TraceRule}
use Rattle.blk_bio.specs.declared.rule.TraceRule.TheVariants.{ReleasedTwice, Unknown, AlreadyIssued, BioTwice, Fit, TagRange, TagUsed, NotIssued, InFlight, TooLong, DepthRange}
use Rattle.blk_bio.specs.Bios.{Bio}
use Rattle.blk_trace.specs.declared.event.Event.TheVariants.{Tick, Release, Join, Issue, Done, Back, Depth}
use Rattle.blk_trace.specs.Happened.{Happened}
use Rattle.blk_trace.specs.Setups.{Setup}
use Rattle.blk_trace_state.specs.State.{LayerState, start_state, commands_now, rounds_now, waiting_now, waiting_bios_now, flying_now, done_now}
use Rattle.blk_trace_state.specs.Replay.{replay, replay_from}

-- two tags; reads are due after 3 rounds, writes after 5; a request has at most 8 sectors and 2 bios
abbrev pub small : Setup
small = record { depth = 2; hw = 1; read_expire = 3; write_expire = 5; limits = record { max_sectors = 8; max_segments = 2 } }

-- a bio of submitter 0 with 4 sectors
abbrev pub bio : ℕ → Dir → ℕ → Bio
bio serial dir first = record { id = record { submitter = 0; serial = serial }; dir = dir; first = first; sectors = 4 }

-- a read of sectors 8 to 11, and what abuts it
abbrev pub low_read : List Bio
low_read = bio 1 Read 8 ∷ []

abbrev pub read_behind : List Bio
read_behind = bio 2 Read 12 ∷ []

abbrev pub read_ahead : List Bio
read_ahead = bio 3 Read 4 ∷ []

abbrev pub high_write : List Bio
high_write = bio 4 Write 12 ∷ []

-- the read is released, and issued
abbrev pub read_released : List Happened
read_released = Release 7 low_read ∷ []

abbrev pub read_issued : List Happened
read_issued = read_released ++ Issue 7 1 ∷ []

-- a read and what joins it in the next round, and a write; the read is requeued, and goes out again in a round of depth 1
abbrev pub long : List Happened
long =
    Release 7 low_read ∷ Tick ∷ Join 7 read_ahead ∷ Release 3 high_write ∷ Depth 1 ∷ Issue 7 1 ∷ Issue 3 0 ∷ Done 0 ∷ Back 1 ∷ Tick
    ∷ Issue 7 0 ∷ Done 0 ∷ Release 9 read_behind ∷ Depth 2 ∷ Depth 1 ∷ Tick ∷ Release 8 (bio 5 Write 0 ∷ []) ∷ []

-- lists with the place and the rule of what is wrong with them
abbrev pub rows : List (List Happened × Option (ℕ × TraceRule))
rows =
    ([], None)
    ∷ (long, None)
    ∷ (read_released ++ Join 7 read_behind ∷ [], None)
    ∷ (read_released ++ Release 7 read_behind ∷ [], Some (1, ReleasedTwice))
    ∷ (read_released ++ Join 8 read_behind ∷ [], Some (1, Unknown))
    ∷ (Issue 7 0 ∷ [], Some (0, Unknown))
    ∷ (read_issued ++ Join 7 read_behind ∷ [], Some (2, AlreadyIssued))
    ∷ (read_issued ++ Back 1 ∷ Join 7 read_behind ∷ [], Some (3, AlreadyIssued))
    ∷ (read_issued ++ Issue 7 0 ∷ [], Some (2, AlreadyIssued))
    ∷ (read_issued ++ Done 1 ∷ Tick ∷ Issue 7 0 ∷ [], Some (4, AlreadyIssued))
    ∷ (read_released ++ Release 8 low_read ∷ [], Some (1, BioTwice))
    ∷ (Release 7 (low_read ++ low_read) ∷ [], Some (0, BioTwice))
    ∷ (read_released ++ Join 7 low_read ∷ [], Some (1, BioTwice))
    ∷ (read_released ++ Join 7 high_write ∷ [], Some (1, Fit))
    ∷ (read_released ++ Join 7 (bio 5 Read 0 ∷ []) ∷ [], Some (1, Fit))
    ∷ (read_released ++ Join 7 read_behind ∷ Join 7 read_ahead ∷ [], Some (2, Fit))
    ∷ (Release 7 (read_ahead ++ low_read ++ read_behind) ∷ [], Some (0, Fit))
    ∷ (read_released ++ Issue 7 2 ∷ [], Some (1, TagRange))
    ∷ (read_released ++ Depth 1 ∷ Tick ∷ Issue 7 1 ∷ [], Some (3, TagRange))
    ∷ (read_issued ++ Release 8 read_behind ∷ Issue 8 1 ∷ [], Some (3, TagUsed))
    ∷ (read_issued ++ Back 1 ∷ Issue 7 1 ∷ [], Some (3, TagUsed))
    ∷ (read_issued ++ Done 0 ∷ [], Some (2, NotIssued))
    ∷ (read_issued ++ Done 1 ∷ Back 1 ∷ [], Some (3, NotIssued))
    ∷ (read_issued ++ Tick ∷ [], Some (2, InFlight))
    ∷ (Tick ∷ Depth 0 ∷ [], Some (1, DepthRange))
    ∷ (Depth 3 ∷ [], Some (0, DepthRange))
    ∷ []

abbrev pub fault_told : Result LayerState (ℕ × TraceRule) → Option (ℕ × TraceRule)
fault_told (Ok s) = None
fault_told (Err fault) = Some fault

-- each row's list has the row's fault
abbrev pub RowsHold : Type 0
RowsHold = map (λ row. fault_told (replay small row.0)) rows ≡ map (λ row. row.1) rows

-- the same after so many events: those and an end for each command in flight are at most a million
abbrev pub late_rows : List (ℕ × (List Happened × Option (ℕ × TraceRule)))
late_rows =
    (999999, (Tick ∷ [], None))
    ∷ (1000000, (Tick ∷ [], Some (1000000, TooLong)))
    ∷ (1000000, (Depth 0 ∷ [], Some (1000000, TooLong)))
    ∷ (999997, (read_issued ++ Done 1 ∷ [], None))
    ∷ (999998, (read_issued, Some (999999, TooLong)))
    ∷ []

abbrev pub LateRowsHold : Type 0
LateRowsHold = map (λ row. fault_told (replay_from small (record (start_state small) { events = row.0 }) row.1.0)) late_rows ≡ map (λ row. row.1.1) late_rows

-- what the long list leaves
abbrev pub LongLeaves : LayerState → Type 0
LongLeaves s =
    (s.events ≡ 17) × (s.round ≡ 3) × (s.depth ≡ 1) × (s.next_depth ≡ 1) × (flying_now s ≡ 0) × (done_now s ≡ 2)
    × (commands_now s ≡ record { id = 3; release = 1; due = 6 } ∷ record { id = 7; release = 1; due = 3 } ∷ [])
    × (rounds_now s ≡ 1 ∷ 2 ∷ []) × (waiting_now s ≡ 8 ∷ 9 ∷ []) × (waiting_bios_now s ≡ bio 5 Write 0 ∷ read_behind)
