-- Which requests wait, by their ids.
use Rattle.std.specs.Prelude.{ℕ, ◌==◌, ◌&&◌, Bool, false, not, cond, List, Option, Some, None, length}
use Rattle.std.specs.Option.{option_map_or}
use Rattle.std.specs.List.{list_any}
use Rattle.blk_bio.specs.Bios.{Bio}
use Rattle.blk_bio.specs.Extents.{extent_of}
use Rattle.blk_trace.specs.declared.known.Entry.{Entry}
use Rattle.blk_trace.specs.Happened.{Happened}
use Rattle.blk_trace.specs.Kinds.{issues}
use Rattle.blk_trace.specs.Setups.{Setup}
use Rattle.blk_trace.specs.Events.{request_of}
use Rattle.blk_trace.specs.Meaning.{release_of, due_of, released_ids, issued_ids, waiting_ids}

-- a request that waits, as it was joined
pub record Entered : Type 0 where
  pub release : ℕ
  pub due : ℕ
  pub bios : List Bio

-- what a trace has of it
abbrev pub summary : Entered → Entry
summary w = record { extent = extent_of w.bios; release = w.release; due = w.due }

-- the request under the id, as its Release and Joins made it
abbrev pub entered_at : Setup → List Happened → ℕ → Entered
entered_at setup events id = record { release = release_of events id; due = due_of setup events id; bios = request_of events id }

-- whether the number is in the list
abbrev pub has_id : List ℕ → ℕ → Bool
has_id ids id = list_any (λ i. i == id) ids

-- the request that waits under the id: it was released, and was not issued or was requeued
unfoldable pub waits_at : Setup → List Happened → ℕ → Option Entered
waits_at setup events id = cond (has_id (released_ids events) id && not (has_id (issued_ids events) id)) (Some (entered_at setup events id)) None

-- whether the id has an Issue, requeued or not
unfoldable pub was_issued : List Happened → ℕ → Bool
was_issued events id = list_any (λ e. option_map_or (λ p. p.0 == id) (issues e) false) events

-- the request that may be joined under the id: one that waits and was never issued
unfoldable pub unissued_at : Setup → List Happened → ℕ → Option Entered
unissued_at setup events id = cond (was_issued events id) None (waits_at setup events id)

-- how many requests wait
abbrev pub waiting_count : List Happened → ℕ
waiting_count events = length (waiting_ids events)

-- how many requests were released
abbrev pub released_count : List Happened → ℕ
released_count events = length (released_ids events)
