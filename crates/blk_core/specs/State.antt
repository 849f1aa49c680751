-- What a core is, and what its scheduler holds.
use Rattle.std.specs.Prelude.{ℕ, ◌≡◌, ◌+◌, ◌==◌, Bool, List, [], replicate, Option, None, Some, cond, slice_get, is_some, refl}
use Rattle.std.specs.Option.{option_map}
use Rattle.std.specs.FinMap as map
use Rattle.std.specs.Coded.{Coded, code_by, coded×, coded_ℕ, coded_list, coded_option}
use Rattle.blk_bio.specs.declared.bio.Dir.{Dir}
use Rattle.blk_bio.specs.declared.bio.Dir.TheVariants.{Read, Write}
use Rattle.blk_bio.specs.Limits.{Limits}
use Rattle.blk_bio.specs.Codes.{limits_code}
use Rattle.blk_bio.specs.Extents.{Extent, extent_of}
use Rattle.blk_trace.specs.Setups.{Setup}
use Rattle.blk_trace.specs.Traces.{Traced}
use Rattle.blk_trace.specs.Happened.{Happened, happened_code}
use Rattle.blk_trace.specs.Events.{request_of, open_count, IsOpenBy}
use Rattle.blk_trace.specs.Meaning.{release_of, due_of}
use Rattle.blk_trace.specs.Waits.{Entered, waits_at, was_issued, unissued_at, waiting_count}
use Rattle.blk_trace.specs.Setups.{same_dir}
use Rattle.blk_sched.specs.Meaning.{Waiting, Meaning, requeued_of, waiting_code, meaning_code}
use Rattle.blk_queues.specs.Requeued.{requeued_in, requeued_total, requeued_count}
use Rattle.blk_core.specs.Opens.{open_issues_of}

-- a command in flight: the hardware queue that it was issued for, and its request as it was picked
pub record Flight : Type 0 where
  pub hw : ℕ
  pub request : Waiting

-- a core: its setup and its events, what its scheduler means and what that keeps of its own, the commands in flight by tag, and a
-- requeue list for each hardware queue
pub record CoreState : Type 0 where
  pub setup : Setup
  pub events : List Happened
  pub meaning : Meaning
  pub kept : List ℕ
  pub flights : List (Option Flight)
  pub requeued : List (List Waiting)

-- a core with this trace, over a scheduler that means and keeps this, with these commands in flight and these requeue lists
abbrev pub core_of : Traced → Meaning → List ℕ → List (Option Flight) → List (List Waiting) → CoreState
core_of trace meaning kept flights requeue_lists =
    record { setup = trace.setup; events = trace.events; meaning = meaning; kept = kept; flights = flights; requeued = requeue_lists }

-- a core without events over a scheduler that means and keeps this
abbrev pub new_core : Setup → Meaning → List ℕ → CoreState
new_core setup meaning kept =
    record { setup = setup; events = []; meaning = meaning; kept = kept; flights = replicate setup.depth None; requeued = replicate setup.hw [] }

-- a setup's code
abbrev pub setup_code : Coded Setup
setup_code = code_by (ℕ × (ℕ × (ℕ × (ℕ × Limits)))) (coded× coded_ℕ (coded× coded_ℕ (coded× coded_ℕ (coded× coded_ℕ limits_code)))) (λ s. (s.depth, (s.hw, (s.read_expire, (s.write_expire, s.limits))))) (λ p. record { depth = p.0; hw = p.1.0; read_expire = p.1.1.0; write_expire = p.1.1.1.0; limits = p.1.1.1.1 }) (λ _. refl)

-- the code of a command in flight
abbrev pub flight_code : Coded Flight
flight_code = code_by (ℕ × Waiting) (coded× coded_ℕ waiting_code) (λ f. (f.hw, f.request)) (λ p. record { hw = p.0; request = p.1 }) (λ _. refl)

-- a core's code
abbrev pub core_code : Coded CoreState
core_code = code_by (Setup × (List Happened × (Meaning × (List ℕ × (List (Option Flight) × List (List Waiting)))))) (coded× setup_code (coded× (coded_list happened_code) (coded× meaning_code (coded× (coded_list coded_ℕ) (coded× (coded_list (coded_option flight_code)) (coded_list (coded_list waiting_code))))))) (λ c. (c.setup, (c.events, (c.meaning, (c.kept, (c.flights, c.requeued)))))) (λ p. record { setup = p.0; events = p.1.0; meaning = p.1.1.0; kept = p.1.1.1.0; flights = p.1.1.1.1.0; requeued = p.1.1.1.1.1 }) (λ _. refl)

-- what a scheduler knows of a request as of its bios: its release, its due round and its extent
abbrev pub facts_of : Waiting → ℕ × (ℕ × Extent)
facts_of w = (w.release, (w.due, w.extent))

-- the same of a request in the trace
abbrev pub facts_in_trace : Entered → ℕ × (ℕ × Extent)
facts_in_trace e = (e.release, (e.due, extent_of e.bios))

-- a request is in flight under the tag: the tag's Issue of its id is open, and it is known as it was joined
pub record InFlightAs (setup : Setup) (events : List Happened) (tag : ℕ) (w : Waiting) : Type 0 where
  pub by : IsOpenBy events tag w.id
  pub known : facts_of w ≡ facts_in_trace record { release = release_of events w.id; due = due_of setup events w.id; bios = request_of events w.id }

-- the requeued request that waits under the id: it was issued before
unfoldable pub requeued_at : Setup → List Happened → ℕ → Option Entered
requeued_at setup events id = cond (was_issued events id) (waits_at setup events id) None

-- whether a request is of a direction, and whether it has an id
abbrev pub is_of : Dir → Waiting → Bool
is_of dir w = same_dir dir w.extent.dir

abbrev pub is_named : ℕ → Waiting → Bool
is_named id w = id == w.id

-- the scheduler and the requeue lists together hold exactly what waits in the trace, known as it was joined
pub record HoldsWhatWaits (setup : Setup) (events : List Happened) (m : Meaning) (requeue_lists : List (List Waiting)) : Type 0 where
  -- the scheduler has what was never issued
  pub pending : (id : ℕ) → option_map facts_of (map.get m.pending id) ≡ option_map facts_in_trace (unissued_at setup events id)
  -- the requeue lists have what was requeued, and each such request once
  pub requeued : (hw place : ℕ) (w : Waiting) → slice_get (requeued_in requeue_lists hw) place ≡ Some w → option_map facts_in_trace (requeued_at setup events w.id) ≡ Some (facts_of w)
  pub requeued_once : (id : ℕ) → requeued_count (is_named id) requeue_lists ≡ cond (is_some (requeued_at setup events id)) 1 0
  pub count : map.len m.pending + requeued_total requeue_lists ≡ waiting_count events
  -- the scheduler's open picks are the open Issues, and its requeued picks are the requests of the requeue lists
  pub reads : m.open_picks.reads ≡ open_issues_of events Read
  pub writes : m.open_picks.writes ≡ open_issues_of events Write
  pub requeued_picks : (dir : Dir) → requeued_of dir m.open_picks ≡ requeued_count (is_of dir) requeue_lists

-- whoever holds what waits has as many picks open as there are open Issues
abbrev pub PicksAreOpenIssues : Setup → List Happened → Type 0
PicksAreOpenIssues setup events =
    (m : Meaning) → (requeue_lists : List (List Waiting)) → HoldsWhatWaits setup events m requeue_lists
    → m.open_picks.reads + m.open_picks.writes ≡ open_count events
