-- What a trace keeps beside its events, what each part says of them, and the room that was made.
use Rattle.std.specs.Prelude.{ℕ, ◌≡◌, ◌≤◌, ◌+◌, ◌==◌, ◌&&◌, Bool, true, false, cond, List, length, Option, Some, None, option_map, map, slice_get}
use Rattle.std.specs.List.{list_any}
use Rattle.std.specs.Option.{option_map_or}
use Rattle.blk_bio.specs.Bios.{Bio}
use Rattle.blk_bio.specs.declared.bio.BioId.{BioId}
use Rattle.blk_bio.specs.Requests.{IsRequest, Fits}
use Rattle.blk_trace.specs.declared.known.Entry.{Entry}
use Rattle.blk_trace.specs.declared.known.Stage.{Stage}
use Rattle.blk_trace.specs.declared.known.Stage.TheVariants.{Waits, Gone, Requeued}
use Rattle.blk_trace.specs.declared.known.Known.{Known}
use Rattle.blk_trace.specs.declared.trace.Prepared.{Prepared}
use Rattle.blk_trace.specs.declared.trace.Prepared.TheVariants.{Nothing, AnIssue, Bios}
use Rattle.blk_trace.specs.Happened.{Happened}
use Rattle.blk_trace.specs.Setups.{Setup, IsSetup}
use Rattle.blk_trace.specs.Events.{request_of, round_of, open_count, entered, IsUsed, join_up}
use Rattle.blk_trace.specs.Depths.{depth_in, depth_now}
use Rattle.blk_trace.specs.Legal.{IsLegalTrace}
use Rattle.blk_trace.specs.declared.issued.Outcome.TheVariants.{Flying}
use Rattle.blk_trace.specs.declared.issued.Issued.{Issued}
use Rattle.blk_trace.specs.Issues.{issues_of}
use Rattle.blk_trace.specs.Meaning.{released_ids, issued_ids}
use Rattle.blk_trace.specs.Waits.{Entered, summary, entered_at, has_id, was_issued}
use Rattle.blk_trace.specs.Traces.{Traced, IsPreparedFor}
use Rattle.blk_bio.specs.Limits.{Limits}
use Rattle.blk_bio.specs.declared.request.Side.{Side}

-- what is kept of it once the newcomer has joined it in the round: where it fits, and only there
abbrev pub JoinsKept : Limits → ℕ → Entry → List Bio → Entry → Type 0
JoinsKept limits round old newcomer new = (w : Entered) → old ≡ summary w → IsRequest w.bios
    → ((s : Side) × Fits limits w.bios newcomer s) × (new ≡ summary record { release = round; due = w.due; bios = join_up w.bios newcomer })

abbrev pub FitsNoKept : Limits → Entry → List Bio → Type 0
FitsNoKept limits old newcomer = (w : Entered) → old ≡ summary w → IsRequest w.bios → (s : Side) → Fits limits w.bios newcomer s → ⊥

-- the request under an id, where it was released
unfoldable pub request_at : Setup → List Happened → ℕ → Option Entered
request_at setup events id = cond (has_id (released_ids events) id) (Some (entered_at setup events id)) None

-- how far a request has come, by whether it is gone and whether it was ever issued
abbrev pub stage_of : Bool → Bool → Stage
stage_of gone ever = cond gone Gone (cond ever Requeued Waits)

abbrev pub known_as : Bool → Bool → Entered → Known
known_as gone ever w = record { stage = stage_of gone ever; entry = summary w }

-- what is kept under an id: nothing of one that was not released
unfoldable pub known_of : Setup → List Happened → ℕ → Option Known
known_of setup events id = option_map (known_as (has_id (issued_ids events) id) (was_issued events id)) (request_at setup events id)

-- the same at another stage
abbrev pub at_stage : Stage → Known → Known
at_stage stage k = record { stage = stage; entry = k.entry }

-- whether a request was issued, and not requeued since
abbrev pub has_gone : Stage → Bool
has_gone Gone = true
has_gone _ = false

abbrev pub is_gone : Option Known → Bool
is_gone k = option_map_or (λ k. has_gone k.stage) k false

-- whether two ids of bios are one
abbrev pub is_bio : BioId → BioId → Bool
is_bio x y = (x.submitter == y.submitter) && (x.serial == y.serial)

-- a set of ids of two numbers, as one of ids
abbrev pub has_named : (ℕ → ℕ → Bool) → BioId → Bool
has_named has id = has id.submitter id.serial

-- whether a bio of the id is among the bios
abbrev pub has_bio_id : List Bio → BioId → Bool
has_bio_id bios id = list_any (λ b. is_bio b.id id) bios

-- the Issue at the place is in flight under the tag
pub record IsFlyingAt (issues : List Issued) (place tag : ℕ) : Type 0 where
  pub issue : Issued
  pub there : slice_get issues place ≡ Some issue
  pub under : issue.tag ≡ tag
  pub flies : issue.outcome ≡ Flying

-- the tags of the Issues, in their order
abbrev pub tags_of : List Issued → List ℕ
tags_of issues = map (λ i. i.tag) issues

-- of these tags the last that is this one stands at the place; where there is no place, none is this one
abbrev pub IsLast : List ℕ → ℕ → Option ℕ → Type 0
IsLast tags tag None = (k : ℕ) → slice_get tags k ≡ Some tag → ⊥
IsLast tags tag (Some place) = (slice_get tags place ≡ Some tag) × ((k : ℕ) → slice_get tags k ≡ Some tag → k ≤ place)

-- each tag has the place of the last Issue under it
abbrev pub AreLast : List Issued → List (Option ℕ) → Type 0
AreLast issues places = (tag : ℕ) (place : Option ℕ) → slice_get places tag ≡ Some place → IsLast (tags_of issues) tag place

-- no tag from the bound on was issued in this round, and the one below it was
pub record IsUnusedFrom (events : List Happened) (depth bound : ℕ) : Type 0 where
  pub within : bound ≤ depth
  pub unused : (tag : ℕ) → bound ≤ tag → IsUsed events tag → ⊥
  pub used : (tag : ℕ) → bound ≡ tag + 1 → IsUsed events tag

-- what is kept is what the events say
pub record IsKeptTrace (setup : Setup) (events : List Happened) (issued : List Issued) (round opened : ℕ) (known : ℕ → Option Known) (ids : BioId → Bool) (tags : List (Option ℕ)) : Type 0 where
  pub ranges : IsSetup setup
  pub legal : IsLegalTrace setup events
  pub issued_are : issued ≡ issues_of events
  pub round_is : round ≡ round_of events
  pub open_is : opened ≡ open_count events
  pub known_are : (id : ℕ) → known id ≡ known_of setup events id
  pub requests_are : (id : ℕ) → has_id (released_ids events) id ≡ true → IsRequest (request_of events id)
  pub ids_are : (id : BioId) → ids id ≡ has_bio_id (entered events) id
  pub tags_are : AreLast issued tags
  pub each_tag : length tags ≡ setup.depth

-- the depth of the round that is on, and that of the next one as things stand
pub record HasDepths (setup : Setup) (events : List Happened) (now next : ℕ) : Type 0 where
  pub now_is : now ≡ depth_now setup events
  pub next_is : next ≡ depth_in setup events (round_of events + 1)

-- the trace was prepared for the event, and is else as it was
abbrev pub IsReadyFor : Happened → Traced → Traced → Type 0
IsReadyFor e old new = IsPreparedFor new.prepared e × (new.setup ≡ old.setup) × (new.events ≡ old.events)

-- places for events that were made: an Issue needs its own and its Done's
abbrev pub event_room : Prepared → ℕ
event_room Nothing = 0
event_room AnIssue = 2
event_room (Bios _) = 1

-- places for Issues that were made
abbrev pub issue_room : Prepared → ℕ
issue_room Nothing = 0
issue_room AnIssue = 1
issue_room (Bios _) = 0

-- places for requests that were made
abbrev pub request_room : Prepared → ℕ
request_room Nothing = 0
request_room AnIssue = 0
request_room (Bios _) = 1

-- places for bios that were made
abbrev pub bio_room : Prepared → ℕ
bio_room Nothing = 0
bio_room AnIssue = 0
bio_room (Bios n) = n

-- there is room for each open Issue's Done, and for what was prepared
pub record HasRoom (prepared : Prepared) (events opened issued places issued_places known_spare ids_spare : ℕ) : Type 0 where
  pub for_events : events + opened + event_room prepared ≤ places
  pub for_issue : issued + issue_room prepared ≤ issued_places
  pub for_request : request_room prepared ≤ known_spare
  pub for_bios : bio_room prepared ≤ ids_spare
