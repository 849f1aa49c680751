-- What replay says of a list of events, and what the state that it leaves says of the places of the list.
use Rattle.std.specs.Prelude.{ℕ, ◌≡◌, ◌<◌, ◌+◌, ◌↔◌, ◌++◌, List, [], ◌∷◌, Some, None, Ok, Err, count_by, map, take, length, slice_get, IsOk, IfOk}
use Rattle.blk_bio.specs.declared.rule.TraceRule.{TraceRule}
use Rattle.blk_trace.specs.declared.event.Event.TheVariants.{Issue}
use Rattle.blk_trace.specs.Happened.{Happened}
use Rattle.blk_trace.specs.Kinds.{is_issue}
use Rattle.blk_trace.specs.Setups.{Setup}
use Rattle.blk_trace.specs.Events.{At, EndsAt, EntersRequest, IsRequeued, round_of, round_at, request_of}
use Rattle.blk_trace.specs.Depths.{depth_in, depth_now}
use Rattle.blk_trace.specs.Meaning.{release_of, due_of, released_ids}
use Rattle.blk_trace.specs.Legal.{IsLegalTrace}
use Rattle.blk_trace.specs.Rules.{BreaksNoRule, IsFirstBroken}
use Rattle.blk_trace.specs.declared.issued.Outcome.{Outcome}
use Rattle.blk_trace.specs.declared.issued.Outcome.TheVariants as outcome
use Rattle.blk_trace.specs.declared.issued.Issued.{Issued}
use Rattle.blk_trace_state.specs.State.{Entry, LayerState, next_state}
use Rattle.blk_trace_state.specs.Replay.{first_broken, replay}

-- what enters by each event is a request
abbrev pub AreRequests : List Happened → Type 0
AreRequests events = (k : ℕ) (e : Happened) → At events k e → EntersRequest e

-- the event at the place is the first that breaks a rule, and this is the first that it breaks
abbrev pub IsFirstIllegal : Setup → List Happened → ℕ → TraceRule → Type 0
IsFirstIllegal setup events at rule =
    IsLegalTrace setup (take at events) × ((e : Happened) × At events at e × IsFirstBroken setup (take at events) e rule)

-- replay answers a state exactly where the list is legal
abbrev pub AnswersWhereLegal : Setup → List Happened → Type 0
AnswersWhereLegal setup events = IsLegalTrace setup events ↔ (AreRequests events × IsOk (replay setup events))

-- and a place with a rule exactly where the event there is the first that breaks a rule
abbrev pub AnswersFirstIllegal : Setup → List Happened → Type 0
AnswersFirstIllegal setup events =
    (at : ℕ) (rule : TraceRule) → AreRequests events → (replay setup events ≡ Err (at, rule)) ↔ IsFirstIllegal setup events at rule

-- the state tells the first rule that one more event breaks, and whether it breaks none
abbrev pub TellsFirstBroken : Setup → List Happened → LayerState → Type 0
TellsFirstBroken setup events s = (e : Happened) (rule : TraceRule) → (first_broken setup s e ≡ Some rule) ↔ IsFirstBroken setup events e rule

abbrev pub TellsUnbroken : Setup → List Happened → LayerState → Type 0
TellsUnbroken setup events s = (e : Happened) → (first_broken setup s e ≡ None) ↔ BreaksNoRule setup events e

-- and what the list with an event more leaves
abbrev pub GivesNext : Setup → List Happened → LayerState → Type 0
GivesNext setup events s = (e : Happened) → BreaksNoRule setup events e → replay setup (events ++ e ∷ []) ≡ Ok (next_state setup s e)

-- it holds of the state that each legal list leaves
abbrev pub Leaves : (Setup → List Happened → LayerState → Type 0) → Type 0
Leaves P = (setup : Setup) (events : List Happened) → IsLegalTrace setup events → IfOk (replay setup events) (P setup events)

-- what became of the tag's Issue at the place: no later event ends it, the first that does is a Done, or it is a Back
abbrev pub IsOutcome : List Happened → ℕ → ℕ → Outcome → Type 0
IsOutcome events k tag outcome.Flying = (j : ℕ) → k < j → EndsAt events j tag → ⊥
IsOutcome events k tag outcome.Done = ((j : ℕ) × (k < j) × EndsAt events j tag) × (IsRequeued events k tag → ⊥)
IsOutcome events k tag outcome.Back = IsRequeued events k tag

-- the Issue of the event at the place
pub record IsIssueAt (events : List Happened) (k : ℕ) (i : Issued) : Type 0 where
  pub stands : At events k (Issue i.id i.tag)
  pub round_is : i.round ≡ round_at events k
  pub outcome_is : IsOutcome events k i.tag i.outcome

-- the request that the id's Release and Joins make up, with the rounds of its release and due
abbrev pub entry_of : Setup → List Happened → ℕ → Entry
entry_of setup events id = record { id = id; release = release_of events id; due = due_of setup events id; bios = request_of events id }

-- what the state holds, field by field; an event that issues has its Issue where as many stand before it
pub record IsStateOf (setup : Setup) (events : List Happened) (s : LayerState) : Type 0 where
  pub events_are : s.events ≡ length events
  pub round_is : s.round ≡ round_of events
  pub depth_is : s.depth ≡ depth_now setup events
  pub next_depth_is : s.next_depth ≡ depth_in setup events (round_of events + 1)
  pub entries_are : s.entries ≡ map (entry_of setup events) (released_ids events)
  pub each_issued : (k id tag : ℕ) → At events k (Issue id tag) → (i : Issued) × (slice_get s.issued (count_by is_issue (take k events)) ≡ Some i) × IsIssueAt events k i
  pub none_else : length s.issued ≡ count_by is_issue events
