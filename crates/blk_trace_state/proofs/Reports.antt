-- Issues with their requests, services, what is overdue and boxes, read off the state that a legal list leaves.
use mathlib.Core.List.{reverse-cons}
use Rattle.std.proofs.Common.{◌≡◌, ◌∙◌, ◌∷◌, ℕ, suc, List, [], refl, ap, true, false, map}
use Rattle.std.specs.Prelude.{nat_lt, not, filter, reverse, slice_get, Some}
use Rattle.std.specs.Option.{option_map_or}
use Rattle.std.proofs.lemmas.List.{reverse-append, map-append}
use Rattle.edd_commands.specs.declared.Command.{Command}
use Rattle.blk_bio.specs.Bios.{Bio}
use Rattle.blk_bio.specs.Requests.{dir_of, first_of, sectors_of}
use Rattle.blk_trace.specs.Happened.{Happened}
use Rattle.blk_trace.specs.Setups.{Setup}
use Rattle.blk_trace.specs.Events.{request_of}
use Rattle.blk_trace.specs.declared.issued.Issued.{Issued}
use Rattle.blk_trace.specs.Issues.{issues_of, was_requeued}
use Rattle.blk_trace.specs.Meaning.{released_ids}
use Rattle.blk_trace.specs.Waits.{Entered, has_id, waits_at}
use Rattle.blk_trace.proofs.Ids.{released_first, released_has}
use Rattle.blk_trace.proofs.Issues.{was_so}
use Rattle.blk_report.specs.declared.serving.Service.{Service}
use Rattle.blk_report.specs.Services.{service_of, services_of}
use Rattle.blk_report.specs.Overdue.{is_overdue}
use Rattle.blk_picture.specs.Boxes.{boxes_of}
use Rattle.blk_trace_state.specs.State.{LayerState, command_now}
use Rattle.blk_trace_state.specs.Reports.{service_now, services_now, overdue_now}
use Rattle.blk_trace_state.proofs.Standing.{Stands, bios_of_id}
use Rattle.blk_trace_state.proofs.Projecting.{command_is, waits_are}

-- an Issue with these bios and this command
abbrev with_request : Issued → List Bio → Command → Service
with_request i bios c = record { id = c.id; dir = dir_of bios; first = first_of bios; sectors = sectors_of bios; release = c.release; due = c.due; issue = i.round; tag = i.tag; back = was_requeued i.outcome }

one : (setup : Setup) (events : List Happened) (s : LayerState) → Stands setup events s → (i : Issued) → has_id (released_ids events) i.id ≡ true → service_now s i ≡ service_of setup events i
one setup events s st i h =
    ap (λ l. with_request i l (command_now s i.id)) (bios_of_id setup events s st i.id) ∙ ap (with_request i (request_of events i.id)) (command_is setup events s st i.id h)

all_of : (setup : Setup) (events : List Happened) (s : LayerState) → Stands setup events s → (xs : List Issued) → ((k : ℕ) (i : Issued) → slice_get xs k ≡ Some i → has_id (released_ids events) i.id ≡ true) → map (service_now s) xs ≡ map (service_of setup events) xs
all_of setup events s st [] h = refl
all_of setup events s st (x ∷ xs) h =
    ap (λ y. y ∷ map (service_now s) xs) (one setup events s st x (h 0 x refl)) ∙ ap (λ l. service_of setup events x ∷ l) (all_of setup events s st xs (λ k i at. h (suc k) i at))

pub requests_are : (setup : Setup) (events : List Happened) (s : LayerState) → Stands setup events s → map (service_now s) s.issued ≡ map (service_of setup events) (issues_of events)
requests_are setup events s st =
    ap (map (service_now s)) st.issued_are
    ∙ all_of setup events s st (issues_of events) (λ k i at. let p = released_first setup events i.id st.legal (was_so events k i at) in released_has events p.0 i.id p.1.0 p.1.1)

pub services_are : (setup : Setup) (events : List Happened) (s : LayerState) → Stands setup events s → services_now s ≡ services_of setup events
unfolding services_of
services_are setup events s st = ap (filter (λ (v : Service). not v.back)) (requests_are setup events s st)

pub overdue_are : (setup : Setup) (events : List Happened) (s : LayerState) → Stands setup events s → (id : ℕ) → overdue_now s id ≡ is_overdue setup events id
overdue_are setup events s st id =
    ap (λ o. option_map_or (λ (w : Entered). nat_lt w.due s.round) o false) (waits_are setup events s st id)
    ∙ ap (λ n. option_map_or (λ (w : Entered). nat_lt w.due n) (waits_at setup events id) false) st.round_is

-- ---- boxes

turned : {X Y : Type 0} (f : X → Y) (xs : List X) → reverse (map f (reverse xs)) ≡ map f xs
turned f [] = refl
turned f (x ∷ xs) =
    ap (λ l. reverse (map f l)) (reverse-cons x xs)
    ∙ ap reverse (map-append f (reverse xs) (x ∷ []))
    ∙ reverse-append (map f (reverse xs)) (f x ∷ [])
    ∙ ap (λ l. f x ∷ l) (turned f xs)

pub boxes_are : (setup : Setup) (events : List Happened) → reverse (boxes_of setup events) ≡ map (service_of setup events) (issues_of events)
unfolding boxes_of
boxes_are setup events = turned (service_of setup events) (issues_of events)

pub kept_are : (setup : Setup) (events : List Happened) → filter (λ (b : Service). not b.back) (reverse (boxes_of setup events)) ≡ services_of setup events
unfolding services_of
kept_are setup events = ap (filter (λ (b : Service). not b.back)) (boxes_are setup events)
