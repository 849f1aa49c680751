-- An event that is allowed breaks no rule.
use Rattle.std.proofs.Common.{◌≡◌, ◌≤◌, ◌+◌, ℕ, List, length, subst, arith, refl, Option, Some, None, IfSome}
use Rattle.std.proofs.lemmas.Bool.{both_ways}
use Rattle.blk_bio.specs.Requests.{Fits}
use Rattle.blk_bio.specs.declared.rule.TraceRule.TheVariants.{ReleasedTwice, Unknown, AlreadyIssued, BioTwice, Fit, TagRange, TagUsed, NotIssued, InFlight, TooLong, DepthRange}
use Rattle.blk_trace.specs.declared.trace.TheConstants.{MAX_EVENTS}
use Rattle.blk_trace.specs.Happened.{Happened, Tick, Release, Join, Issue, Depth}
use Rattle.blk_trace.specs.Kinds.{issues, ends}
use Rattle.blk_trace.specs.Setups.{Setup}
use Rattle.blk_trace.specs.Events.{open_count, IsIssued, IsOpen}
use Rattle.blk_trace.specs.Legal.{IsLegalTrace}
use Rattle.blk_trace.specs.Rules.{Obeys, BreaksNoRule}
use Rattle.blk_trace.specs.Waits.{Entered, unissued_at}
use Rattle.blk_trace.specs.Inside.Allowed.{IsAllowed, MayEnd, places_of}
use Rattle.blk_trace.proofs.Words.{OnlyEnds, only_ends, if_some}
use Rattle.blk_trace.proofs.Room.{room_kept, room_issue, room_end}
use Rattle.blk_trace.proofs.Ids.{has_released, issued_was, back_all}
use Rattle.blk_trace.proofs.Unissued.{unissued_from}
use Rattle.blk_trace.proofs.Waiting.{IsWaiting, waiting_from}
use Rattle.blk_trace.proofs.Seats.{seat_open, seat_unused}
use Rattle.blk_trace.proofs.Opening.{open-both, open_positive}

-- a request that may be joined waits, and was never issued
joinable : (setup : Setup) (es : List Happened) (id : ℕ) (w : Entered) → unissued_at setup es id ≡ Some w → IsWaiting setup es id w
joinable setup es id w h = waiting_from setup es id w (unissued_from setup es id w h).1

unissued : (setup : Setup) (es : List Happened) (id : ℕ) (w : Entered) → unissued_at setup es id ≡ Some w → IsIssued es id → ⊥
unissued setup es id w h p = both_ways _ (unissued_from setup es id w h).0 (issued_was es id p)

-- what is allowed of an event that ends an Issue
allowed_end : (setup : Setup) (events : List Happened) (e : Happened) (tag : ℕ) → ends e ≡ Some tag → IsAllowed setup events e → MayEnd events tag
allowed_end setup events e tag end allowed =
    let only : OnlyEnds e = only_ends e tag end in
    rw (only.no_release, only.no_join, only.no_issue, end) at allowed

ends_open : (setup : Setup) (events : List Happened) (e : Happened) → IsLegalTrace setup events → IsAllowed setup events e → IfSome (ends e) (IsOpen events)
ends_open setup events e legal allowed =
    if_some (ends e) (IsOpen events) (λ tag end. let may = allowed_end setup events e tag end allowed in seat_open events tag may.0 may.1)

-- the places that are taken with one more event
enough : (setup : Setup) (events : List Happened) (e : Happened) (o : Option ℕ) → ends e ≡ o → issues e ≡ None → IsLegalTrace setup events → IsAllowed setup events e → length events + open_count events + places_of e ≤ MAX_EVENTS → Obeys setup events e TooLong
enough setup events e None none i legal allowed room =
    let one : places_of e ≡ 1 = rw (i, none) refl in
    room_kept setup events e i none (omega (arith, room, one))
enough setup events e (Some tag) end i legal allowed room =
    let may = allowed_end setup events e tag end allowed in
    room_end setup events e tag end legal (seat_open events tag may.0 may.1)

pub allowed-unbroken : (setup : Setup) (events : List Happened) (e : Happened) → IsLegalTrace setup events → IsAllowed setup events e → length events + open_count events + places_of e ≤ MAX_EVENTS → BreaksNoRule setup events e
allowed-unbroken setup events (Release id bios) legal allowed room ReleasedTwice = allowed.0
allowed-unbroken setup events (Join id bios) legal allowed room Unknown = has_released events id (joinable setup events id allowed.0 allowed.2).released
allowed-unbroken setup events (Issue id tag) legal allowed room Unknown = has_released events id (waiting_from setup events id allowed.0 allowed.1).released
allowed-unbroken setup events (Join id bios) legal allowed room AlreadyIssued = unissued setup events id allowed.0 allowed.2
allowed-unbroken setup events (Issue id tag) legal allowed room AlreadyIssued = back_all events id (waiting_from setup events id allowed.0 allowed.1).unissued
allowed-unbroken setup events (Release id bios) legal allowed room BioTwice = allowed.2
allowed-unbroken setup events (Join id bios) legal allowed room BioTwice = allowed.4
allowed-unbroken setup events (Release id bios) legal allowed room Fit = allowed.1
allowed-unbroken setup events (Join id bios) legal allowed room Fit = (allowed.1, subst (λ l. Fits setup.limits l bios allowed.1) (joinable setup events id allowed.0 allowed.2).bios_is allowed.3)
allowed-unbroken setup events (Issue id tag) legal allowed room TagRange = allowed.2
allowed-unbroken setup events (Issue id tag) legal allowed room TagUsed = seat_unused events tag allowed.3
allowed-unbroken setup events e legal allowed room NotIssued = ends_open setup events e legal allowed
allowed-unbroken setup events Tick legal allowed room InFlight = λ tag o. absurd (omega (arith, allowed.0, allowed.1, open_positive setup events tag legal o, open-both setup events legal))
allowed-unbroken setup events (Issue id tag) legal allowed room TooLong = room_issue setup events id tag legal room
allowed-unbroken setup events e legal allowed room TooLong = enough setup events e (ends e) refl refl legal allowed room
allowed-unbroken setup events (Depth depth) legal allowed room DepthRange = allowed
allowed-unbroken setup events e legal allowed room rule = tt
