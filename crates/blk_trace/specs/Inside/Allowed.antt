-- What may happen next, by what stands.
use Rattle.std.specs.Prelude.{ℕ, ◌≡◌, ◌<◌, ◌≤◌, ◌++◌, true, List, Some, None}
use Rattle.std.specs.Bool.{OnTrue}
use Rattle.std.specs.Option.{MatchOption, option_map_or}
use Rattle.blk_bio.specs.Bios.{Bio}
use Rattle.blk_bio.specs.declared.bio.Dir.{Dir}
use Rattle.blk_bio.specs.declared.bio.Dir.TheVariants.{Read, Write}
use Rattle.blk_bio.specs.declared.request.Side.{Side}
use Rattle.blk_bio.specs.Requests.{IsWithin, Fits}
use Rattle.blk_trace.specs.Happened.{Happened}
use Rattle.blk_trace.specs.Kinds.{releases, joins, issues, ends, sets_depth, is_tick}
use Rattle.blk_trace.specs.Setups.{Setup}
use Rattle.blk_trace.specs.Events.{entered, AreOnce, IsReleased}
use Rattle.blk_trace.specs.Depths.{depth_now}
use Rattle.blk_trace.specs.Waits.{Entered, waits_at, unissued_at}
use Rattle.blk_trace.specs.Inside.Seats.{seat_at, flying_of}

-- a Tick is allowed where no command is in flight
abbrev pub MayTick : List Happened → Type 0
MayTick events = (flying_of events Read ≡ 0) × (flying_of events Write ≡ 0)

-- a request may enter under an id that no request was released under, within the limits and with new bios
abbrev pub MayRelease : Setup → List Happened → ℕ → List Bio → Type 0
MayRelease setup events id bios =
    (IsReleased events id → ⊥) × IsWithin setup.limits bios × AreOnce (entered events ++ bios)

-- new bios may join the request that waits under the id and was never issued, where they fit it
abbrev pub MayJoin : Setup → List Happened → ℕ → List Bio → Type 0
MayJoin setup events id bios =
    (w : Entered) × (side : Side) × (unissued_at setup events id ≡ Some w) × Fits setup.limits w.bios bios side × AreOnce (entered events ++ bios)

-- a request that waits may be issued under a tag below the depth of the round that is free in it
abbrev pub MayIssue : Setup → List Happened → ℕ → ℕ → Type 0
MayIssue setup events id tag =
    (w : Entered) × (waits_at setup events id ≡ Some w) × (tag < depth_now setup events) × (seat_at events tag ≡ None)

-- an Issue may end whose command is in flight
abbrev pub MayEnd : List Happened → ℕ → Type 0
MayEnd events tag = (dir : Dir) × (seat_at events tag ≡ Some (record { dir = dir; in_flight = true }))

-- a Depth may be set that is at least 1 and no more than the setup's
abbrev pub MaySet : Setup → ℕ → Type 0
MaySet setup depth = (0 < depth) × (depth ≤ setup.depth)

-- what may happen next, apart from the number of events
abbrev pub IsAllowed : Setup → List Happened → Happened → Type 0
IsAllowed setup events e =
    MatchOption (releases e)
    (MatchOption (joins e)
    (MatchOption (issues e)
    (MatchOption (ends e)
    (MatchOption (sets_depth e)
    (OnTrue (is_tick e) (MayTick events))
    (λ depth. MaySet setup depth))
    (λ tag. MayEnd events tag))
    (λ p. MayIssue setup events p.0 p.1))
    (λ p. MayJoin setup events p.0 p.1))
    (λ p. MayRelease setup events p.0 p.1)

-- how many places an event asks for: an Issue reserves that of the event that ends it, which asks for none
abbrev pub places_of : Happened → ℕ
places_of e = option_map_or (λ _. 2) (issues e) (option_map_or (λ _. 0) (ends e) 1)
