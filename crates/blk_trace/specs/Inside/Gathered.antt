-- The bios of each request that waits in the end, one event after the other.
use Rattle.std.specs.Prelude.{ℕ, Bool, false, not, ◌&&◌, cond, List, [], Option, Some, None, option_map}
use Rattle.std.specs.Option.{option_map_or}
use Rattle.blk_bio.specs.Bios.{Bio}
use Rattle.blk_trace.specs.Happened.{Happened}
use Rattle.blk_trace.specs.Kinds.{enters, enters_under}
use Rattle.blk_trace.specs.Setups.{Setup}
use Rattle.blk_trace.specs.Events.{join_up, request_of}
use Rattle.blk_trace.specs.Meaning.{released_ids}
use Rattle.blk_trace.specs.Waits.{has_id, waits_at}

-- the bios of the request that waits under the id
abbrev pub waiting_bios : Setup → List Happened → ℕ → Option (List Bio)
waiting_bios setup events id = option_map (λ w. w.bios) (waits_at setup events id)

-- the bios of the request under the id, where it was released and isn't gone in the end
unfoldable pub bios_unless : (ℕ → Bool) → List Happened → ℕ → Option (List Bio)
bios_unless gone events id = cond (has_id (released_ids events) id && not (gone id)) (Some (request_of events id)) None

-- whether bios enter by the event under an id that isn't gone in the end
abbrev pub enters_to_stay : (ℕ → Bool) → Happened → Bool
enters_to_stay gone e = option_map_or (λ p. not (gone p.0)) (enters e) false

-- what is under the id after one more event
abbrev pub with_event : (ℕ → Option (List Bio)) → Happened → ℕ → Option (List Bio)
with_event f e id = option_map_or (λ newcomer. Some (join_up (option_map_or (λ bios. bios) (f id) []) newcomer)) (enters_under id e) (f id)
