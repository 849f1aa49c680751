-- Bios that wait past the round in which their request is due.
use Rattle.std.specs.Prelude.{ℕ, Bool, false, cond, nat_lt, List, []}
use Rattle.std.specs.Option.{option_map_or}
use Rattle.std.specs.List.{flat_map}
use Rattle.blk_bio.specs.Bios.{Bio}
use Rattle.blk_trace.specs.Happened.{Happened}
use Rattle.blk_trace.specs.Kinds.{enters}
use Rattle.blk_trace.specs.Setups.{Setup}
use Rattle.blk_trace.specs.Events.{round_of}
use Rattle.blk_trace.specs.Waits.{waits_at}

-- a request waits under the id at the end, and the round that is on then is above its due round
abbrev pub is_overdue : Setup → List Happened → ℕ → Bool
is_overdue setup events id = option_map_or (λ w. nat_lt w.due (round_of events)) (waits_at setup events id) false

-- the bios that enter by the event, where that is under such an id
abbrev pub bios_under : (ℕ → Bool) → Happened → List Bio
bios_under test e = option_map_or (λ p. cond (test p.0) p.1 []) (enters e) []

-- the bios of these requests, in the order in which they entered
unfoldable pub overdue_of : Setup → List Happened → List Bio
overdue_of setup events = flat_map (bios_under (is_overdue setup events)) events
