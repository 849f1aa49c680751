-- When the rounds of a layer end.
use Rattle.std.specs.Prelude.{ℕ, ◌≤◌, List, take}
use Rattle.blk_trace.specs.Happened.{Happened}
use Rattle.blk_trace.specs.declared.event.Event.TheVariants.{Tick}
use Rattle.blk_trace.specs.Setups.{Setup}
use Rattle.blk_trace.specs.Events.{At}
use Rattle.blk_trace.specs.Depths.{depth_now}
use Rattle.blk_core.specs.Tries.{issued_now}

-- each round that ended was full: as many commands were issued in it as it carries
abbrev pub EndsFullRounds : Setup → List Happened → Type 0
EndsFullRounds setup events = (k : ℕ) → At events k Tick → depth_now setup (take k events) ≤ issued_now (take k events)
