-- The plugs while the records are gone through.
use Rattle.std.specs.Prelude.{◌≡◌, ◌<◌, List, length}
use Rattle.blk_text.specs.declared.script.Line.{Line}
use Rattle.blk_text.specs.declared.script.TheConstants.{MAX_STEPS}
use Rattle.blk_arrivals.specs.declared.builder.ScriptBuilder.{ScriptBuilder}
use Rattle.blk_arrivals.specs.declared.terms.ArrivalsFault.{ArrivalsFault}
use Rattle.blk_arrivals.specs.declared.terms.ArrivalsFault.TheVariants as fault
use Rattle.blk_arrivals.specs.Plugs.{Plugs}

-- the plugs of a capture whose records are gone through
abbrev pub plugs_of : ScriptBuilder → Plugs
plugs_of g = record { now = g.now; bios = g.bios; held = g.held.items }

-- the fault of steps that are more than a script may have
abbrev pub IsTooLong : List Line → ArrivalsFault → Type 0
IsTooLong lines f = (f ≡ fault.TooLong) × (MAX_STEPS < length lines)
