-- Scripts whose rounds are all run as a whole, and what is then known as a round ends.
use Rattle.std.specs.Prelude.{⊤, Bool, true, false, List, All}
use Rattle.blk_trace.specs.Happened.{Happened}
use Rattle.blk_trace.specs.Legal.{IsLegalTrace}
use Rattle.blk_trace.specs.Setups.{Setup, IsSetup}
use Rattle.blk_sched.specs.Meaning.{at_start}
use Rattle.blk_text.specs.Script.{Scripted}
use Rattle.blk_text.specs.declared.script.Line.{Line}
use Rattle.blk_text.specs.declared.script.Line.TheVariants as line
use Rattle.blk_sim.specs.Runs.{Runs}
use Rattle.blk_sim.specs.State.{SimState, start_of}
use Rattle.blk_earliest.specs.Choice.{earliest_kept, earliest_policy}
use Rattle.blk_online.specs.Ticks.{AtTicks, IsEarliestNow, ServesOnTimeNow}

-- no step by hand: a bio, a flush, a drain, a depth, or whole rounds
abbrev pub IsByRounds : Line → Type 0
IsByRounds (line.Bio b) = ⊤
IsByRounds (line.Flush s) = ⊤
IsByRounds (line.Drain hw) = ⊤
IsByRounds (line.Issue hw tag) = ⊥
IsByRounds (line.Done tag) = ⊥
IsByRounds (line.Back tag) = ⊥
IsByRounds (line.Depth n) = ⊤
IsByRounds line.Tick = ⊥
IsByRounds (line.Run n) = ⊤

-- what holds as a round ends, by the setting: earliest due first, or of what can still be on time
abbrev pub HoldsNow : Bool → Setup → List Happened → Type 0
HoldsNow false setup events = IsEarliestNow setup events
HoldsNow true setup events = ServesOnTimeNow setup events

-- it holds at each end of a round of the legal trace to which such steps of a script lead under earliest
abbrev pub HoldsByRounds : Bool → Scripted → List Line → SimState → Type 0
HoldsByRounds late_last script steps end = IsSetup script.setup → All IsByRounds steps
    → Runs earliest_policy steps (start_of script (at_start true) (earliest_kept late_last)) end
    → IsLegalTrace script.setup end.core.events
    → AtTicks (HoldsNow late_last script.setup) end.core.events
