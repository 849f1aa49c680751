-- What a step of a script does to a simulation, and what its steps do one after the other.
use Rattle.std.specs.Prelude.{ℕ, [], ◌∷◌, ◌≡◌, ◌+◌, ◌<◌, List, Option, length}
use Rattle.edd_commands.specs.declared.Command.{Command}
use Rattle.blk_core.specs.Calls.{Completes, RequeuesTag, SetsDepth}
use Rattle.blk_core.specs.Faults.{CanSetDepth}
use Rattle.blk_sched.specs.Meaning.{Meaning}
use Rattle.blk_trace.specs.Events.{round_of}
use Rattle.blk_trace.specs.Happened.{Happened}
use Rattle.blk_trace.specs.Setups.{Setup}
use Rattle.blk_text.specs.Script.{Scripted, LineFits}
use Rattle.blk_text.specs.declared.script.Line.{Line}
use Rattle.blk_text.specs.declared.script.Line.TheVariants as line
use Rattle.blk_sim.specs.State.{SimState, start_of}
use Rattle.blk_sim.specs.Simulated.{Placing, Stands, stepped}
use Rattle.blk_sim.specs.Moves.{AddsBio, EmptiesPlug, Drains}
use Rattle.blk_sched.specs.Policies.{Policy}
use Rattle.blk_sim.specs.Rounds.{AsksQueue, Ticks, Rounds}

-- what an accepted step does
abbrev pub Steps : Policy → SimState → Line → SimState → Type 0
Steps policy old (line.Bio b) new = AddsBio old.plugs b new.plugs × (new.queues ≡ old.queues) × (new.core ≡ old.core)
Steps policy old (line.Flush s) new = EmptiesPlug old.plugs old.queues s new.plugs new.queues × (new.core ≡ old.core)
Steps policy old (line.Drain hw) new = Drains policy old.core.setup.hw hw old.queues old.core new.queues new.core × (new.plugs ≡ old.plugs)
Steps policy old (line.Issue hw tag) new =
    (found : Option Command) × AsksQueue policy hw tag old.core found new.core × (new.plugs ≡ old.plugs) × (new.queues ≡ old.queues)
Steps policy old (line.Done tag) new = Completes policy.told_done old.core tag new.core × (new.plugs ≡ old.plugs) × (new.queues ≡ old.queues)
Steps policy old (line.Back tag) new =
    (id : ℕ) × RequeuesTag old.core tag id new.core × (new.plugs ≡ old.plugs) × (new.queues ≡ old.queues)
Steps policy old (line.Depth n) new =
    CanSetDepth old.core n × SetsDepth old.core n new.core × (new.plugs ≡ old.plugs) × (new.queues ≡ old.queues)
Steps policy old line.Tick new = Ticks policy old.core new.core × (new.plugs ≡ old.plugs) × (new.queues ≡ old.queues)
Steps policy old (line.Run n) new = Rounds policy n old.queues old.core new.queues new.core × (new.plugs ≡ old.plugs)

-- such a step leaves each bio where it moves it
abbrev pub KeepsBook : Policy → SimState → Line → SimState → Type 0
KeepsBook policy old l new = (book : List Placing) → 0 < old.core.setup.hw → length old.queues ≡ length old.plugs
    → LineFits old.core.setup.hw (length old.plugs) l → Steps policy old l new
    → Stands book old.plugs old.queues old.core.events → Stands (stepped old.core.setup.hw l book) new.plugs new.queues new.core.events

-- n rounds ended
abbrev pub TakesRounds : ℕ → SimState → SimState → Type 0
TakesRounds n old new = round_of new.core.events ≡ round_of old.core.events + n

-- accepted steps, one after the other, lead from one simulation to another
unfoldable pub Runs : Policy → List Line → SimState → SimState → Type 0
Runs policy [] old new = new ≡ old
Runs policy (l ∷ ls) old new = (middle : SimState) × Steps policy old l middle × Runs policy ls middle new

-- all steps of a script lead from the start to a simulation with this setup and these events
abbrev pub LeadsTo : Policy → Scripted → Meaning → List ℕ → Setup → List Happened → Type 0
LeadsTo policy script meaning kept setup events =
    (end : SimState) × Runs policy script.lines (start_of script meaning kept) end × (setup ≡ end.core.setup) × (events ≡ end.core.events)
