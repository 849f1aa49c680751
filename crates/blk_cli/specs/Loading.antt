-- What a load comes to.
use Rattle.std.specs.Prelude.{◌≡◌, ◌∷◌, ⊤, ℕ, Bool, true, false, List, [], Result, Ok, Err}
use Rattle.answer.specs.declared.names.TheConstants as names
use Rattle.answer.specs.declared.value.Value.TheVariants.{Count}
use Rattle.answer.specs.declared.answer.Part.{Part}
use Rattle.answer.specs.declared.answer.Part.TheVariants.{Member}
use Rattle.blk_schedulers.specs.declared.sched.Sched.{Sched}
use Rattle.blk_cli.specs.declared.failure.Failure.{Failure}
use Rattle.blk_cli.specs.declared.failure.Failure.TheVariants as failure
use Rattle.blk_schedulers.specs.Made.{IsLoadSettingsFault}
use Rattle.blk_schedulers.specs.Ran.{IsRunUnder}
use Rattle.blk_schedulers.specs.Settles.{IsSettled, served_bios}
use Rattle.blk_schedulers.specs.declared.Loaded.{Loaded}
use Rattle.blk_schedulers.specs.declared.Settled.{Settled}
use Rattle.blk_schedulers.specs.declared.Unsettled.{Unsettled}
use Rattle.blk_schedulers.specs.declared.numbers.Load.{Load}
use Rattle.blk_trace.specs.Events.{AreOnce}
use Rattle.blk_trace.specs.Traces.{Traced}
use Rattle.blk_args.specs.declared.inputs.ShownLoad.{ShownLoad}
use Rattle.blk_args.specs.declared.inputs.ShownLoad.TheVariants as shown
use Rattle.blk_cli.specs.Forms.{written_in}
use Rattle.blk_cli.specs.Said.{Said, IsAlone}
use Rattle.blk_cli.specs.OfTraces.{IsTraceText}

-- what came of a load: how many bios were accepted, served and left
abbrev pub load_parts : Settled → List Part
load_parts s = Member names.ACCEPTED.now (Count s.accepted) ∷ Member names.SERVED.now (Count s.served) ∷ Member names.LEFT.now (Count s.left) ∷ []

-- the text on it: this in a form, or the text that spells its trace
abbrev pub IsLoadText : ShownLoad → Traced → Settled → List ℕ → Type 0
IsLoadText (shown.Account f) trace s text = text ≡ written_in f (load_parts s)
IsLoadText shown.Trace trace s text = IsTraceText trace text

-- what `load` writes, of the trace of its layer, which is one that the scheduler makes, and of what it came to by this, where no two
-- bios have one id
pub record IsLoadOf (s : Sched) (w : ShownLoad) (l : Load) (text : List ℕ) : Type 0 where
  pub trace : Traced
  pub settled : Settled
  pub ran : IsRunUnder s l.depth trace
  pub is_settled : IsSettled l trace settled
  pub once : AreOnce (served_bios trace.events)
  pub is_text : IsLoadText w trace settled text

-- what is said beside it: nothing, or, where it is asked for, how long it took
abbrev pub SaysTimes : Bool → Said → Type 0
SaysTimes true s = s.good ≡ true
SaysTimes false s = IsAlone s

-- why a load comes to nothing: its scheduler isn't made, or the load fails; nothing is read
abbrev pub IsLoadFailure : Sched → Load → Failure → Type 0
IsLoadFailure s l (failure.Load f) = IsLoadSettingsFault s l f
IsLoadFailure s l failure.Memory = ⊤
IsLoadFailure s l f = ⊥

-- a text of a load under this scheduler with these numbers: what it ended with, where it ended so
pub record IsTextOfRun (ends_as : Sched → Load → Result Loaded Unsettled → Type 0) (s : Sched) (l : Load) (w : ShownLoad) (text : List ℕ) : Type 0 where
  pub loaded : Loaded
  pub ended : ends_as s l (Ok loaded)
  pub is_text : IsLoadText w loaded.trace loaded.settled text

-- and what is told of one: what it failed with, or that memory ran out
abbrev pub IsFailureOfRun : (Sched → Load → Result Loaded Unsettled → Type 0) → Sched → Load → Failure → Type 0
IsFailureOfRun ends_as s l (failure.Load f) = ends_as s l (Err f)
IsFailureOfRun ends_as s l f = f ≡ failure.Memory
