-- How many commands of a trace were late, how many had to be, and what waits.
use Rattle.std.specs.Prelude.{◌≡◌, List, length, [], ◌∷◌, ◌++◌}
use Rattle.blk_trace.specs.Happened.{Happened}
use Rattle.blk_trace.specs.Setups.{Setup}
use Rattle.blk_trace.specs.Depths.{capacity_of}
use Rattle.blk_trace.specs.Meaning.{commands_of, rounds_of, waiting_of}
use Rattle.edd_figures.specs.declared.missing.Crowd.{Crowd}
use Rattle.edd_figures.specs.Misses.{AreMisses, HasSpares}
use Rattle.blk_report.specs.declared.missing.Tally.{Tally}
use Rattle.blk_report.specs.Overdue.{overdue_of}
use Rattle.answer.specs.declared.names.TheConstants as names
use Rattle.answer.specs.declared.answer.Part.{Part}
use Rattle.answer.specs.declared.answer.Part.TheVariants.{Member}
use Rattle.answer.specs.declared.value.Value.TheVariants.{Count}
use Rattle.edd_figures.specs.Answers.{crowds_part}

-- what is counted in a trace, and the windows of the fewest
pub record IsTallied (setup : Setup) (events : List Happened) (t : Tally) (windows : List Crowd) : Type 0 where
  pub misses : AreMisses (commands_of setup events) (rounds_of events) (capacity_of setup events) t.commands t.late t.unavoidable t.avoidable windows
  pub spares : HasSpares (commands_of setup events) (rounds_of events) (capacity_of setup events) t.late t.spare
  pub waiting : t.waiting ≡ length (waiting_of events)
  pub overdue : t.overdue ≡ length (overdue_of setup events)

-- how many commands were late and had to be, and the windows that prove it
abbrev pub tally_parts : Tally → List Part
tally_parts t =
    Member names.COMMANDS.now (Count t.commands) ∷ Member names.LATE.now (Count t.late) ∷ Member names.UNAVOIDABLE.now (Count t.unavoidable)
    ∷ Member names.AVOIDABLE.now (Count t.avoidable) ∷ Member names.SPARE.now (Count t.spare) ∷ Member names.WAITING.now (Count t.waiting)
    ∷ Member names.OVERDUE.now (Count t.overdue) ∷ []

abbrev pub misses_parts : Tally → List Crowd → List Part
misses_parts t windows = tally_parts t ++ crowds_part windows ∷ []
