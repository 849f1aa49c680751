-- Schedules, and traces, than which none is better.
use Rattle.std.specs.Prelude.{ℕ, ℤ, ◌≡◌, List}
use Rattle.edd_commands.specs.declared.Command.{Command}
use Rattle.edd_commands.specs.declared.steps.Step.{Step}
use Rattle.edd_commands.specs.Schedule.{IsLegal, IsGreatestLateness, IsLeastLateness}
use Rattle.edd_check.specs.OnTime.{number_on_time, IsMostOnTime}
use Rattle.edd_oracle.specs.Priority.{IsEarliestDueFirst}
use Rattle.blk_trace.specs.Happened.{Happened}
use Rattle.blk_trace.specs.Setups.{Setup}
use Rattle.blk_trace.specs.Depths.{capacity_of}
use Rattle.blk_trace.specs.Meaning.{commands_of, rounds_of}
use Rattle.blk_online.specs.OnTimeFirst.{ServesOnTimeFirst}

-- ---- of commands, under how many each round carries

-- the greatest lateness of each legal schedule by earliest due date first is the least that any legal schedule has
abbrev pub EarliestDueFirstIsLeastLate : List Command → List Step → Type 0
EarliestDueFirstIsLeastLate commands steps = (rounds : List ℕ) → (late : ℤ) → IsLegal commands rounds steps → IsEarliestDueFirst commands rounds steps
    → IsGreatestLateness commands rounds late → IsLeastLateness commands steps late

-- each legal schedule that first serves what can still be on time has as many commands on time as any legal schedule
abbrev pub OnTimeFirstHasMostOnTime : List Command → List Step → Type 0
OnTimeFirstHasMostOnTime commands steps = (rounds : List ℕ) → IsLegal commands rounds steps → ServesOnTimeFirst commands rounds steps
    → IsMostOnTime commands steps (number_on_time commands rounds)

-- ---- of a trace

-- its commands run by earliest due date first
abbrev pub RunsEarliestFirst : Setup → List Happened → Type 0
RunsEarliestFirst setup events = IsEarliestDueFirst (commands_of setup events) (rounds_of events) (capacity_of setup events)

-- what can still be on time of its commands is served first
abbrev pub RunsOnTimeFirst : Setup → List Happened → Type 0
RunsOnTimeFirst setup events = ServesOnTimeFirst (commands_of setup events) (rounds_of events) (capacity_of setup events)

-- its rounds are those of the schedule of its commands by earliest due date first, of which there is one
abbrev pub IsOneSchedule : Setup → List Happened → Type 0
IsOneSchedule setup events = (solved : List ℕ) → IsLegal (commands_of setup events) solved (capacity_of setup events)
    → IsEarliestDueFirst (commands_of setup events) solved (capacity_of setup events)
    → rounds_of events ≡ solved

-- its greatest lateness is the least that any legal schedule of its commands has
abbrev pub HasLeastLateness : Setup → List Happened → Type 0
HasLeastLateness setup events = (late : ℤ) → IsGreatestLateness (commands_of setup events) (rounds_of events) late
    → IsLeastLateness (commands_of setup events) (capacity_of setup events) late

-- its greatest lateness is not the least: some legal schedule of its commands is less late
abbrev pub IsLaterThanLeast : Setup → List Happened → Type 0
IsLaterThanLeast setup events = (late : ℤ) → IsGreatestLateness (commands_of setup events) (rounds_of events) late
    → IsLeastLateness (commands_of setup events) (capacity_of setup events) late → ⊥

-- as many of its commands run no later than they are due as in any legal schedule of them
abbrev pub HasMostOnTime : Setup → List Happened → Type 0
HasMostOnTime setup events = IsMostOnTime (commands_of setup events) (capacity_of setup events) (number_on_time (commands_of setup events) (rounds_of events))
