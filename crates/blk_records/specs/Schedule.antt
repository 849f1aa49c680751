-- A schedule: a title, and a record for each command with its round.
use Rattle.std.specs.Prelude.{◌≡◌, ◌≢◌, ◌≤◌, ◌<◌, ℕ, List, length, All, slice_index_or}
use Rattle.std.specs.List.{zip}
use Rattle.edd_commands.specs.declared.TheConstants.{MAX_COMMANDS, MAX_ROUNDS}
use Rattle.edd_commands.specs.declared.steps.TheConstants.{MAX_DEPTH}
use Rattle.edd_commands.specs.declared.Command.{Command}
use Rattle.blk_records.specs.Sources.{Row}
use Rattle.blk_records.specs.Commands.{IsCommandInRange}
use Rattle.blk_records.specs.Certificate.{served_record}
use Rattle.blk_records.specs.Reads.{items_of}
use Rattle.blk_records.specs.Titles.{counted_title}
use Rattle.blk_records.specs.declared.schedule.Schedule.{Schedule}
use Rattle.blk_records.specs.declared.schedule.TheConstants.{SCHEDULE}
use Rattle.blk_records.specs.declared.fault.TextReason.{TextReason}
use Rattle.blk_records.specs.declared.fault.TextReason.TheVariants as why
use Rattle.text_grammar.specs.declared.Repeats.TheVariants as repeats
use Rattle.text_grammar.specs.Parts.{Part, then, tested, Spells}

-- a schedule: the depth, the commands, and their rounds by place
pub record ScheduleView : Type 0 where
  pub depth : ℕ
  pub commands : List Command
  pub rounds : List ℕ

abbrev pub viewed : Schedule → ScheduleView
viewed s = record { depth = s.depth; commands = s.commands.items; rounds = s.rounds.items }

-- no two commands have the same id
abbrev pub AreDistinct : List Command → Type 0
AreDistinct commands = (j k : ℕ) (d : Command) → j < k → k < length commands → (slice_index_or commands j d).id ≢ (slice_index_or commands k d).id

-- a round for each command, no id twice, and each number in its range; whether it is legal is not looked at
pub record IsScheduleView (s : ScheduleView) : Type 0 where
  pub depth : (1 ≤ s.depth) × (s.depth ≤ MAX_DEPTH)
  pub few : length s.commands ≤ MAX_COMMANDS
  pub one_each : length s.rounds ≡ length s.commands
  pub commands : All IsCommandInRange s.commands
  pub rounds : All (λ x. x < MAX_ROUNDS) s.rounds
  pub distinct : AreDistinct s.commands

-- none of the commands before has the id of this one
abbrev pub IsNew : List (Command × ℕ) → Command × ℕ → Type 0
IsNew before s = All (λ b. b.0.id ≢ s.0.id) before

-- and one that does
abbrev pub IsRepeated : List (Command × ℕ) → Command × ℕ → ℕ → TextReason → Type 0
IsRepeated before s k w = (k ≡ 1) × (w ≡ why.RepeatedId) × ¬ IsNew before s

abbrev pub schedule_title : Part Row TextReason (ℕ × (ℕ × ℕ))
schedule_title = counted_title SCHEDULE

-- a command with its round, after those before it
abbrev pub new_record : List (Command × ℕ) → Part Row TextReason (Command × ℕ)
new_record before = tested served_record (IsNew before) (IsRepeated before)

-- this number of commands
abbrev pub schedule_body : ℕ → Part Row TextReason (List (Command × ℕ))
schedule_body count = items_of (repeats.Exactly count) new_record

-- a title with the depth and the number of commands, and exactly that many commands with their rounds
abbrev pub schedule_form : Part Row TextReason ((ℕ × (ℕ × ℕ)) × List (Command × ℕ))
schedule_form = then schedule_title (λ t. schedule_body t.1.1)

-- what the records of a schedule tell
abbrev pub schedule_value : ScheduleView → (ℕ × (ℕ × ℕ)) × List (Command × ℕ)
schedule_value s = ((SCHEDULE.latest, (s.depth, length s.commands)), zip s.commands s.rounds)

-- the records of a schedule
abbrev pub schedule_rows : ScheduleView → List Row
schedule_rows s = schedule_form.rows_of (schedule_value s)

-- the records spell this schedule
abbrev pub SpellsSchedule : List Row → ScheduleView → Type 0
SpellsSchedule rows s = (length s.rounds ≡ length s.commands) × Spells schedule_form rows (schedule_value s)

-- the first fault of a schedule
abbrev pub ScheduleFault : List Row → ℕ → TextReason → Type 0
ScheduleFault = schedule_form.Wrong
