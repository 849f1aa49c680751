-- Commands that were issued after they were due, what the rounds that they waited went to, and why they were late.
use Rattle.std.specs.Prelude.{ℕ, ◌≡◌, ◌<◌, ◌+◌, ◌-◌, ◌&&◌, Bool, List, All, length, map, filter, count_by, nat_le, nat_lt, slice_index_or, [], ◌∷◌, true}
use Rattle.edd_commands.specs.declared.steps.Step.{Step}
use Rattle.edd_commands.specs.Capacity.{carried}
use Rattle.edd_verdict.specs.declared.Verdict.{Verdict}
use Rattle.edd_verdict.specs.Verdicts.{IsVerdict}
use Rattle.blk_report.specs.declared.serving.Service.{Service}
use Rattle.blk_report.specs.declared.delays.LateCommand.{LateCommand}
use Rattle.blk_trace.specs.Depths.{capacity_of}
use Rattle.blk_trace.specs.Happened.{Happened}
use Rattle.blk_trace.specs.Setups.{Setup}
use Rattle.blk_report.specs.Services.{command_in, services_of}
use Rattle.answer.specs.declared.names.TheConstants as names
use Rattle.answer.specs.declared.answer.Part.{Part}
use Rattle.answer.specs.declared.answer.Part.TheVariants.{Rows}
use Rattle.answer.specs.declared.value.Value.{Value}
use Rattle.answer.specs.declared.value.Value.TheVariants.{Count, Text}
use Rattle.answer.specs.declared.cells.Column.{Column}
use Rattle.answer.specs.Parts.{record_columns}
use Rattle.edd_figures.specs.Answers.{verdict_value, from_value, until_value}
use Rattle.blk_bio.specs.Letters.{direction_text}

-- it was issued after it was due
abbrev pub is_late_service : Service → Bool
is_late_service s = nat_lt s.due s.issue

-- t was issued in one of the rounds from the release of s up to its issue, that one not among them
abbrev pub goes_before : Service → Service → Bool
goes_before s t = nat_le s.release t.issue && nat_lt t.issue s.issue

-- of these how many were due no later than s, and how many later
unfoldable pub sooner_of : List Service → Service → ℕ
sooner_of services s = count_by (λ t. goes_before s t && nat_le t.due s.due) services

unfoldable pub later_of : List Service → Service → ℕ
later_of services s = count_by (λ t. goes_before s t && nat_lt s.due t.due) services

-- by how many rounds a command was late, and what the places of the rounds that it waited went to: together they are what these
-- rounds carry
pub record IsLateCommand (services : List Service) (steps : List Step) (l : LateCommand) : Type 0 where
  pub lateness : l.service.due + l.lateness ≡ l.service.issue
  pub sooner : l.sooner ≡ sooner_of services l.service
  pub later : l.later ≡ later_of services l.service
  pub adds_up : l.sooner + l.later + l.idle ≡ carried steps l.service.release (l.service.issue - l.service.release)

-- what the verdict says of the command at place k, among the commands of these services in their rounds
abbrev pub IsServiceVerdict : List Service → List Step → ℕ → Verdict → Type 0
IsServiceVerdict services steps k verdict = IsVerdict (map command_in services) (map (λ s. s.issue) services) steps k verdict

-- of the verdicts on a late command its own is right, and no other
pub record HasVerdict (services : List Service) (steps : List Step) (l : LateCommand) : Type 0 where
  pub place : ℕ
  pub within : place < length services
  pub stands : (d : Service) → slice_index_or services place d ≡ l.service
  pub right : IsServiceVerdict services steps place l.verdict
  pub only : (other : Verdict) → IsServiceVerdict services steps place other → other ≡ l.verdict

-- all that are late, in their order
pub record AreAllLate (services : List Service) (steps : List Step) (late : List LateCommand) : Type 0 where
  pub commands : map (λ l. l.service) late ≡ filter is_late_service services
  pub each : All (IsLateCommand services steps) late
  pub judged : All (HasVerdict services steps) late

-- those of the trace of these events, under its own capacity
abbrev pub AreLateIn : Setup → List Happened → List LateCommand → Type 0
AreLateIn setup events late = AreAllLate (services_of setup events) (capacity_of setup events) late

-- a late command: its request, its rounds, what it waited for, and why it was late
unfoldable pub late_row : LateCommand → List Value
late_row l =
    Count l.service.id ∷ Text (direction_text l.service.dir) ∷ Count l.service.first ∷ Count l.service.sectors ∷ Count l.service.release ∷ Count l.service.due
    ∷ Count l.service.issue ∷ Count l.lateness ∷ Count l.sooner ∷ Count l.later ∷ Count l.idle
    ∷ verdict_value l.verdict ∷ from_value l.verdict ∷ until_value l.verdict ∷ []

abbrev pub late_columns : List Column
late_columns =
    record_columns (names.ID.now ∷ names.DIR.now ∷ names.FIRST.now ∷ names.SECTORS.now ∷ names.RELEASE.now ∷ names.DUE.now ∷ names.ISSUE.now ∷ names.LATENESS.now
    ∷ names.SOONER.now ∷ names.LATER.now ∷ names.IDLE.now ∷ names.VERDICT.now ∷ names.FROM.now ∷ names.UNTIL.now ∷ [])

abbrev pub late_parts : List LateCommand → List Part
late_parts late = Rows (record { name = names.LATE.now; columns = late_columns; head = true; rows = map late_row late }) ∷ []
