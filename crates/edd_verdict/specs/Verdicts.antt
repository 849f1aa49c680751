-- Why a command was late, beside the commands that were on time.
use Rattle.std.specs.Prelude.{ℕ, ◌≡◌, ◌≤◌, ◌<◌, Bool, true, false, List, Option, Some, None, length, count_by, slice_index, slice_index_or}
use Rattle.edd_commands.specs.declared.Command.{Command}
use Rattle.edd_commands.specs.declared.steps.Step.{Step}
use Rattle.edd_commands.specs.Schedule.{IsLegal}
use Rattle.edd_verdict.specs.declared.Verdict.{Verdict}
use Rattle.edd_verdict.specs.declared.Verdict.TheVariants.{Arrival, Spare, Full}
use Rattle.edd_verdict.specs.Filled.{IsFirstFilled}

-- the command at place k runs after it is due
abbrev pub IsLate : List Command → List ℕ → ℕ → Type 0
IsLate commands rounds k = (d : Command) → (slice_index_or commands k d).due < slice_index rounds k

-- the command at place k is released after it is due
abbrev pub IsLateOnArrival : List Command → ℕ → Type 0
IsLateOnArrival commands k = (d : Command) → (slice_index_or commands k d).due < (slice_index_or commands k d).release

-- it is released by its due round
abbrev pub CanBeOnTime : List Command → ℕ → Type 0
CanBeOnTime commands k = (d : Command) → (slice_index_or commands k d).release ≤ (slice_index_or commands k d).due

-- what is on time in the one schedule is on time in the other
abbrev pub Keeps : List Command → List ℕ → List ℕ → Type 0
Keeps commands rounds other = (j : ℕ) (d : Command) → j < length commands → slice_index rounds j ≤ (slice_index_or commands j d).due → slice_index other j ≤ (slice_index_or commands j d).due

-- some legal schedule has on time all that are on time here, and the command at place k too
pub record IsSpare (commands : List Command) (rounds : List ℕ) (steps : List Step) (k : ℕ) : Type 0 where
  pub schedule : List ℕ
  pub legal : IsLegal commands schedule steps
  pub kept : Keeps commands rounds schedule
  pub on_time : (d : Command) → slice_index schedule k ≤ (slice_index_or commands k d).due

-- what each verdict says of the late command at place k
abbrev pub IsVerdict : List Command → List ℕ → List Step → ℕ → Verdict → Type 0
IsVerdict commands rounds steps k Arrival = IsLateOnArrival commands k
IsVerdict commands rounds steps k Spare = IsSpare commands rounds steps k
IsVerdict commands rounds steps k (Full w) = CanBeOnTime commands k × IsFirstFilled commands rounds steps k w

-- the command at place k has a verdict where it is late, and none where it is on time
abbrev pub IsVerdictAt : List Command → List ℕ → List Step → ℕ → Option Verdict → Type 0
IsVerdictAt commands rounds steps k None = (d : Command) → slice_index rounds k ≤ (slice_index_or commands k d).due
IsVerdictAt commands rounds steps k (Some verdict) = IsLate commands rounds k × IsVerdict commands rounds steps k verdict

-- the verdicts of all commands, by place
pub record AreVerdicts (commands : List Command) (rounds : List ℕ) (steps : List Step) (verdicts : List (Option Verdict)) : Type 0 where
  pub one_each : length verdicts ≡ length commands
  pub each : (k : ℕ) → k < length commands → IsVerdictAt commands rounds steps k (slice_index_or verdicts k None)

abbrev pub is_arrival : Option Verdict → Bool
is_arrival None = false
is_arrival (Some Arrival) = true
is_arrival (Some Spare) = false
is_arrival (Some (Full w)) = false

abbrev pub is_spare : Option Verdict → Bool
is_spare None = false
is_spare (Some Arrival) = false
is_spare (Some Spare) = true
is_spare (Some (Full w)) = false

abbrev pub is_full : Option Verdict → Bool
is_full None = false
is_full (Some Arrival) = false
is_full (Some Spare) = false
is_full (Some (Full w)) = true

-- how many commands were late on arrival, spare and full
unfoldable pub arrivals_in : List (Option Verdict) → ℕ
arrivals_in verdicts = count_by is_arrival verdicts

unfoldable pub spares_in : List (Option Verdict) → ℕ
spares_in verdicts = count_by is_spare verdicts

unfoldable pub fulls_in : List (Option Verdict) → ℕ
fulls_in verdicts = count_by is_full verdicts
