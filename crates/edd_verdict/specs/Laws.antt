-- What holds of each late command of a legal schedule, and of the verdicts of all.
use Rattle.std.specs.Prelude.{ℕ, ◌≡◌, ◌≤◌, ◌<◌, ◌+◌, ◌↔◌, List, Option, length}
use Rattle.edd_commands.specs.declared.Command.{Command}
use Rattle.edd_check.specs.declared.Window.{Window}
use Rattle.edd_commands.specs.declared.steps.Step.{Step}
use Rattle.edd_commands.specs.Capacity.{IsCapacity}
use Rattle.edd_commands.specs.Schedule.{IsLegal}
use Rattle.edd_check.specs.OnTime.{number_on_time, IsMostOnTime}
use Rattle.edd_verdict.specs.declared.Verdict.{Verdict}
use Rattle.edd_verdict.specs.Filled.{IsFilled, IsAround}
use Rattle.edd_verdict.specs.Verdicts.{IsLate, CanBeOnTime, IsSpare, Keeps, IsVerdict, AreVerdicts, arrivals_in, fulls_in, spares_in}

-- if the schedule is legal, it holds of each late command, here by its place
abbrev pub OfEachLate : (List Command → List ℕ → List Step → ℕ → Type 0) → List Command → List ℕ → List Step → Type 0
OfEachLate P commands rounds steps = (k : ℕ) → IsLegal commands rounds steps → IsCapacity steps → k < length commands → IsLate commands rounds k
    → P commands rounds steps k

-- there is exactly one verdict of the command at place k
abbrev pub HasOneVerdict : List Command → List ℕ → List Step → ℕ → Type 0
HasOneVerdict commands rounds steps k = (verdict : Verdict) × IsVerdict commands rounds steps k verdict × ((other : Verdict) → IsVerdict commands rounds steps k other → other ≡ verdict)

-- the command at place k is spare exactly where it could be on time at all and lies in no filled window
abbrev pub SpareMeansFree : List Command → List ℕ → List Step → ℕ → Type 0
SpareMeansFree commands rounds steps k = IsSpare commands rounds steps k ↔ (CanBeOnTime commands k × ((w : Window) → IsFilled commands rounds steps w → IsAround commands w k → ⊥))

-- if the schedule is legal, its commands have verdicts
abbrev pub HaveVerdicts : List Command → List ℕ → List Step → Type 0
HaveVerdicts commands rounds steps = IsLegal commands rounds steps → (verdicts : List (Option Verdict)) × AreVerdicts commands rounds steps verdicts

-- if the schedule is legal, it holds of the verdicts of its commands
abbrev pub OfVerdicts : (List Command → List ℕ → List Step → List (Option Verdict) → Type 0) → List Command → List ℕ → List Step → Type 0
OfVerdicts P commands rounds steps = (verdicts : List (Option Verdict)) → IsLegal commands rounds steps → AreVerdicts commands rounds steps verdicts → P commands rounds steps verdicts

-- each command is on time, or late on arrival, full or spare
abbrev pub KindsAddUp : List Command → List ℕ → List Step → List (Option Verdict) → Type 0
KindsAddUp commands rounds steps verdicts = length commands ≡ number_on_time commands rounds + (arrivals_in verdicts + fulls_in verdicts + spares_in verdicts)

-- no legal schedule has more commands on time than are on time here and are spare
abbrev pub SparesBoundMost : List Command → List ℕ → List Step → List (Option Verdict) → Type 0
SparesBoundMost commands rounds steps verdicts = (most : ℕ) → IsMostOnTime commands steps most → most ≤ number_on_time commands rounds + spares_in verdicts

-- some legal schedule has more commands on time exactly where one is spare
abbrev pub SpareMeansMore : List Command → List ℕ → List Step → List (Option Verdict) → Type 0
SpareMeansMore commands rounds steps verdicts = (most : ℕ) → IsMostOnTime commands steps most → (number_on_time commands rounds < most) ↔ (0 < spares_in verdicts)

-- if the schedule is legal, some legal schedule has the most on time, all that are on time here among them
abbrev pub MostKeepsOnTime : List Command → List ℕ → List Step → Type 0
MostKeepsOnTime commands rounds steps = (most : ℕ) → IsLegal commands rounds steps → IsMostOnTime commands steps most
    → (best : List ℕ) × IsLegal commands best steps × Keeps commands rounds best × (number_on_time commands best ≡ most)
