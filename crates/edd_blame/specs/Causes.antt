-- Why a late request was late, beside the requests that were on time.
use Rattle.std.specs.Prelude.{ℕ, ◌≡◌, ◌≤◌, ◌<◌, List, Option, Some, None, length, slice_index, slice_index_or}
use Rattle.edd_commands.specs.declared.Command.{Command}
use Rattle.edd_commands.specs.declared.steps.Step.{Step}
use Rattle.edd_verdict.specs.Filled.{IsFirstFilled}
use Rattle.edd_verdict.specs.Verdicts.{IsLate, IsSpare}
use Rattle.edd_blame.specs.Clock.{CameLate, IsStalled, HadDispatch}
use Rattle.edd_blame.specs.declared.late.Allowance.{Allowance}
use Rattle.edd_blame.specs.declared.late.Cause.{Cause}
use Rattle.edd_blame.specs.declared.late.Cause.TheVariants.{Arrival, Stall, Spare, Full}

-- what each cause says of the late request at place k
abbrev pub IsCause : List Command → List ℕ → List Step → List Allowance → List ℕ → ℕ → Cause → Type 0
IsCause commands rounds steps allowances dispatches k Arrival = (a : Allowance) → CameLate (slice_index_or allowances k a)
IsCause commands rounds steps allowances dispatches k Stall = (a : Allowance) → IsStalled dispatches (slice_index_or allowances k a)
IsCause commands rounds steps allowances dispatches k Spare = IsSpare commands rounds steps k
IsCause commands rounds steps allowances dispatches k (Full w) = ((a : Allowance) → HadDispatch dispatches (slice_index_or allowances k a)) × IsFirstFilled commands rounds steps k w

-- the request at place k has a cause where it is late, and none where it is on time
abbrev pub IsCauseAt : List Command → List ℕ → List Step → List Allowance → List ℕ → ℕ → Option Cause → Type 0
IsCauseAt commands rounds steps allowances dispatches k None = (d : Command) → slice_index rounds k ≤ (slice_index_or commands k d).due
IsCauseAt commands rounds steps allowances dispatches k (Some cause) = IsLate commands rounds k × IsCause commands rounds steps allowances dispatches k cause

-- the causes of all requests, by place
pub record AreCauses (commands : List Command) (rounds : List ℕ) (steps : List Step) (allowances : List Allowance) (dispatches : List ℕ) (causes : List (Option Cause)) : Type 0 where
  pub one_each : length causes ≡ length commands
  pub each : (k : ℕ) → k < length commands → IsCauseAt commands rounds steps allowances dispatches k (slice_index_or causes k None)

-- each late request has exactly one cause
abbrev pub EachLateHasOneCause : List Command → List ℕ → List Step → List Allowance → List ℕ → Type 0
EachLateHasOneCause commands rounds steps allowances dispatches =
    (k : ℕ) → k < length commands → IsLate commands rounds k
    → (cause : Cause) × IsCause commands rounds steps allowances dispatches k cause × ((other : Cause) → IsCause commands rounds steps allowances dispatches k other → other ≡ cause)
