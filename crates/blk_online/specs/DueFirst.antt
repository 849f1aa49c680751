-- Schedules that go by due rounds alone: of two that are due in one round either may go first.
use Rattle.std.specs.Prelude.{ℕ, ℤ, ◌≡◌, ◌≤◌, ◌<◌, List, length, slice_index, slice_index_or}
use Rattle.edd_commands.specs.declared.Command.{Command}
use Rattle.edd_commands.specs.declared.steps.Step.{Step}
use Rattle.edd_commands.specs.Capacity.{depth_at}
use Rattle.edd_commands.specs.Schedule.{IsLegal, IsGreatestLateness, IsLeastLateness, places_at}
use Rattle.edd_check.specs.OnTime.{number_on_time, IsMostOnTime}
use Rattle.edd_oracle.specs.OnTime.{IsDelayed}

-- where a released command has to wait, the round is full, and of commands that are due no later
pub record IsDueFirst (commands : List Command) (rounds : List ℕ) (steps : List Step) : Type 0 where
  pub full : (x k : ℕ) (d : Command) → k < length commands → (slice_index_or commands k d).release ≤ x → x < slice_index rounds k → places_at rounds x ≡ depth_at steps x
  pub due_first : (x k p : ℕ) (d : Command) → k < length commands → (slice_index_or commands k d).release ≤ x → x < slice_index rounds k → p < length commands → slice_index rounds p ≡ x → (slice_index_or commands p d).due ≤ (slice_index_or commands k d).due

-- where a released command that could be on time has to wait, the round is full, and of commands that are on time and due no later
pub record IsOnTimeDueFirst (commands : List Command) (rounds : List ℕ) (steps : List Step) : Type 0 where
  pub full : (x k : ℕ) (d : Command) → IsDelayed commands rounds x k d → places_at rounds x ≡ depth_at steps x
  pub due_first : (x k p : ℕ) (d : Command) → IsDelayed commands rounds x k d → p < length commands → slice_index rounds p ≡ x → (x ≤ (slice_index_or commands p d).due) × ((slice_index_or commands p d).due ≤ (slice_index_or commands k d).due)

-- each legal schedule that so goes by due rounds is least late
abbrev pub DueFirstIsLeastLate : List Command → List Step → Type 0
DueFirstIsLeastLate commands steps = (rounds : List ℕ) → (late : ℤ) → IsLegal commands rounds steps → IsDueFirst commands rounds steps
    → IsGreatestLateness commands rounds late → IsLeastLateness commands steps late

-- each legal schedule that so serves first what can still be on time has the most on time
abbrev pub OnTimeDueFirstHasMost : List Command → List Step → Type 0
OnTimeDueFirstHasMost commands steps = (rounds : List ℕ) → IsLegal commands rounds steps → IsOnTimeDueFirst commands rounds steps
    → IsMostOnTime commands steps (number_on_time commands rounds)
