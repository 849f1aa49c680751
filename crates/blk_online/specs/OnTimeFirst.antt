-- Schedules that serve first, round by round, what can still be on time.
use Rattle.std.specs.Prelude.{ℕ, ◌≡◌, ◌≤◌, ◌<◌, List, length, slice_index, slice_index_or}
use Rattle.edd_commands.specs.declared.Command.{Command}
use Rattle.edd_commands.specs.declared.steps.Step.{Step}
use Rattle.edd_commands.specs.Capacity.{depth_at}
use Rattle.edd_commands.specs.Schedule.{places_at}
use Rattle.edd_oracle.specs.OnTime.{IsDelayed}
use Rattle.edd_oracle.specs.Priority.{ComesFirst}

-- where a released command that could be on time has to wait, the round is full, and of commands that are on time and come first
pub record ServesOnTimeFirst (commands : List Command) (rounds : List ℕ) (steps : List Step) : Type 0 where
  pub full : (x k : ℕ) (d : Command) → IsDelayed commands rounds x k d → places_at rounds x ≡ depth_at steps x
  pub due_first : (x k p : ℕ) (d : Command) → IsDelayed commands rounds x k d → p < length commands → slice_index rounds p ≡ x → (x ≤ (slice_index_or commands p d).due) × ComesFirst (slice_index_or commands p d) (slice_index_or commands k d)
