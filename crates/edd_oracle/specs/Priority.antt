use Rattle.std.specs.Prelude.{ℕ, ◌≡◌, ◌≤◌, ◌<◌, ◌⊎◌, List, length, slice_index, slice_index_or}
use Rattle.edd_commands.specs.declared.Command.{Command}
use Rattle.edd_commands.specs.declared.steps.Step.{Step}
use Rattle.edd_commands.specs.Capacity.{depth_at}
use Rattle.edd_commands.specs.Schedule.{places_at}

-- the one command comes no later than the other: by due round, on a tie by id
abbrev pub ComesFirst : Command → Command → Type 0
ComesFirst a b = (a.due < b.due) ⊎ ((a.due ≡ b.due) × (a.id ≤ b.id))

-- where a released command has to wait, the round is full, and of commands that come first
pub record IsEarliestDueFirst (commands : List Command) (rounds : List ℕ) (steps : List Step) : Type 0 where
  pub full : (x k : ℕ) (d : Command) → k < length commands → (slice_index_or commands k d).release ≤ x → x < slice_index rounds k → places_at rounds x ≡ depth_at steps x
  pub due_first : (x k p : ℕ) (d : Command) → k < length commands → (slice_index_or commands k d).release ≤ x → x < slice_index rounds k → p < length commands → slice_index rounds p ≡ x → ComesFirst (slice_index_or commands p d) (slice_index_or commands k d)
