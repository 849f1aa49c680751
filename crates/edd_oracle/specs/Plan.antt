use Rattle.std.specs.Prelude.{ℕ, ◌≡◌, ◌≤◌, ◌<◌, ◌+◌, ◌-◌, ◌==◌, ◌&&◌, ◌⊎◌, List, length, count_by, nat_le, slice_index, slice_index_or}
use Rattle.std.specs.List.{zip}
use Rattle.edd_commands.specs.declared.Command.{Command}
use Rattle.edd_check.specs.declared.Window.{Window}
use Rattle.edd_commands.specs.declared.steps.Step.{Step}
use Rattle.edd_commands.specs.Capacity.{depth_at}

-- how many commands due by `due` have the round x
unfoldable pub due_at : List Command → List ℕ → ℕ → ℕ → ℕ
due_at commands rounds x due = count_by (λ p. nat_le p.0.due due && p.1 == x) (zip commands rounds)

-- the one command at its round x is chosen before the other at its round y: it is later, on a tie by a sooner round,
-- and there by a smaller id
abbrev pub IsChosen : Command → ℕ → Command → ℕ → Type 0
IsChosen one x other y =
    (y + one.due < x + other.due) ⊎ ((y + one.due ≡ x + other.due) × ((x < y) ⊎ ((x ≡ y) × (one.id ≤ other.id))))

-- no command is chosen before the one at place k
abbrev pub IsLatest : List Command → List ℕ → ℕ → Type 0
IsLatest commands rounds k =
    (j : ℕ) (d : Command) → j < length commands → IsChosen (slice_index_or commands k d) (slice_index rounds k) (slice_index_or commands j d) (slice_index rounds j)

-- from `start` on, the rounds before x are full of commands due by `due`, and the one before `start` is not
pub record IsWindowStart (commands : List Command) (rounds : List ℕ) (steps : List Step) (x due start : ℕ) : Type 0 where
  pub before : start ≤ x
  pub full : (y : ℕ) → start ≤ y → y < x → depth_at steps y ≤ due_at commands rounds y due
  pub first : (start ≡ 0) ⊎ (due_at commands rounds (start - 1) due < depth_at steps (start - 1))

-- the window of the latest command
pub record IsLatestWindow (commands : List Command) (rounds : List ℕ) (steps : List Step) (w : Window) : Type 0 where
  pub place : ℕ
  pub in_list : place < length commands
  pub latest : IsLatest commands rounds place
  pub is_due : (d : Command) → w.due ≡ (slice_index_or commands place d).due
  pub is_start : IsWindowStart commands rounds steps (slice_index rounds place) w.due w.from
