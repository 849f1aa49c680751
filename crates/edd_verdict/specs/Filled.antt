-- Windows whose every place went to a command that is on time and had to run there.
use Rattle.std.specs.Prelude.{ℕ, ◌≤◌, ◌==◌, ◌&&◌, ◌⊎◌, ◌≡◌, ◌<◌, List, count_by, slice_index_or}
use Rattle.std.specs.List.{zip}
use Rattle.edd_commands.specs.declared.Command.{Command}
use Rattle.edd_check.specs.declared.Window.{Window}
use Rattle.edd_commands.specs.declared.steps.Step.{Step}
use Rattle.edd_commands.specs.Capacity.{depth_at}
use Rattle.edd_check.specs.OnTime.{is_on_time, lies_in}

-- how many places of the round x went to commands that are on time and lie in the window
unfoldable pub held_at : List Command → List ℕ → Window → ℕ → ℕ
held_at commands rounds w x = count_by (λ p. (is_on_time p.0 p.1 && lies_in p.0 w) && p.1 == x) (zip commands rounds)

-- each place of the window's rounds went to a command that is on time and lies in it
abbrev pub IsFilled : List Command → List ℕ → List Step → Window → Type 0
IsFilled commands rounds steps w = (x : ℕ) → w.from ≤ x → x ≤ w.due → depth_at steps x ≤ held_at commands rounds w x

-- the window begins by the release of the command at place k, and ends in its due round or later
pub record IsAround (commands : List Command) (w : Window) (k : ℕ) : Type 0 where
  pub begins : (d : Command) → w.from ≤ (slice_index_or commands k d).release
  pub ends : (d : Command) → (slice_index_or commands k d).due ≤ w.due

-- of all filled windows around the command at place k the one that ends first, and of those the one that begins first
pub record IsFirstFilled (commands : List Command) (rounds : List ℕ) (steps : List Step) (k : ℕ) (w : Window) : Type 0 where
  pub filled : IsFilled commands rounds steps w
  pub around : IsAround commands w k
  pub first : (v : Window) → IsFilled commands rounds steps v → IsAround commands v k → (w.due < v.due) ⊎ ((w.due ≡ v.due) × (w.from ≤ v.from))
