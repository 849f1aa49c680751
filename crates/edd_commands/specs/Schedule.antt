use Rattle.std.specs.Prelude.{ℕ, ◌≡◌, ◌≤◌, ◌<◌, ◌==◌, List, length, count_by, slice_index, slice_index_or, ℤ, pos, ◌-ℤ◌, ◌≤ℤ◌, All}
use Rattle.edd_commands.specs.declared.Command.{Command}
use Rattle.edd_commands.specs.declared.steps.Step.{Step}
use Rattle.edd_commands.specs.declared.TheConstants.{MAX_ROUNDS}
use Rattle.edd_commands.specs.Capacity.{depth_at}

-- each command was released by its round
abbrev pub StartsReleased : List Command → List ℕ → Type 0
StartsReleased commands rounds =
    (k : ℕ) (d : Command) → k < length commands → (slice_index_or commands k d).release ≤ slice_index rounds k

-- how many places of a schedule have the round x
unfoldable pub places_at : List ℕ → ℕ → ℕ
places_at rounds x = count_by (λ y. y == x) rounds

-- a round for each command, none before its release, and no round for more of them than it carries
pub record IsLegal (commands : List Command) (rounds : List ℕ) (steps : List Step) : Type 0 where
  pub one_each : length rounds ≡ length commands
  pub released : StartsReleased commands rounds
  pub within_depth : (x : ℕ) → places_at rounds x ≤ depth_at steps x

-- how late the command at place k is: its round less its due round
abbrev pub lateness_at : List Command → List ℕ → ℕ → Command → ℤ
lateness_at commands rounds k d = pos (slice_index rounds k) -ℤ pos (slice_index_or commands k d).due

-- some command is this late, and none is later
pub record IsGreatestLateness (commands : List Command) (rounds : List ℕ) (late : ℤ) : Type 0 where
  pub bound : (k : ℕ) (d : Command) → k < length commands → lateness_at commands rounds k d ≤ℤ late
  pub place : ℕ
  pub in_list : place < length commands
  pub reached : (d : Command) → lateness_at commands rounds place d ≡ late

-- every release and due round is within the limit
abbrev pub CommandsInRange : List Command → Type 0
CommandsInRange commands = All (λ c. (c.release < MAX_ROUNDS) × (c.due < MAX_ROUNDS)) commands

-- every round is within the limit
abbrev pub RoundsInRange : List ℕ → Type 0
RoundsInRange rounds = All (λ x. x < MAX_ROUNDS) rounds

-- every legal schedule is as late at least
abbrev pub IsLowerBound : List Command → List Step → ℤ → Type 0
IsLowerBound commands steps late =
    (rounds : List ℕ) (other : ℤ) → IsLegal commands rounds steps → IsGreatestLateness commands rounds other → late ≤ℤ other

-- late is least: some legal schedule is as late, and none is less late
pub record IsLeastLateness (commands : List Command) (steps : List Step) (late : ℤ) : Type 0 where
  pub schedule : List ℕ
  pub legal : IsLegal commands schedule steps
  pub reached : IsGreatestLateness commands schedule late
  pub least : IsLowerBound commands steps late
