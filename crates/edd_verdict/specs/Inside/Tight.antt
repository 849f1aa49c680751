-- Full rounds, and the windows that end where all that run in a round are due in it.
use Rattle.std.specs.Prelude.{ℕ, ◌≡◌, ◌≤◌, ◌<◌, ◌-◌, ◌^◌, ◌⊎◌, List, length, map, slice_index_or}
use Rattle.std.specs.List.{zip}
use Rattle.edd_commands.specs.declared.Command.{Command}
use Rattle.edd_check.specs.declared.Window.{Window}
use Rattle.edd_commands.specs.declared.steps.Step.{Step}
use Rattle.edd_commands.specs.Capacity.{depth_at}
use Rattle.edd_oracle.specs.declared.cover.Served.{Served}
use Rattle.edd_oracle.specs.Inside.Cover.{served_at}

-- a command that runs in the round p.1
abbrev pub served_command : Command × ℕ → Served
served_command p = record { round = p.1; due = p.0.due }

-- each command by its round and its due round
abbrev pub all_served : List Command → List ℕ → List Served
all_served commands rounds = map (λ p. served_command p) (zip commands rounds)

-- that there is room before a round: whatever ends later can't hold the round before it
abbrev pub room_before : ℕ → Served
room_before round = record { round = round - 1; due = 2 ^ 64 - 1 }

-- the last of a list, or else this
abbrev pub last_or : List Served → Served → Served
last_or peaks e = slice_index_or peaks (length peaks - 1) e

-- of those at the places from `first` on and before `past` the last is due then
pub record IsLatestDue (served : List Served) (first past due : ℕ) : Type 0 where
  pub most : (k : ℕ) (e : Served) → first ≤ k → k < past → (slice_index_or served k e).due ≤ due
  pub place : ℕ
  pub low : first ≤ place
  pub high : place < past
  pub reached : (e : Served) → (slice_index_or served place e).due ≡ due

-- by rising rounds, no two the same
abbrev pub AreRising : List Served → Type 0
AreRising full = (i j : ℕ) (e : Served) → i < j → j < length full → (slice_index_or full i e).round < (slice_index_or full j e).round

-- the round y is full of commands due by b
abbrev pub IsFullBy : List Served → ℕ → ℕ → Type 0
IsFullBy full y b = (i : ℕ) × (i < length full) × ((e : Served) → ((slice_index_or full i e).round ≡ y) × ((slice_index_or full i e).due ≤ b))

-- the full rounds, each with the latest due round of those that run in it
pub record AreFull (served : List Served) (steps : List Step) (full : List Served) : Type 0 where
  pub sound : (i : ℕ) (e : Served) → i < length full → depth_at steps (slice_index_or full i e).round ≤ served_at served (slice_index_or full i e).round (slice_index_or full i e).due
  pub complete : (y b : ℕ) → depth_at steps y ≤ served_at served y b → IsFullBy full y b

-- the rounds of the window are full of commands due in it, and the one before it is not
pub record IsTight (full : List Served) (w : Window) : Type 0 where
  pub some : w.from ≤ w.due
  pub filled : (y : ℕ) → w.from ≤ y → y ≤ w.due → IsFullBy full y w.due
  pub first : (w.from ≡ 0) ⊎ (IsFullBy full (w.from - 1) w.due → ⊥)

-- all such windows that end before the round `next`, in their order
pub record AreTightBelow (full : List Served) (next : ℕ) (windows : List Window) : Type 0 where
  pub each : (i : ℕ) (e : Window) → i < length windows → IsTight full (slice_index_or windows i e) × ((slice_index_or windows i e).due < next)
  pub all : (b : ℕ) → b < next → IsFullBy full b b → (i : ℕ) × (i < length windows) × ((e : Window) → (slice_index_or windows i e).due ≡ b)
  pub rising : (i j : ℕ) (e : Window) → i < j → j < length windows → (slice_index_or windows i e).due < (slice_index_or windows j e).due

-- all of them
pub record AreTight (full : List Served) (windows : List Window) : Type 0 where
  pub each : (i : ℕ) (e : Window) → i < length windows → IsTight full (slice_index_or windows i e)
  pub all : (b : ℕ) → IsFullBy full b b → (i : ℕ) × (i < length windows) × ((e : Window) → (slice_index_or windows i e).due ≡ b)
  pub rising : (i j : ℕ) (e : Window) → i < j → j < length windows → (slice_index_or windows i e).due < (slice_index_or windows j e).due

-- the peaks of the rounds before `next`: a round after which no window can begin that ends before the peak's due round; any
-- other round is full of commands due by then
pub record AreBarred (full : List Served) (next : ℕ) (peaks : List Served) : Type 0 where
  pub barred : (j : ℕ) (e : Served) → j < length peaks → ((slice_index_or peaks j e).round < next) × ((b : ℕ) → b < (slice_index_or peaks j e).due → IsFullBy full (slice_index_or peaks j e).round b → ⊥)
  pub falls : (i j : ℕ) (e : Served) → i < j → j < length peaks → ((slice_index_or peaks i e).round < (slice_index_or peaks j e).round) × ((slice_index_or peaks j e).due < (slice_index_or peaks i e).due)
  pub clear : (y b : ℕ) → y < next → next ≤ b → b < 2 ^ 64 - 1 → ((j : ℕ) (e : Served) → j < length peaks → y ≤ (slice_index_or peaks j e).round → (slice_index_or peaks j e).due ≤ b) → IsFullBy full y b

-- the peaks fall
abbrev pub DuesFall : List Served → Type 0
DuesFall peaks = (i j : ℕ) (e : Served) → i < j → j < length peaks → (slice_index_or peaks j e).due < (slice_index_or peaks i e).due

-- the first `place` peaks are due after the round, and the others by then
pub record IsDuePlace (peaks : List Served) (due place : ℕ) : Type 0 where
  pub within : place ≤ length peaks
  pub after : (k : ℕ) (e : Served) → k < place → due < (slice_index_or peaks k e).due
  pub by_then : (k : ℕ) (e : Served) → place ≤ k → k < length peaks → (slice_index_or peaks k e).due ≤ due
