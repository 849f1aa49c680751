-- How the windows of the commands that are passed over are found, from the last due round back.
use Rattle.std.specs.Prelude.{ℕ, ◌≡◌, ◌≢◌, ◌≤◌, ◌<◌, ◌+◌, ◌-◌, ◌==◌, ◌&&◌, ◌⊎◌, List, length, count_by, nat_le, slice_index, slice_index_or}
use Rattle.edd_commands.specs.declared.Command.{Command}
use Rattle.edd_check.specs.declared.Window.{Window}
use Rattle.edd_commands.specs.declared.steps.Step.{Step}
use Rattle.edd_commands.specs.Capacity.{depth_at}
use Rattle.edd_oracle.specs.declared.cover.Served.{Served}
use Rattle.edd_oracle.specs.OnTime.{IsPassedOver}
use Rattle.edd_oracle.specs.Plan.{due_at}
use Rattle.std.specs.List.{Contains}

-- how many of them due by `due` run in the round y
unfoldable pub served_at : List Served → ℕ → ℕ → ℕ
served_at served y due = count_by (λ s. nat_le s.due due && s.round == y) served

-- how many of them run in the round y
unfoldable pub running_at : List Served → ℕ → ℕ
running_at served y = count_by (λ s. s.round == y) served

-- before the round `until` they run as the commands do: as many in each round by each due round
abbrev pub RunAlike : List Command → List ℕ → ℕ → List Served → Type 0
RunAlike commands rounds until served = (y due : ℕ) → y < until → served_at served y due ≡ due_at commands rounds y due

-- those at the places from `first` on and before `past` all run in the round x and are due by `due`
abbrev pub AreDue : List Served → ℕ → ℕ → ℕ → ℕ → Type 0
AreDue served first past x due =
    (k : ℕ) (e : Served) → first ≤ k → k < past → ((slice_index_or served k e).due ≤ due) × ((slice_index_or served k e).round ≡ x)

-- one of them doesn't
pub record IsOneOff (served : List Served) (first past x due : ℕ) : Type 0 where
  pub place : ℕ
  pub low : first ≤ place
  pub high : place < past
  pub off : (e : Served) → (due < (slice_index_or served place e).due) ⊎ ((slice_index_or served place e).round ≢ x)

-- x is the due round of a command that is passed over
pub record IsPassedDue (commands : List Command) (rounds : List ℕ) (x : ℕ) : Type 0 where
  pub place : ℕ
  pub passed : (d : Command) → IsPassedOver commands rounds place d
  pub is_due : (d : Command) → x ≡ (slice_index_or commands place d).due

-- the due round of each command that is passed over is one of these
abbrev pub HasPassedDues : List Command → List ℕ → List ℕ → Type 0
HasPassedDues commands rounds dues =
    (k : ℕ) (d : Command) → IsPassedOver commands rounds k d → Contains dues (slice_index_or commands k d).due

-- from `start` up to `due` the rounds are full of those due by then, and the one before `start` is not
pub record IsServedStart (served : List Served) (steps : List Step) (due start : ℕ) : Type 0 where
  pub before : start ≤ due + 1
  pub full : (y : ℕ) → start ≤ y → y < due + 1 → depth_at steps y ≤ served_at served y due
  pub first : (start ≡ 0) ⊎ (served_at served (start - 1) due < depth_at steps (start - 1))

-- the windows for the due rounds from place `left` on, the last one first; each due round lies in one of them or before one
-- that it touches
pub record AreWindows (served : List Served) (steps : List Step) (passed : List ℕ) (left : ℕ) (cover : List Window) : Type 0 where
  pub each : (i : ℕ) (e : Window) → i < length cover → IsServedStart served steps (slice_index_or cover i e).due (slice_index_or cover i e).from
  pub dues : (i : ℕ) (e : Window) → i < length cover → (j : ℕ) × (left ≤ j) × (j < length passed) × (slice_index passed j ≡ (slice_index_or cover i e).due)
  pub falls : (i : ℕ) (e : Window) → i + 1 < length cover → (slice_index_or cover (i + 1) e).due + 1 < (slice_index_or cover i e).from
  pub reached : (j : ℕ) → left ≤ j → j < length passed → (i : ℕ) × (i < length cover) × ((e : Window) → ((slice_index_or cover i e).from ≤ slice_index passed j + 1) × (slice_index passed j ≤ (slice_index_or cover i e).due))
