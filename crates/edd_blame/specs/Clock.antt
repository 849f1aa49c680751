-- Requests by the clock: the time that each has, and the times of the dispatches, which are the rounds.
use Rattle.std.specs.Prelude.{ℕ, ◌≡◌, ◌≤◌, ◌<◌, ◌+◌, ◌&&◌, List, length, count_by, nat_lt, nat_le, slice_index_or, ◌==◌, Bool}
use Rattle.edd_commands.specs.declared.Command.{Command}
use Rattle.edd_blame.specs.declared.late.Allowance.{Allowance}

-- how many of the times come before t, and how many by t
unfoldable pub times_before : List ℕ → ℕ → ℕ
times_before times t = count_by (λ x. nat_lt x t) times

unfoldable pub times_by : List ℕ → ℕ → ℕ
times_by times t = count_by (λ x. nat_le x t) times

-- how many of them lie in the time that a request has
unfoldable pub times_within : List ℕ → Allowance → ℕ
times_within times a = count_by (λ x. nat_le a.release x && nat_le x a.deadline) times

-- the command counts the dispatches: released in the round after those before its release, due in the last by its deadline
abbrev pub IsByClock : List ℕ → Allowance → Command → Type 0
IsByClock dispatches a c = (c.release ≡ times_before dispatches a.release + 1) × (c.due ≡ times_by dispatches a.deadline)

-- each command does
abbrev pub EachByClock : List ℕ → List Allowance → List Command → Type 0
EachByClock dispatches allowances commands =
    (k : ℕ) (a : Allowance) (c : Command) → k < length commands → IsByClock dispatches (slice_index_or allowances k a) (slice_index_or commands k c)

pub record AreByClock (dispatches : List ℕ) (allowances : List Allowance) (commands : List Command) : Type 0 where
  pub one_each : length allowances ≡ length commands
  pub each : EachByClock dispatches allowances commands

-- the request was released after its deadline
abbrev pub CameLate : Allowance → Type 0
CameLate a = a.deadline < a.release

-- it was released by its deadline, and nothing was dispatched from then to the deadline
abbrev pub IsStalled : List ℕ → Allowance → Type 0
IsStalled dispatches a = (a.release ≤ a.deadline) × (times_within dispatches a ≡ 0)

-- whether it did
abbrev pub is_stalled : List ℕ → Allowance → Bool
is_stalled dispatches a = nat_le a.release a.deadline && times_within dispatches a == 0

-- something was dispatched in its time
abbrev pub HadDispatch : List ℕ → Allowance → Type 0
HadDispatch dispatches a = 0 < times_within dispatches a
