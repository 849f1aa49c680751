-- What the earliest scheduler serves and picks, over the plain list of what waits by rising id.
use Rattle.std.specs.Prelude.{ℕ, ◌==◌, ◌≡◌, ◌<◌, ◌≤◌, ◌⊎◌, ◌&&◌, ◌||◌, All, nat_lt, nat_le, Bool, true, false, List, [], ◌∷◌, Option, None, Some, if◌then◌else◌}
use Rattle.std.specs.List.{filter, Contains}
use Rattle.std.specs.Option.{option_or}
use Rattle.std.specs.FinMap as map
use Rattle.blk_sched.specs.Meaning.{Waiting, Meaning}
use Rattle.blk_sched.specs.Policies.{Policy, choosing, serves_all, switch_number}

-- by the due round, and then by the id
abbrev pub comes_before : Waiting → Waiting → Bool
comes_before v w = nat_lt v.due w.due || (v.due == w.due && nat_lt v.id w.id)

-- the first of two, and the first of a list
abbrev pub first_of_two : Waiting → Option Waiting → Option Waiting
first_of_two w None = Some w
first_of_two w (Some v) = if comes_before v w then Some v else Some w

abbrev pub first_due : List Waiting → Option Waiting
first_due [] = None
first_due (w ∷ ws) = first_of_two w (first_due ws)

-- those that are due in the round or later
abbrev pub on_time : ℕ → List Waiting → List Waiting
on_time now ws = filter (λ w. nat_le now w.due) ws

-- the choice: the one that is due first; with `late_last` that of those on time, and of all only where none is on time
abbrev pub earliest_choice : Bool → ℕ → List Waiting → Option Waiting
earliest_choice false now ws = first_due ws
earliest_choice true now ws = option_or (first_due (on_time now ws)) (first_due ws)

-- the one comes no later than the other: by due round, on a tie by id
abbrev pub IsNoLater : Waiting → Waiting → Type 0
IsNoLater w v = (w.due < v.due) ⊎ ((w.due ≡ v.due) × (w.id ≤ v.id))

-- what the choice is: one that waits, that comes no later than any other
pub record IsEarliest (ws : List Waiting) (w : Waiting) : Type 0 where
  pub waits : Contains ws w
  pub first : All (IsNoLater w) ws

-- what it is with `late_last`: of those on time the first, and where none is on time the first of all
pub record IsFirstOnTime (now : ℕ) (ws : List Waiting) (w : Waiting) : Type 0 where
  pub waits : Contains ws w
  pub on_time : All (λ v. now ≤ v.due → (now ≤ w.due) × IsNoLater w v) ws
  pub late : w.due < now → All (λ v. (v.due < now) × IsNoLater w v) ws

-- what it keeps beside its meaning, as a number: the setting
abbrev pub earliest_kept : Bool → List ℕ
earliest_kept late_last = switch_number late_last ∷ []

-- its choice by what it keeps: by the setting, which stays
abbrev pub earliest_chooses : List ℕ → Meaning → ℕ → ℕ → Option Waiting → List ℕ → Type 0
earliest_chooses kept m hw now answer after =
    (late_last : Bool) × (kept ≡ earliest_kept late_last)
    × (answer ≡ earliest_choice late_last now (map.values m.pending))
    × (after ≡ kept)

-- its policy
abbrev pub earliest_policy : Policy
earliest_policy = choosing serves_all earliest_chooses
