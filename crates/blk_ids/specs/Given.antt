-- Values under numbers, in two places.
use Rattle.std.specs.Prelude.{ℕ, ◌≡◌, ◌==◌, cond, Option, None, Some}

-- a number gets a value, or loses it, and the others keep theirs
abbrev pub Gives : {V : Type 0} → (ℕ → Option V) → ℕ → Option V → (ℕ → Option V) → Type 0
Gives old id x new = (k : ℕ) → new k ≡ cond (id == k) x (old k)

-- the first of two, or the second where there is none
abbrev pub either : {V : Type 0} → Option V → Option V → Option V
either None o = o
either (Some v) o = Some v

-- the value of an entry, under its number
abbrev pub at_entry : {V : Type 0} → Option (ℕ × V) → ℕ → Option V
at_entry None id = None
at_entry (Some e) id = cond (e.0 == id) (Some e.1) None
