-- What one call of a writer takes.
use Rattle.std.specs.Prelude.{◌≤◌, ℕ, List, Option, length, take}
use Rattle.std.specs.Io.KnownBytes.{Appends}

-- known bytes grow by the first n of these, one at least, and by nothing else
abbrev pub AppendsSome : Option (List ℕ) → Option (List ℕ) → List ℕ → ℕ → Type 0
AppendsSome old new bs n = (1 ≤ n) × (n ≤ length bs) × Appends old new (take n bs)
