-- What a writer took of a text.
use Rattle.std.specs.Prelude.{◌<◌, ℕ, List, Option, length, take}
use Rattle.std.specs.Io.KnownBytes.{Appends}

-- known bytes grow by a first part of these that is not the whole, and by nothing else
abbrev pub AppendsLess : Option (List ℕ) → Option (List ℕ) → List ℕ → Type 0
AppendsLess old new bs = (n : ℕ) × (n < length bs) × Appends old new (take n bs)
