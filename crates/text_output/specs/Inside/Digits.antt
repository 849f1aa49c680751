-- Numbers by two, four or eight digits at a time.
use Rattle.std.specs.Prelude.{◌+◌, ◌/◌, ◌%◌, ℕ, List, [], ◌∷◌, ◌++◌}

-- a number below 100 in two digits
abbrev pub pair_of : ℕ → List ℕ
pair_of n = (48 + n / 10) ∷ (48 + n % 10) ∷ []

-- a number below 10,000 in four digits
abbrev pub four_of : ℕ → List ℕ
four_of n = pair_of (n / 100) ++ pair_of (n % 100)

-- a number below 100,000,000 in eight digits
abbrev pub eight_of : ℕ → List ℕ
eight_of n = four_of (n / 10_000) ++ four_of (n % 10_000)
