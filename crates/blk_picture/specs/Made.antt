-- Lists of what is made of numbers.
use Rattle.std.specs.Prelude.{ℕ, zero, suc, ◌++◌, ◌∷◌, [], List}

-- what is made of each number below one
unfoldable pub made : {X : Type 0} → (ℕ → X) → ℕ → List X
made f zero = []
made f (suc n) = made f n ++ f n ∷ []
