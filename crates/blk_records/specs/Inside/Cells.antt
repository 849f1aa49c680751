-- A line of plain fields.
use Rattle.std.specs.Prelude.{ℕ, List, [], ◌∷◌, ◌++◌, decimal}
use Rattle.std.specs.List.{flat_map}
use Rattle.std.proofs.Math.ListN.{replicate}

-- plain fields with commas between them and a line feed at the end
unfoldable pub line_of : List (List ℕ) → List ℕ
line_of [] = []
line_of (f ∷ []) = f ++ (10 ∷ [])
line_of (f ∷ g ∷ fs) = f ++ (44 ∷ line_of (g ∷ fs))

-- numbers, each after a comma
abbrev pub marked : List ℕ → List ℕ
marked = flat_map (λ n. 44 ∷ decimal n)

-- numbers and then this number of empty fields, each after a comma, and a line feed
abbrev pub rest_of_line : List ℕ → ℕ → List ℕ
rest_of_line numbers blanks = (marked numbers ++ replicate blanks 44) ++ 10 ∷ []
