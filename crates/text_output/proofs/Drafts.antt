-- What a text has where its block has more.
use Rattle.std.proofs.Common.{◌≡◌, ℕ, List, ◌++◌, take, append_assoc}

-- a record after what was there
pub added : (text block had now row : List ℕ) (at start : ℕ) → start ≡ at → text ++ take at block ≡ had → now ≡ take start block ++ row → text ++ now ≡ had ++ row
added text block had now row at start e p q =
    let here : now ≡ take at block ++ row = rw (← e) q in
    rw (here, ← append_assoc, p)
