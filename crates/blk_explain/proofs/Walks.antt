-- One byte more of a text whose lines are counted.
use Rattle.std.proofs.Common.{◌≡◌, ◌+◌, ◌-◌, ◌<◌, ◌≤◌, ◌==◌, ◌&&◌, ℕ, Bool, true, false, List, [], ◌∷◌, length, get_or, drop, refl, arith}
use Rattle.std.specs.Prelude.{if◌then◌else◌}
use Rattle.std.proofs.lemmas.List.{drop_more}
use Rattle.csv.specs.Reading.{is_bom, strip_bom}
use Rattle.csv.specs.declared.parser.State.{State}
use Rattle.blk_explain.specs.Lines.{begins, ends_line, state_after, line_from}

stops : (s : State) (r : Bool) (line n : ℕ) (c : ℕ) (rest : List ℕ) → (begins s c && (n == 1)) ≡ true → line_from s r line n (c ∷ rest) ≡ line
unfolding line_from
stops s r line n c rest b = rw b refl

-- the line is found
pub found_at : (s : State) (r : Bool) (line n : ℕ) (text : List ℕ) (i : ℕ) (c : ℕ) → i < length text → c ≡ get_or text i 0 → (begins s c && (n == 1)) ≡ true → line_from s r line n (drop i text) ≡ line
found_at s r line n text i c h e b = rw (drop_more text i 0 h, ← e) (stops s r line n c (drop (i + 1) text) b)

-- or the walk goes on
goes_on : (s : State) (r : Bool) (line n : ℕ) (c : ℕ) (rest : List ℕ) → (begins s c && (n == 1)) ≡ false
    → line_from s r line n (c ∷ rest) ≡ line_from (state_after s c) (c == 13) (if ends_line r c then line + 1 else line) (if begins s c then n - 1 else n) rest
unfolding line_from
goes_on s r line n c rest b = rw b refl

pub walks_on : (s : State) (r : Bool) (line n : ℕ) (text : List ℕ) (i : ℕ) (c : ℕ) → i < length text → c ≡ get_or text i 0 → (begins s c && (n == 1)) ≡ false
    → line_from s r line n (drop i text) ≡ line_from (state_after s c) (c == 13) (if ends_line r c then line + 1 else line) (if begins s c then n - 1 else n) (drop (i + 1) text)
walks_on s r line n text i c h e b = rw (drop_more text i 0 h, ← e) (goes_on s r line n c (drop (i + 1) text) b)

-- at its end
pub at_end : (s : State) (r : Bool) (line n : ℕ) → line_from s r line n [] ≡ line
unfolding line_from
at_end s r line n = refl

-- a text with a byte order mark and without
pub strip_short : (xs : List ℕ) → length xs < 3 → strip_bom xs ≡ xs
unfolding strip_bom
strip_short [] h = refl
strip_short (a ∷ []) h = refl
strip_short (a ∷ b ∷ []) h = refl
strip_short (a ∷ b ∷ c ∷ rest) h = absurd (omega (arith, h))

pub strip_marked : (xs : List ℕ) → 3 ≤ length xs → is_bom (get_or xs 0 0) (get_or xs 1 0) (get_or xs 2 0) ≡ true → strip_bom xs ≡ drop 3 xs
unfolding strip_bom
strip_marked [] h e = absurd (omega (arith, h))
strip_marked (a ∷ []) h e = absurd (omega (arith, h))
strip_marked (a ∷ b ∷ []) h e = absurd (omega (arith, h))
strip_marked (a ∷ b ∷ c ∷ rest) h e = rw e refl

pub strip_unmarked : (xs : List ℕ) → is_bom (get_or xs 0 0) (get_or xs 1 0) (get_or xs 2 0) ≡ false → strip_bom xs ≡ xs
unfolding strip_bom
strip_unmarked [] e = refl
strip_unmarked (a ∷ []) e = refl
strip_unmarked (a ∷ b ∷ []) e = refl
strip_unmarked (a ∷ b ∷ c ∷ rest) e = rw e refl

-- the line is at most one more
pub if_le : (b : Bool) (line m : ℕ) → line ≤ m → (if b then line + 1 else line) ≤ m + 1
if_le true line m h = omega (arith, h)
if_le false line m h = omega (arith, h)
