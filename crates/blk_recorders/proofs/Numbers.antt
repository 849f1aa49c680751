-- Numbers of few digits.
use Rattle.std.proofs.Common.{ℕ, ◌≡◌, ◌<◌, ◌≤◌, ◌+◌, ◌-◌, ◌*◌, ◌^◌, ◌∙◌, ◌∷◌, length, drop, get_or, None, true, false, ap, refl, arith, le-leb}
use Rattle.std.specs.Prelude.{nat_le}
use Rattle.std.proofs.Math.Nat.{pow-le-pow_right}
use Rattle.std.proofs.lemmas.Bool.{lt-ltb, lt-leb}
use Rattle.std.proofs.lemmas.Grind.{pow_more}
use Rattle.std.proofs.lemmas.List.{drop_more}
use Rattle.blk_recorders.specs.Words.{Word, number_from}

-- fewer than 19 digits leave room for one more
pub room : (i number : ℕ) → i < 19 → number < 10 ^ i → number * 10 + 9 < 2 ^ 64
room i number l small =
    let most : 10 ^ i ≤ 10 ^ 18 = pow-le-pow_right {n = 10} (omega arith) {i = i} {j = 18} (omega arith) in
    omega (arith, most)

digit : (n c : ℕ) (cs : Word) → 48 ≤ c → c ≤ 57 → n * 10 + (c - 48) < 2 ^ 64 → number_from n (c ∷ cs) ≡ number_from (n * 10 + (c - 48)) cs
digit n c cs lo hi fits = rw (le-leb 48 c lo, le-leb c 57 hi, lt-ltb (n * 10 + (c - 48)) (2 ^ 64) fits) refl

-- one digit more
pub next : (w : Word) (i n : ℕ) → i < length w → 48 ≤ get_or w i 0 → get_or w i 0 ≤ 57 → n * 10 + (get_or w i 0 - 48) < 2 ^ 64
    → number_from n (drop i w) ≡ number_from (n * 10 + (get_or w i 0 - 48)) (drop (i + 1) w)
next w i n here lo hi fits = ap (number_from n) (drop_more w i 0 here) ∙ digit n (get_or w i 0) (drop (i + 1) w) lo hi fits

-- and what is none
pub low : (w : Word) (i n : ℕ) → i < length w → get_or w i 0 < 48 → number_from n (drop i w) ≡ None
low w i n here lo = ap (number_from n) (drop_more w i 0 here) ∙ (let e : nat_le 48 (get_or w i 0) ≡ false = lt-leb 48 (get_or w i 0) lo in rw e refl)

pub high : (w : Word) (i n : ℕ) → i < length w → 57 < get_or w i 0 → number_from n (drop i w) ≡ None
high w i n here hi =
    ap (number_from n) (drop_more w i 0 here)
    ∙ (let e : nat_le 48 (get_or w i 0) ≡ true = le-leb 48 (get_or w i 0) (omega arith) in
    let f : nat_le (get_or w i 0) 57 ≡ false = lt-leb (get_or w i 0) 57 hi in rw (e, f) refl)

-- and the number stays below the power of its digits
pub grows : (i n d : ℕ) → n < 10 ^ i → d ≤ 9 → n * 10 + d < 10 ^ (i + 1)
grows i n d small one = omega (arith, small, one, pow_more 10 i)
