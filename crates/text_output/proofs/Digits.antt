-- The text of a number, two, four or eight digits at a time.
use Rattle.std.proofs.Common.{◌≡◌, ℕ, ◌+◌, ◌*◌, ◌/◌, ◌%◌, ◌^◌, ◌<◌, ◌≤◌, ◌==◌, Bool, true, ◌++◌, length, take, drop, get_or, refl, append_assoc, arith, decimal}
use Rattle.std.proofs.lemmas.Bool.{agree_below_at, eqb-true}
use Rattle.std.proofs.lemmas.List.{drop_more}
use Rattle.std.proofs.lemmas.Fmt.{decimal_digit, decimal_step}
use Rattle.text_output.specs.declared.pieces.TheConstants.{PAIRS}
use Rattle.text_output.specs.Inside.Digits.{pair_of, four_of, eight_of}

-- the two digits of a number in the table
tens : ℕ → Bool
tens k = get_or PAIRS.now (2 * k) 0 == 48 + k / 10

units : ℕ → Bool
units k = get_or PAIRS.now (2 * k + 1) 0 == 48 + k % 10

pub pair_at : (k : ℕ) → k < 100 → take 2 (drop (2 * k) PAIRS.now) ≡ pair_of k
unfolding tens units
pair_at k h =
    let a : get_or PAIRS.now (2 * k) 0 ≡ 48 + k / 10 = eqb-true _ _ (agree_below_at tens (λ _. true) 100 k refl h) in
    let b : get_or PAIRS.now (2 * k + 1) 0 ≡ 48 + k % 10 = eqb-true _ _ (agree_below_at units (λ _. true) 100 k refl h) in
    let p : 2 * k < length PAIRS.now = omega arith in
    let q : 2 * k + 1 < length PAIRS.now = omega arith in
    rw (drop_more PAIRS.now (2 * k) 0 p, drop_more PAIRS.now (2 * k + 1) 0 q, a, b) refl

pub decimal_two : (n : ℕ) → 10 ≤ n → n < 100 → decimal n ≡ pair_of n
decimal_two n lo hi = rw (decimal_step n lo (omega arith), decimal_digit (n / 10) (omega arith))

pub decimal_pair : (n : ℕ) → 100 ≤ n → n < 2 ^ 64 → decimal n ≡ decimal (n / 100) ++ pair_of (n % 100)
decimal_pair n lo hi =
    let a : n / 10 / 10 ≡ n / 100 = omega arith in
    let b : n / 10 % 10 ≡ n % 100 / 10 = omega arith in
    let c : n % 10 ≡ n % 100 % 10 = omega arith in
    rw (decimal_step n (omega arith) hi, decimal_step (n / 10) (omega arith) (omega arith), append_assoc, a, b, ← c)

pub decimal_fours : (n : ℕ) → 10_000 ≤ n → n < 2 ^ 64 → decimal n ≡ decimal (n / 10_000) ++ four_of (n % 10_000)
decimal_fours n lo hi =
    let a : n / 100 / 100 ≡ n / 10_000 = omega arith in
    let b : n / 100 % 100 ≡ n % 10_000 / 100 = omega arith in
    let c : n % 100 ≡ n % 10_000 % 100 = omega arith in
    rw (decimal_pair n (omega arith) hi, decimal_pair (n / 100) (omega arith) (omega arith), append_assoc, a, b, c) refl

pub decimal_eights : (n : ℕ) → 100_000_000 ≤ n → n < 2 ^ 64 → decimal n ≡ decimal (n / 100_000_000) ++ eight_of (n % 100_000_000)
decimal_eights n lo hi =
    let a : n / 10_000 / 10_000 ≡ n / 100_000_000 = omega arith in
    let b : n / 10_000 % 10_000 ≡ n % 100_000_000 / 10_000 = omega arith in
    let c : n % 10_000 ≡ n % 100_000_000 % 10_000 = omega arith in
    rw (decimal_fours n (omega arith) hi, decimal_fours (n / 10_000) (omega arith) (omega arith), append_assoc, a, b, c) refl
