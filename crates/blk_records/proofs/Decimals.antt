-- The digits that begin as numbers do are the decimals.
use Rattle.std.proofs.Common.{◌≡◌, ◌≢◌, ◌<◌, ◌≤◌, ◌+◌, ◌-◌, ◌*◌, ◌^◌, ◌==◌, ◌∙◌, ℕ, zero, suc, List, [], ◌∷◌, length, Bool, true, false, Option, Some, None, drop, refl, sym, ap, inl, inr, arith, get_or, decimal}
use Rattle.std.specs.Prelude.{MatchOption}
use Rattle.std.specs.Char.{digit_value}
use Rattle.std.proofs.Math.Nat.{pow-le-pow_right}
use Rattle.std.proofs.lemmas.List.{drop_more}
use Rattle.std.proofs.lemmas.Str.{digit_value_digit}
use Rattle.std.specs.Str.Parse.{digits_value, digits_value_after, AllDigits}
use Rattle.std.proofs.lemmas.Bool.{ne_eqb}
use Rattle.std.proofs.lemmas.Str.Parse.{IsNumeralModel, numerals_by_value, tells_digits, digit_from_value}
use Rattle.std.proofs.lemmas.Fmt.{decimal_digit, decimal_injective, first_decimal, decimal-digits_value, digits_decimal, digits_value-decimal}
use Rattle.blk_records.specs.Fields.{IsSized}
use Rattle.blk_records.specs.Inside.Fields.{canonical, WritesNumber}

pub own : IsNumeralModel (AllDigits 10) (digits_value 10)
own = numerals_by_value _ tells_digits

from_first : (bs : List ℕ) → 48 < get_or bs 0 0 → canonical bs ≡ true
from_first [] h = absurd (omega arith)
from_first (c ∷ []) h = let e : (c == 43) ≡ false = ne_eqb c 43 (λ q. omega arith) in rw e refl
from_first (c ∷ d ∷ ds) h =
    let e : (c == 43) ≡ false = ne_eqb c 43 (λ q. omega arith) in
    let f : (c == 48) ≡ false = ne_eqb c 48 (λ q. omega arith) in rw (e, f) refl

pub canonical_decimal : (n : ℕ) → n < 2 ^ 64 → canonical (decimal n) ≡ true
canonical_decimal zero h = rw (decimal_digit 0 (omega arith)) refl
canonical_decimal (suc n) h = from_first (decimal (suc n)) (first_decimal (suc n) (omega arith) h)

some : (bs : List ℕ) → canonical bs ≡ true → 0 < length bs
some [] h = cc h
some (c ∷ cs) h = omega arith

no_zero : (bs : List ℕ) → canonical bs ≡ true → get_or bs 0 0 ≡ 48 → length bs ≡ 1
no_zero [] h e = cc h
no_zero (c ∷ []) h e = refl
no_zero (c ∷ d ∷ ds) h e = cc (rw e at h)

-- digits that begin as a number's do are the text of the number that they write
pub written : (bs : List ℕ) (n : ℕ) → WritesNumber bs × (n ≡ digits_value 10 bs) → canonical bs ≡ true → bs ≡ decimal n
written bs n h k = sym (ap decimal h.1 ∙ decimal-digits_value own bs h.0.0 (some bs k) (no_zero bs k) h.0.1)

-- the text of a number that fits writes it
pub writes : (bs : List ℕ) (n : ℕ) → n < 2 ^ 64 → bs ≡ decimal n → WritesNumber bs
writes bs n small is = rw is (digits_decimal own n small, rw (digits_value-decimal own n small) small)

-- no more is written by fewer digits
pub grows : (n : ℕ) (ds : List ℕ) → n ≤ digits_value_after 10 n ds
grows n [] = omega arith
grows n (c ∷ cs) = omega (arith, grows (n * 10 + digit_value c) cs)

-- where digits begin as a number's do
pub by_value : (r : Option ℕ) (bs : List ℕ) (begins : Bool) → begins ≡ true → (AllDigits 10 bs → begins ≡ canonical bs)
    → MatchOption r (¬ WritesNumber bs) (λ n. WritesNumber bs × (n ≡ digits_value 10 bs)) → MatchOption r ((n : ℕ) → n < 2 ^ 64 → bs ≢ decimal n) (λ n. bs ≡ decimal n)
by_value None bs begins p is h = λ n small e. h (writes bs n small e)
by_value (Some n) bs begins p is h = written bs n h (sym (is h.0.0) ∙ p)

-- and where they do not
pub no_number : (bs : List ℕ) (begins : Bool) → begins ≡ false → (AllDigits 10 bs → begins ≡ canonical bs) → (n : ℕ) → n < 2 ^ 64 → bs ≢ decimal n
no_number bs begins p is n small e =
    let same : begins ≡ canonical bs = is (writes bs n small e).0 in
    let begun : canonical bs ≡ true = rw e (canonical_decimal n small) in
    cc (p, same, begun)

-- fewer than 19 digits leave room for one more
pub room : (i number : ℕ) → i < 19 → number < 10 ^ i → number * 10 + 9 < 2 ^ 64
room i number l small =
    let most : 10 ^ i ≤ 10 ^ 18 = pow-le-pow_right {n = 10} (omega arith) {i = i} {j = 18} (omega arith) in
    omega (arith, most)

-- a digit that would pass the greatest number
pub too_great : (bs : List ℕ) (i number : ℕ) → i < length bs → 48 ≤ get_or bs i 0 → get_or bs i 0 ≤ 57 → digits_value_after 10 number (drop i bs) ≡ digits_value 10 bs
    → 2 ^ 64 ≤ number * 10 + (get_or bs i 0 - 48) → WritesNumber bs → ⊥
too_great bs i number l lo hi v big w =
    let split : drop i bs ≡ get_or bs i 0 ∷ drop (i + 1) bs = drop_more bs i 0 l in
    let more : digits_value_after 10 (number * 10 + digit_value (get_or bs i 0)) (drop (i + 1) bs) ≡ digits_value 10 bs = rw split at v in
    omega (arith, more, grows (number * 10 + digit_value (get_or bs i 0)) (drop (i + 1) bs), w.1, digit_value_digit (get_or bs i 0) (lo, hi))

apart : (a b : ℕ) (xs ys : List ℕ) → a ≡ 45 → b ≡ 48 → a ∷ xs ≡ b ∷ ys → ⊥
apart a b xs ys p q e = let same : a ≡ b = cc e in omega (arith, same)

-- no number begins with a minus
pub no_minus : (n : ℕ) → n < 2 ^ 64 → (ds : List ℕ) → 45 ∷ ds ≡ decimal n → ⊥
no_minus zero h ds e = apart 45 48 ds [] refl refl (e ∙ decimal_digit 0 (omega arith))
no_minus (suc n) h ds e = let f = first_decimal (suc n) (omega arith) h in omega (arith, rw (← e) at f)

pub sized_after : (f ds : List ℕ) → f ≡ 45 ∷ ds → ((n : ℕ) → n < 2 ^ 64 → ds ≡ decimal n → 0 < n → ⊥) → (n : ℕ) → n < 2 ^ 64 → ¬ IsSized f n
sized_after f ds e none n h (inl a) = no_minus n h ds (sym e ∙ a)
sized_after f ds e none n h (inr b) = none n h (let q : 45 ∷ ds ≡ 45 ∷ decimal n = sym e ∙ b.1 in cc q) b.0

pub zero_only : (ds : List ℕ) (m : ℕ) → m ≡ 0 → ds ≡ decimal m → (n : ℕ) → n < 2 ^ 64 → ds ≡ decimal n → 0 < n → ⊥
zero_only ds m z e n h a p = let same : m ≡ n = decimal_injective m n (omega arith) h (sym e ∙ a) in omega arith

pub one_decimal : (b d : ℕ) → d < 10 → 48 + d ≡ b → b ∷ [] ≡ decimal d
one_decimal b d small same = rw (decimal_digit d small, same) refl

-- what is no digit writes no number
pub no_digit : (b : ℕ) → (48 ≤ b → b ≤ 57 → ⊥) → (n : ℕ) → n < 2 ^ 64 → b ∷ [] ≢ decimal n
no_digit b out n small e =
    let w : WritesNumber (b ∷ []) = writes (b ∷ []) n small e in
    let d = digit_from_value b w.0.0 in
    out d.0 d.1
