-- A tag's bit among four words.
use Rattle.std.proofs.Common.{◌≡◌, ◌≢◌, ◌+◌, ◌-◌, ◌*◌, ◌/◌, ◌%◌, ◌<◌, ◌^◌, ◌==◌, ◌∙◌, ◌⊎◌, ℕ, List, length, true, false, sym, ap, inl, inr, arith, bit_and, bit_or, w64}
use Rattle.std.specs.Prelude.{slice_index, slice_set}
use Rattle.std.specs.Int.{bit_at}
use Rattle.std.proofs.lemmas.Bool.{cases_Bool, eqb-true, eq-eqb, ltb-true, ltb-false}
use Rattle.std.proofs.lemmas.List.{get_or-set_same, get_or-set_other}
use lib.Dec.{ltb}
use Rattle.std.proofs.Math.Nat.{mod-lt, mod-eq_of_lt, one-mul, zero-mul}
use Rattle.std.proofs.Math.Pow.{pow-lt}
use Rattle.std.proofs.lemmas.Nat.{pow_pos, div-add-mod'}
use Rattle.std.proofs.lemmas.Nat.Bits.{bit_at_set_same, bit_at_set_other, bit_at_clear_same, bit_at_clear_other, bit_at-lt, and_pow}
use Rattle.blk_tags.specs.Steps.{bit_of}

pub bit_cases : (n k : ℕ) → (bit_at n k ≡ 0) ⊎ (bit_at n k ≡ 1)
bit_cases n k = elim (cases_Bool (ltb (bit_at n k) 1)) [
  | inl y ↦ inl (omega (arith, ltb-true (bit_at n k) 1 y))
  | inr f ↦ inr (omega (arith, ltb-false (bit_at n k) 1 f, bit_at-lt n k))
]

-- a bit as the code writes it
shifted : (k : ℕ) → k < 64 → 1 * 2 ^ k % 2 ^ 64 ≡ 2 ^ k
shifted k a = mod-eq_of_lt (rw (one-mul (2 ^ k)) (pow-lt a)) ∙ one-mul (2 ^ k)

pub low : (t : ℕ) → t % 64 < 64
low t = mod-lt t (omega arith)

-- one of the four words' places
pub place : (t : ℕ) → t < 256 → t / 64 < 4
place t a = omega (arith, div-add-mod' t 64)

-- a tag is told by its word and its bit there
pub same_place : (t u : ℕ) → t / 64 ≡ u / 64 → t % 64 ≡ u % 64 → t ≡ u
same_place t u a b = sym (div-add-mod' t 64) ∙ ap (λ k. k * 64 + t % 64) a ∙ ap (λ k. u / 64 * 64 + k) b ∙ div-add-mod' u 64

-- a power tells its exponent
pub same_power : (j k : ℕ) → j < 64 → k < 64 → 2 ^ j ≡ 2 ^ k → j ≡ k
same_power j k a b e = elim (cases_Bool (ltb j k)) [
  | inl y ↦ absurd (omega (arith, e, pow-lt (ltb-true j k y)))
  | inr n ↦ elim (cases_Bool (ltb k j)) [
    | inl y ↦ absurd (omega (arith, e, pow-lt (ltb-true k j y)))
    | inr m ↦ omega (arith, ltb-false j k n, ltb-false k j m)
  ]
]

-- and so does the mask that lacks it
pub same_mask : (j k : ℕ) → j < 64 → k < 64 → 2 ^ 64 - 1 - 2 ^ j ≡ 2 ^ 64 - 1 - 2 ^ k → j ≡ k
same_mask j k a b e = same_power j k a b (omega (arith, e, pow-lt a, pow-lt b))

-- what a bit that was found says
pub was_clear : (found k : ℕ) → (bit_and found (2 ^ k) == 0) ≡ true → bit_at found k ≡ 0
was_clear found k e = elim (bit_cases found k) [
  | inl z ↦ z
  | inr o ↦ let q : bit_and found (2 ^ k) ≡ 0 = eqb-true _ 0 e in absurd (omega (arith, pow_pos k, rw o at (and_pow found k), q))
]

pub was_set : (found k : ℕ) → (bit_and found (2 ^ k) == 0) ≡ false → bit_at found k ≡ 1
was_set found k e = elim (bit_cases found k) [
  | inr o ↦ o
  | inl z ↦ let q : bit_and found (2 ^ k) ≡ 0 = and_pow found k ∙ rw z (zero-mul (2 ^ k)) in cc (sym (eq-eqb _ 0 q) ∙ e)
]

-- of the words with the one at place i replaced by n
module _ (words : List ℕ) (four : length words ≡ 4) (t n : ℕ) (small : t < 256) where
  pub bit_here : (u : ℕ) → u / 64 ≡ t / 64 → bit_of (slice_set words (t / 64) n) u ≡ bit_at n (u % 64)
  bit_here u e = ap (λ w. bit_at w (u % 64)) (ap (λ k. slice_index (slice_set words (t / 64) n) k) e ∙ get_or-set_same words (t / 64) n 0 (omega (arith, four, place t small)))

  pub bit_elsewhere : (u : ℕ) → u / 64 ≢ t / 64 → bit_of (slice_set words (t / 64) n) u ≡ bit_of words u
  bit_elsewhere u d = ap (λ w. bit_at w (u % 64)) (get_or-set_other words (t / 64) (u / 64) n 0 d)

  -- a bit of another tag stays where the word's other bits do
  pub bit_other : ((k : ℕ) → k < 64 → k ≢ t % 64 → bit_at n k ≡ bit_at (slice_index words (t / 64)) k) → (u : ℕ) → u ≢ t → bit_of (slice_set words (t / 64) n) u ≡ bit_of words u
  bit_other same u d = elim (cases_Bool (u / 64 == t / 64)) [
    | inl y ↦ let e = eqb-true (u / 64) (t / 64) y in
        bit_here u e ∙ same (u % 64) (low u) (λ q. d (same_place u t e q)) ∙ ap (λ k. bit_at (slice_index words k) (u % 64)) (sym e)
    | inr n ↦ bit_elsewhere u (λ q. cc (sym (eq-eqb (u / 64) (t / 64) q) ∙ n))
  ]

-- a word with the bit k set
pub set_same : (word k : ℕ) → k < 64 → bit_at (bit_or word (2 ^ k)) k ≡ 1
set_same word k a = ap (λ m. bit_at (bit_or word m) k) (sym (shifted k a)) ∙ bit_at_set_same w64 word k a

pub set_other : (word k j : ℕ) → k < 64 → j ≢ k → bit_at (bit_or word (2 ^ k)) j ≡ bit_at word j
set_other word k j a d = ap (λ m. bit_at (bit_or word m) j) (sym (shifted k a)) ∙ bit_at_set_other w64 word k a j d

-- a word with the bit k cleared
pub clear_same : (word k : ℕ) → k < 64 → bit_at (bit_and word (2 ^ 64 - 1 - 2 ^ k)) k ≡ 0
clear_same word k a = ap (λ m. bit_at (bit_and word (2 ^ 64 - 1 - m)) k) (sym (shifted k a)) ∙ bit_at_clear_same w64 word k a

pub clear_other : (word k j : ℕ) → k < 64 → j < 64 → j ≢ k → bit_at (bit_and word (2 ^ 64 - 1 - 2 ^ k)) j ≡ bit_at word j
clear_other word k j a b d = ap (λ m. bit_at (bit_and word (2 ^ 64 - 1 - m)) j) (sym (shifted k a)) ∙ bit_at_clear_other w64 word k a j b d
