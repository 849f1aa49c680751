-- Ids that stand once in a list of bios.
use Rattle.std.proofs.Common.{◌≡◌, ◌∙◌, sym, ap, subst, refl, inl, inr, ℕ, ◌+◌, ◌≤◌, zero, suc, arith, List, [], ◌∷◌, ◌++◌, length, Some, None, ◌⊎◌, append_assoc}
use Rattle.std.proofs.Math.ListN.{take}
use Rattle.std.specs.List.{slice_get}
use Rattle.blk_bio.specs.declared.bio.BioId.{BioId}
use Rattle.blk_bio.specs.Bios.{Bio}
use Rattle.blk_trace.specs.Events.{AreOnce, HasId}

get_more : {X : Type 0} (xs : List X) (y : X) (k : ℕ) (x : X) → slice_get (xs ++ y ∷ []) k ≡ Some x → (slice_get xs k ≡ Some x) ⊎ ((k ≡ length xs) × (y ≡ x))
get_more [] y zero x h = inr (refl, (let e : y ≡ x = cc in e))
get_more [] y (suc k) x h = absurd (let e : None ≡ Some x = h in cc)
get_more (z ∷ xs) y zero x h = inl h
get_more (z ∷ xs) y (suc k) x h = elim (get_more xs y k x h) [ inl a ↦ inl a | inr b ↦ inr ((let e = b.0 in omega arith), b.1) ]

-- what stands in the first of two lists, or in the second
get_left : {X : Type 0} (xs ys : List X) (k : ℕ) (x : X) → slice_get xs k ≡ Some x → slice_get (xs ++ ys) k ≡ Some x
get_left [] ys k x h = absurd (let e : None ≡ Some x = h in cc)
get_left (z ∷ xs) ys zero x h = h
get_left (z ∷ xs) ys (suc k) x h = get_left xs ys k x h

get_right : {X : Type 0} (xs ys : List X) (k : ℕ) (x : X) → slice_get ys k ≡ Some x → (j : ℕ) × (slice_get (xs ++ ys) j ≡ Some x)
get_right [] ys k x h = (k, h)
get_right (z ∷ xs) ys k x h = let r = get_right xs ys k x h in (suc r.0, r.1)

get_either : {X : Type 0} (xs ys : List X) (k : ℕ) (x : X) → slice_get (xs ++ ys) k ≡ Some x → (slice_get xs k ≡ Some x) ⊎ ((j : ℕ) × (slice_get ys j ≡ Some x))
get_either [] ys k x h = inr (k, h)
get_either (z ∷ xs) ys zero x h = inl h
get_either (z ∷ xs) ys (suc k) x h = get_either xs ys k x h

pub has_left : (xs ys : List Bio) (id : BioId) → HasId xs id → HasId (xs ++ ys) id
has_left xs ys id h = (h.0, (h.1.0, get_left xs ys h.0 h.1.0 h.1.1, h.1.2))

pub has_right : (xs ys : List Bio) (id : BioId) → HasId ys id → HasId (xs ++ ys) id
has_right xs ys id h = let r = get_right xs ys h.0 h.1.0 h.1.1 in (r.0, (h.1.0, r.1, h.1.2))

pub has_neither : (xs ys : List Bio) (id : BioId) → (HasId xs id → ⊥) → (HasId ys id → ⊥) → HasId (xs ++ ys) id → ⊥
has_neither xs ys id p q h = elim (get_either xs ys h.0 h.1.0 h.1.1) [ inl a ↦ p (h.0, (h.1.0, a, h.1.2)) | inr b ↦ q (b.0, (h.1.0, b.1, h.1.2)) ]

-- one more bio, whose id is new
pub once_more : (xs : List Bio) (y : Bio) → AreOnce xs → (HasId xs y.id → ⊥) → AreOnce (xs ++ y ∷ [])
once_more xs y once new j k b c p q e = elim (get_more xs y j b p) [
  | inl p' ↦ elim (get_more xs y k c q) [
    | inl q' ↦ once j k b c p' q' e
    | inr v ↦ absurd (new (j, (b, p', e ∙ sym (ap (λ (x : Bio). x.id) v.1))))
  ]
  | inr u ↦ elim (get_more xs y k c q) [
    | inl q' ↦ absurd (new (k, (c, q', sym e ∙ sym (ap (λ (x : Bio). x.id) u.1))))
    | inr v ↦ u.0 ∙ sym v.0
  ]
]

taken_more : (xs : List Bio) (n : ℕ) (b : Bio) → slice_get xs n ≡ Some b → take (n + 1) xs ≡ take n xs ++ b ∷ []
taken_more [] n b h = absurd (let e : None ≡ Some b = h in cc)
taken_more (x ∷ xs) zero b h = (let e : x ≡ b = (let s : Some x ≡ Some b = h in cc) in ap (λ y. y ∷ []) e)
taken_more (x ∷ xs) (suc n) b h = let e : suc n + 1 ≡ suc (n + 1) = omega arith in ap (λ k. take k (x ∷ xs)) e ∙ ap (λ l. x ∷ l) (taken_more xs n b h)

-- the bios up to the next place, where the id there is new
pub one_taken : (before bios : List Bio) (n : ℕ) (b : Bio) → slice_get bios n ≡ Some b → AreOnce (before ++ take n bios) → (HasId (before ++ take n bios) b.id → ⊥) → AreOnce (before ++ take (n + 1) bios)
one_taken before bios n b stands once new =
    subst AreOnce (append_assoc before (take n bios) (b ∷ []) ∙ ap (λ l. before ++ l) (sym (taken_more bios n b stands))) (once_more (before ++ take n bios) b once new)

pub take_all : (xs : List Bio) (n : ℕ) → length xs ≤ n → take n xs ≡ xs
take_all [] zero h = refl
take_all [] (suc n) h = refl
take_all (x ∷ xs) zero h = absurd (omega arith)
take_all (x ∷ xs) (suc n) h = ap (λ l. x ∷ l) (take_all xs n (omega arith))
