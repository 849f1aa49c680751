-- The bios of a book, by where they are.
use Rattle.std.proofs.Common.{arith, ◌≡◌, ◌<◌, ◌==◌, ◌∙◌, ℕ, suc, List, [], ◌∷◌, ◌++◌, Bool, true, false, cond, Some, map, length, refl, sym, ap, subst, inl, inr, get_or, set}
use Rattle.std.specs.Prelude.{◌⊎◌, slice_get, All, IsPermutation}
use Rattle.std.proofs.lemmas.Bool.{cases_Bool}
use Rattle.std.proofs.lemmas.Bool.Decides.{eqb_tells}
use Rattle.std.proofs.lemmas.Option.{slice_get_within, get_or_from_slice_get, slice_get_read}
use Rattle.std.proofs.lemmas.List.{get_or-set_other, length-set}
use Rattle.std.proofs.lemmas.Grind.{get_or-set_at}
use Rattle.std.proofs.lemmas.List.Elements.{All-head}
use Rattle.std.proofs.lemmas.List.Sorted.{IsPermutation-refl, IsPermutation-cons, IsPermutation-middle, IsPermutation-trans}
use Rattle.blk_bio.specs.Bios.{Bio}
use Rattle.blk_text.specs.declared.script.Line.{Line}
use Rattle.blk_sim.specs.Simulated.{Placing, picked, moved_by}

pub picked-append : (t : Placing → Bool) (xs ys : List Placing) → picked t (xs ++ ys) ≡ picked t xs ++ picked t ys
unfolding picked
picked-append t [] ys = refl
picked-append t (x ∷ xs) ys = elim (cases_Bool (t x)) [
  | inl y ↦ rw y (ap (λ r. x.bio ∷ r) (picked-append t xs ys))
  | inr n ↦ rw n (picked-append t xs ys)
]

pub picked-moved : (t : Placing → Bool) (hw : ℕ) (l : Line) (ps : List Placing) → picked t (map (moved_by hw l) ps) ≡ picked (λ p. t (moved_by hw l p)) ps
unfolding picked
picked-moved t hw l [] = refl
picked-moved t hw l (p ∷ ps) = ap (λ r. cond (t (moved_by hw l p)) (p.bio ∷ r) r) (picked-moved t hw l ps)

pub picked-same : (t u : Placing → Bool) → ((p : Placing) → t p ≡ u p) → (ps : List Placing) → picked t ps ≡ picked u ps
unfolding picked
picked-same t u h [] = refl
picked-same t u h (p ∷ ps) = ap (λ b. cond b (p.bio ∷ picked t ps) (picked t ps)) (h p) ∙ ap (λ r. cond (u p) (p.bio ∷ r) r) (picked-same t u h ps)

pub picked-same_in : (P : Placing → Type 0) (t u : Placing → Bool) → ((p : Placing) → P p → t p ≡ u p) → (ps : List Placing) → All P ps → picked t ps ≡ picked u ps
unfolding picked
picked-same_in P t u h [] a = refl
picked-same_in P t u h (p ∷ ps) a = ap (λ b. cond b (p.bio ∷ picked t ps) (picked t ps)) (h p (All-head P p ps a)) ∙ ap (λ r. cond (u p) (p.bio ∷ r) r) (picked-same_in P t u h ps (λ k d lt. a (suc k) d (omega arith)))

pub picked-none : (t : Placing → Bool) → ((p : Placing) → t p ≡ false) → (ps : List Placing) → picked t ps ≡ []
unfolding picked
picked-none t h [] = refl
picked-none t h (p ∷ ps) = ap (λ b. cond b (p.bio ∷ picked t ps) (picked t ps)) (h p) ∙ picked-none t h ps

-- what passes the first test passes one of the two others, and only what passes it does
abbrev pub IsSplit : Bool → Bool → Bool → Type 0
IsSplit a b c = ((b ≡ a) × (c ≡ false)) ⊎ ((b ≡ false) × (c ≡ a))

by_first : (x : Bio) (us vs ts : List Bio) → IsPermutation (us ++ vs) ts → (b : Bool) → IsPermutation (cond b (x ∷ us) us ++ vs) (cond b (x ∷ ts) ts)
by_first x us vs ts h true = IsPermutation-cons x (us ++ vs) ts h
by_first x us vs ts h false = h

by_second : (x : Bio) (us vs ts : List Bio) → IsPermutation (us ++ vs) ts → (b : Bool) → IsPermutation (us ++ cond b (x ∷ vs) vs) (cond b (x ∷ ts) ts)
by_second x us vs ts h true = IsPermutation-trans (us ++ x ∷ vs) (x ∷ (us ++ vs)) (x ∷ ts) (IsPermutation-middle us x vs) (IsPermutation-cons x (us ++ vs) ts h)
by_second x us vs ts h false = h

pub picked-both : (t u v : Placing → Bool) → ((p : Placing) → IsSplit (t p) (u p) (v p)) → (ps : List Placing) → IsPermutation (picked u ps ++ picked v ps) (picked t ps)
unfolding picked
picked-both t u v h [] = IsPermutation-refl []
picked-both t u v h (p ∷ ps) = elim (h p) [
  | inl a ↦ rw (a.0, a.1) (by_first p.bio (picked u ps) (picked v ps) (picked t ps) (picked-both t u v h ps) (t p))
  | inr a ↦ rw (a.0, a.1) (by_second p.bio (picked u ps) (picked v ps) (picked t ps) (picked-both t u v h ps) (t p))
]

-- what stands at a place after a write
pub set_cases : {X : Type 0} (xs : List X) (k s : ℕ) (y r : X) → slice_get (set xs k y) s ≡ Some r → (((s == k) ≡ true) × (r ≡ y)) ⊎ (((s == k) ≡ false) × (slice_get xs s ≡ Some r))
set_cases xs k s y r h =
    let here : s < length (set xs k y) = slice_get_within (set xs k y) s r h in
    let same : length (set xs k y) ≡ length xs = length-set xs k y in
    let lt : s < length xs = omega arith in
    let at : get_or (set xs k y) s r ≡ r = get_or_from_slice_get (set xs k y) s r r h in
    elim (eqb_tells s k) [
      | inl a ↦ let lk : k < length xs = subst (λ n. n < length xs) a.1 lt in inl (a.0, sym at ∙ get_or-set_at xs k s y r a.1 lk)
      | inr a ↦ inr (a.0, slice_get_read xs (length xs) s r refl lt (sym at ∙ get_or-set_other xs k s y r a.1))
    ]
