-- The tags of a take's tries, one after the other.
use Rattle.std.proofs.Common.{◌≡◌, ◌+◌, ◌<◌, ◌≤◌, ◌%◌, ◌++◌, ◌∷◌, ◌∙◌, ℕ, suc, List, [], sym, ap, inl, inr, arith}
use Rattle.std.proofs.lemmas.Bool.{cases_Bool, ltb-true, ltb-false}
use Rattle.std.proofs.lemmas.List.{append_assoc}
use Rattle.std.proofs.Math.Nat.{mod-lt, mod-eq_of_lt, mod-add-mod, mod_self}
use lib.Dec.{ltb}
use Rattle.blk_tags.specs.Tags.{tag_or_first, tried_from}

pub first_below : (depth t : ℕ) → 1 ≤ depth → tag_or_first depth t < depth
first_below depth t some = elim (cases_Bool (ltb t depth)) [
  | inl y ↦ rw y (ltb-true t depth y)
  | inr n ↦ rw n (omega (arith, some))
]

-- a tag up to the depth, as the tries take it
wrapped : (depth t : ℕ) → t ≤ depth → tag_or_first depth t ≡ t % depth
wrapped depth t few = elim (cases_Bool (ltb t depth)) [
  | inl y ↦ rw y (sym (mod-eq_of_lt (ltb-true t depth y)))
  | inr n ↦ let e : t ≡ depth = omega (arith, few, ltb-false t depth n) in rw n (sym (ap (λ k. k % depth) e ∙ mod_self depth))
]

pub starts : (depth first : ℕ) → first < depth → first ≡ (first + 0) % depth
starts depth first small = sym (mod-eq_of_lt small) ∙ ap (λ k. k % depth) (omega arith)

-- the next try is for the next tag
pub goes_on : (depth first n t : ℕ) → 1 ≤ depth → t ≡ (first + n) % depth → tag_or_first depth (t + 1) ≡ (first + (n + 1)) % depth
goes_on depth first n t some e =
    let small : t < depth = rw e (mod-lt (first + n) some) in
    wrapped depth (t + 1) (omega (arith, small)) ∙ ap (λ k. (k + 1) % depth) e ∙ mod-add-mod (first + n) depth 1 ∙ ap (λ k. k % depth) (omega arith)

-- one try more
pub one_more : (depth first n t : ℕ) (before tried after : List ℕ) → t ≡ (first + n) % depth → tried ≡ before ++ tried_from depth first n → after ≡ tried ++ t ∷ [] → after ≡ before ++ tried_from depth first (n + 1)
one_more depth first n t before tried after t_is so_far e =
    let next : suc n ≡ n + 1 = omega arith in
    e ∙ ap (λ (l : List ℕ). l ++ t ∷ []) so_far ∙ append_assoc before (tried_from depth first n) (t ∷ []) ∙ ap (λ k. before ++ (tried_from depth first n ++ k ∷ [])) t_is
    ∙ ap (λ k. before ++ tried_from depth first k) next
