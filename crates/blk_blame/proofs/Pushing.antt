-- One more that stands to its place as the others do to theirs.
use Rattle.std.proofs.Common.{◌≡◌, ◌<◌, ◌+◌, ◌++◌, ◌∷◌, [], ◌∙◌, ℕ, List, length, get_or, inl, inr, arith, ap, sym, subst}
use Rattle.std.proofs.lemmas.Bool.{cases_lt}
use Rattle.std.proofs.lemmas.List.{get_or_push, get_or_append_left, length_push}

pub pushed : {X : Type 0} (P : ℕ → X → Type 0) (n : ℕ) (old : List X) (x : X) (new : List X) → length old ≡ n → new ≡ old ++ x ∷ [] → ((k : ℕ) (r : X) → k < n → P k (get_or old k r)) → P n x
    → (length new ≡ n + 1) × ((k : ℕ) (r : X) → k < n + 1 → P k (get_or new k r))
pushed P n old x new long is before now = (
  ap length is ∙ length_push old x ∙ ap (λ m. m + 1) long,
  λ k r h. elim (cases_lt k n) [
    | inl low ↦ subst (P k) (sym (ap (λ l. get_or l k r) is ∙ get_or_append_left old (x ∷ []) r k (omega (arith, low, long)))) (before k r low)
    | inr high ↦
        let same : n ≡ k = omega (arith, h, high) in
        subst (P k) (sym (ap (λ l. get_or l k r) is ∙ get_or_push old x r k (omega (arith, long, same)))) (subst (λ m. P m x) same now)
  ],
)
