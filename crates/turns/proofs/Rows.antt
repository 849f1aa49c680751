-- What came of runs, one after another.
use Rattle.std.proofs.Common.{ℕ, ◌≡◌, ◌∙◌, ◌∷◌, ◌++◌, [], List, Result, Ok, Err, ◌<◌, ◌+◌, inl, inr, arith, sym, ap, subst, length, get_or}
use Rattle.std.proofs.lemmas.List.{get_or_append_left, get_or_push, length_push}
use Rattle.std.proofs.lemmas.Bool.{cases_lt}
use denote.Param.Members.{Shared}
use Rattle.turns.specs.Turns.{HaveRun, IsFirstStopped}

module _ {F X E : Type 0} (g : Shared F (ℕ × Unit {0}) (Result X E)) (f : F) where
  pub one_more : (n : ℕ) (rows : List X) (x : X) → HaveRun g f n rows → g.post f (n, tt) (Ok x) → HaveRun g f (n + 1) (rows ++ x ∷ [])
  one_more n rows x have is = record {
    each = length_push rows x ∙ ap (λ k. k + 1) have.each;
    ran = λ i d h.
        let A : X → Type 0 = λ r. g.post f (i, tt) (Ok r) in
        elim (cases_lt i n) [
          | inl low ↦ subst A (sym (get_or_append_left rows (x ∷ []) d i (subst (λ k. i < k) (sym have.each) low))) (have.ran i d low)
          | inr high ↦
              let last : n ≡ i = omega (arith, h, high) in
              subst A (sym (get_or_push rows x d i (have.each ∙ last))) (subst (λ k. g.post f (k, tt) (Ok x)) last is)
        ];
  }

  pub refused_at : (until n : ℕ) (rows : List X) (e : E) → n < until → HaveRun g f n rows → g.post f (n, tt) (Err e) → IsFirstStopped g f until e
  refused_at until n rows e inside have is = record {
    before = rows;
    within = subst (λ k. k < until) (sym have.each) inside;
    ran = subst (λ k. HaveRun g f k rows) (sym have.each) have;
    refused = subst (λ k. g.post f (k, tt) (Err e)) (sym have.each) is;
  }
