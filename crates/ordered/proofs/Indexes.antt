-- What a change of one thing does to an index.
use Rattle.std.proofs.Common.{◌≡◌, ◌≢◌, ℕ, Bool, true, false, cond, sym, ap, ◌∙◌, refl, inl, inr, Some, None, Option}
use Rattle.std.specs.Ordering.{eq_by_cmp}
use Rattle.std.specs.Cmp.{IsTotalOrder, eq_by_cmp_equiv}
use Rattle.std.specs.declared.cmp.Ordering.{Ordering}
use Rattle.std.proofs.lemmas.Bool.Decides.{eqb_tells}
use Rattle.ordered.specs.Ordered.{Adds, Takes, Keeps, is_key, IsIndexOf}

nothing_left : (b : Bool) → cond b false b ≡ false
nothing_left true = refl
nothing_left false = refl

just_it : (b : Bool) → cond b true false ≡ b
just_it true = refl
just_it false = refl

-- a key, if there is one, is of this id
abbrev pub IsOf : {K : Type 0} → (K → ℕ) → ℕ → Option K → Type 0
IsOf id_of id None = Unit {0}
IsOf id_of id (Some e) = id_of e ≡ id

-- under one id x, and under others as before
abbrev pub Gets : {K : Type 0} → (ℕ → Option K) → ℕ → Option K → (ℕ → Option K) → Type 0
Gets old id x new = (new id ≡ x) × ((k : ℕ) → k ≢ id → new k ≡ old k)

module _ {K : Type 0} (cmp : K → K → Ordering) (total : IsTotalOrder cmp) (id_of : K → ℕ) (one : (a b : K) → eq_by_cmp cmp a b ≡ true → id_of a ≡ id_of b) where
  abbrev Keys : Type 0
  Keys = ℕ → Option K

  abbrev Has : Type 0
  Has = K → Bool

  abbrev Is : Keys → Has → Type 0
  Is = IsIndexOf cmp id_of

  alike : (a b q : K) → eq_by_cmp cmp a b ≡ true → eq_by_cmp cmp a q ≡ eq_by_cmp cmp b q
  alike = (eq_by_cmp_equiv total).congr

  turned : (a b : K) → eq_by_cmp cmp a b ≡ eq_by_cmp cmp b a
  turned = (eq_by_cmp_equiv total).symm

  -- what is like one key is not like another one
  unlike : (a b q : K) → eq_by_cmp cmp a b ≡ false → eq_by_cmp cmp a q ≡ true → eq_by_cmp cmp b q ≡ false
  unlike a b q other e = turned b q ∙ sym (alike a q b e) ∙ other

  -- a key of another id is another one
  apart : (x : Option K) (id : ℕ) (q : K) → IsOf id_of id x → id_of q ≢ id → is_key cmp x q ≡ false
  apart None id q of other = refl
  apart (Some e) id q of other = elim (eq_by_cmp cmp e q) as (λ b. eq_by_cmp cmp e q ≡ b → b ≡ false) [
    | true ↦ λ same. absurd (other (sym (one e q same) ∙ of))
    | false ↦ λ _. refl
  ] refl

  module _ (old new : Keys) (id : ℕ) where
    -- it is enough to look at this id, and at others
    by_id : (y : Option K) (now : Has) → Gets old id y new → ((q : K) → id_of q ≡ id → now q ≡ is_key cmp y q) → ((q : K) → id_of q ≢ id → now q ≡ is_key cmp (old (id_of q)) q) → Is new now
    by_id y now gets same others q = elim (eqb_tells (id_of q) id) [
      | inl a ↦ same q a.1 ∙ ap (λ o. is_key cmp o q) (sym (ap new a.1 ∙ gets.0))
      | inr a ↦ others q a.1 ∙ ap (λ o. is_key cmp o q) (sym (gets.1 (id_of q) a.1))
    ]

    was : (x : Option K) (has : Has) → Is old has → old id ≡ x → (q : K) → id_of q ≡ id → has q ≡ is_key cmp x q
    was x has are is q e = are q ∙ ap (λ o. is_key cmp o q) (ap old e ∙ is)

    -- its key is taken out, if it had one, and one is put in, if it gets one
    pub replaced : (x y : Option K) (has mid now : Has) → Is old has → old id ≡ x → IsOf id_of id x → IsOf id_of id y → Gets old id y new
        → ((q : K) → mid q ≡ cond (is_key cmp x q) false (has q)) → ((q : K) → now q ≡ cond (is_key cmp y q) true (mid q)) → Is new now
    replaced x y has mid now are is of_x of_y gets takes adds = by_id y now gets
        (λ q e. adds q ∙ ap (cond (is_key cmp y q) true) (takes q ∙ ap (cond (is_key cmp x q) false) (was x has are is q e) ∙ nothing_left (is_key cmp x q)) ∙ just_it (is_key cmp y q))
        (λ q e. adds q ∙ ap (λ b. cond b true (mid q)) (apart y id q of_y e) ∙ takes q ∙ ap (λ b. cond b false (has q)) (apart x id q of_x e) ∙ are q)

    -- another key is put in, and then its own is taken out
    pub moved : (v w : K) (has mid now : Has) → Is old has → old id ≡ Some v → id_of v ≡ id → id_of w ≡ id → Gets old id (Some w) new
        → Adds cmp has w mid → Takes cmp mid v now → eq_by_cmp cmp v w ≡ false → Is new now
    moved v w has mid now are is of_v of_w gets adds takes other = by_id (Some w) now gets
        (λ q e. takes q ∙ ap (cond (eq_by_cmp cmp v q) false) (adds q ∙ ap (cond (eq_by_cmp cmp w q) true) (was (Some v) has are is q e)) ∙ left q)
        (λ q e. takes q ∙ ap (λ b. cond b false (mid q)) (apart (Some v) id q of_v e) ∙ adds q ∙ ap (λ b. cond b true (has q)) (apart (Some w) id q of_w e) ∙ are q)
      where
        left : (q : K) → cond (eq_by_cmp cmp v q) false (cond (eq_by_cmp cmp w q) true (eq_by_cmp cmp v q)) ≡ eq_by_cmp cmp w q
        left q = elim (eq_by_cmp cmp v q) as (λ x. eq_by_cmp cmp v q ≡ x → cond x false (cond (eq_by_cmp cmp w q) true x) ≡ eq_by_cmp cmp w q) [
          | true ↦ λ e. sym (unlike v w q other e)
          | false ↦ λ _. just_it (eq_by_cmp cmp w q)
        ] refl

    -- it gets a key that is its own
    pub stayed : (v w : K) (has : Has) → Is old has → old id ≡ Some v → eq_by_cmp cmp v w ≡ true → Gets old id (Some w) new → Is new has
    stayed v w has are is same gets = by_id (Some w) has gets (λ q e. was (Some v) has are is q e ∙ alike v w q same) (λ q e. are q)

  pub kept : (old new : Keys) (has now : Has) → Is old has → ((k : ℕ) → new k ≡ old k) → Keeps has now → Is new now
  kept old new has now are same keeps q = keeps q ∙ are q ∙ ap (λ o. is_key cmp o q) (sym (same (id_of q)))

  -- a key that nothing has is put in, and taken out again
  pub undone : (old : Keys) (a : K) (has mid now : Has) → Is old has → is_key cmp (old (id_of a)) a ≡ false → Adds cmp has a mid → Takes cmp mid a now → Is old now
  undone old a has mid now are absent adds takes q = elim (eq_by_cmp cmp a q) as (λ b. eq_by_cmp cmp a q ≡ b → now q ≡ is_key cmp (old (id_of q)) q) [
    | true ↦ λ e. takes q ∙ ap (λ b. cond b false (mid q)) e ∙ sym (still (old (id_of a)) e absent) ∙ ap (λ k. is_key cmp (old k) q) (one a q e)
    | false ↦ λ e. takes q ∙ ap (λ b. cond b false (mid q)) e ∙ adds q ∙ ap (λ b. cond b true (has q)) e ∙ are q
  ] refl
    where
      still : (x : Option K) → eq_by_cmp cmp a q ≡ true → is_key cmp x a ≡ false → is_key cmp x q ≡ false
      still None e none = refl
      still (Some v) e none = turned v q ∙ sym (alike a q v e) ∙ turned a v ∙ none
