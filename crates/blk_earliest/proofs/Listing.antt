-- The request that is due first, over the list of what waits.
use Rattle.std.proofs.Common.{◌≡◌, ◌<◌, ◌==◌, ◌&&◌, ◌||◌, inl, inr, ℕ, Bool, true, false, cond, sym, ap, subst, ◌∙◌, refl, arith, Some, None, Option, List, [], ◌∷◌}
use Rattle.std.specs.Prelude.{if◌then◌else◌, nat_lt, nat_le, IfSome, IfNone}
use Rattle.std.proofs.lemmas.Bool.{ltb-true, eqb-true, eq-eqb, lt-ltb, le-leb, leb-true, cases_lt, cases_eq}
use Rattle.std.specs.Ordering.{nat_cmp, is_eq}
use Rattle.std.specs.BTreeMap.{is_at}
use Rattle.std.specs.Map.{lookup, keys_of, values_of}
use Rattle.std.specs.Cmp.{nat_cmp_total, tied_itself}
use Rattle.std.specs.FinMap.{get, entries, values, entries_sorted}
use Rattle.std.specs.List.{filter}
use Rattle.std.specs.List.Sorted.{IsStrictlySortedBy}
use Rattle.std.proofs.lemmas.Map.Keys.{sorted_head, sorted_tail}
use Rattle.blk_sched.specs.Meaning.{Waiting, Pending}
use Rattle.blk_sched.proofs.Maps.{behind, at_front, in_order, looked_up}
use Rattle.blk_index.specs.Index.{IsBefore, IsFirstFrom, NoneFrom}
use Rattle.blk_earliest.specs.Choice.{comes_before, first_of_two, first_due, on_time}

-- ---- tests

or_true : (b : Bool) → (b || true) ≡ true
or_true true = refl
or_true false = refl

left : (a b : Bool) → (a && b) ≡ true → a ≡ true
left true b h = refl
left false b h = h

right : (a b : Bool) → (a && b) ≡ true → b ≡ true
right true b h = h
right false b h = cc

apart : (id k : ℕ) → is_eq (nat_cmp id k) ≡ false → id ≡ k → ⊥
apart id k e same = let a : true ≡ false = sym (ap is_eq (tied_itself nat_cmp_total id)) ∙ ap (λ n. is_eq (nat_cmp id n)) same ∙ e in cc

-- ---- before, as a test and as a fact

pub is_before : (v w : Waiting) → IsBefore v.due v.id w.due w.id → comes_before v w ≡ true
is_before v w (inl lt) = ap (λ b. b || ((v.due == w.due) && nat_lt v.id w.id)) (lt-ltb v.due w.due lt)
is_before v w (inr (e, lt)) = ap (λ b. nat_lt v.due w.due || (b && nat_lt v.id w.id)) (eq-eqb v.due w.due e) ∙ ap (λ b. nat_lt v.due w.due || b) (lt-ltb v.id w.id lt) ∙ or_true (nat_lt v.due w.due)

pub from_before : (v w : Waiting) → comes_before v w ≡ true → IsBefore v.due v.id w.due w.id
from_before v w h = elim (nat_lt v.due w.due) as (λ t. nat_lt v.due w.due ≡ t → t || ((v.due == w.due) && nat_lt v.id w.id) ≡ true → IsBefore v.due v.id w.due w.id) [
  | true ↦ λ e _. inl (ltb-true v.due w.due e)
  | false ↦ λ _ r. inr (eqb-true v.due w.due (left (v.due == w.due) (nat_lt v.id w.id) r), ltb-true v.id w.id (right (v.due == w.due) (nat_lt v.id w.id) r))
] refl h

-- of two that differ one comes first
one_first : (v w : Waiting) → (v.id ≡ w.id → ⊥) → (comes_before v w ≡ true → ⊥) → comes_before w v ≡ true
one_first v w differ not_before =
    elim (cases_lt w.due v.due) [
      | inl lt ↦ is_before w v (inl lt)
      | inr le ↦
          elim (cases_eq v.due w.due) [
            | inl same ↦
                elim (cases_lt w.id v.id) [
                  | inl lt ↦ is_before w v (inr (sym same, lt))
                  | inr more ↦ elim (cases_eq v.id w.id) [
                    | inl tie ↦ absurd (differ tie)
                    | inr other ↦ absurd (let strict : v.id < w.id = omega arith in not_before (is_before v w (inr (same, strict))))
                  ]
                ]
            | inr other ↦ absurd (let sooner : v.due < w.due = omega arith in not_before (is_before v w (inl sooner)))
          ]
    ]

-- ---- the first of a list

abbrev Entries : Type 0
Entries = List (ℕ × Waiting)

-- what comes first is there, and passes the test
came_from : (p : Waiting → Bool) (es : Entries) → IsStrictlySortedBy nat_cmp (keys_of es) → (u : Waiting) → first_due (filter p (values_of es)) ≡ Some u → (k : ℕ) × (lookup (is_at (nat_cmp k)) es ≡ Some u) × (p u ≡ true)
came_from p [] s u h = absurd (cc)
came_from p (e ∷ es) s u h =
    let tail = came_from p es (sorted_tail nat_cmp e.0 (keys_of es) s) in
    let shift = (λ (v : Waiting) (c : (k : ℕ) × (lookup (is_at (nat_cmp k)) es ≡ Some v) × (p v ≡ true)). let r : (k : ℕ) × (lookup (is_at (nat_cmp k)) (e ∷ es) ≡ Some v) × (p v ≡ true) = (c.0, behind e es c.0 v (sorted_head nat_cmp e.0 (keys_of es) s) c.1, c.2) in r) in
    elim (p e.1) as (λ b. p e.1 ≡ b → first_due (cond b (e.1 ∷ filter p (values_of es)) (filter p (values_of es))) ≡ Some u → (k : ℕ) × (lookup (is_at (nat_cmp k)) (e ∷ es) ≡ Some u) × (p u ≡ true)) [
      | true ↦ λ passes g.
          elim (first_due (filter p (values_of es))) as (λ o. first_due (filter p (values_of es)) ≡ o → first_of_two e.1 o ≡ Some u → (k : ℕ) × (lookup (is_at (nat_cmp k)) (e ∷ es) ≡ Some u) × (p u ≡ true)) [
            | None ↦ λ _ r. let same : e.1 ≡ u = cc in (e.0, at_front e es ∙ r, ap p (sym same) ∙ passes)
            | Some v ↦ λ is r. elim (comes_before v e.1) as (λ t. (if t then Some v else Some e.1) ≡ Some u → (k : ℕ) × (lookup (is_at (nat_cmp k)) (e ∷ es) ≡ Some u) × (p u ≡ true)) [
              | true ↦ λ q. shift u (tail u (is ∙ q))
              | false ↦ λ q. let same : e.1 ≡ u = cc in (e.0, at_front e es ∙ q, ap p (sym same) ∙ passes)
            ] r
          ] refl g
      | false ↦ λ _ g. shift u (tail u g)
    ] refl h

first_at : (p : Waiting → Bool) (es : Entries) → IsStrictlySortedBy nat_cmp (keys_of es) → ((k : ℕ) (v : Waiting) → lookup (is_at (nat_cmp k)) es ≡ Some v → v.id ≡ k) → (id : ℕ) (w : Waiting) → lookup (is_at (nat_cmp id)) es ≡ Some w → p w ≡ true → ((k : ℕ) (v : Waiting) → lookup (is_at (nat_cmp k)) es ≡ Some v → p v ≡ true → comes_before v w ≡ true → ⊥) → first_due (filter p (values_of es)) ≡ Some w
first_at p [] s named id w f pw least = absurd (cc)
first_at p (e ∷ es) s named id w f pw least =
    let above = sorted_head nat_cmp e.0 (keys_of es) s in
    let tail_sorted = sorted_tail nat_cmp e.0 (keys_of es) s in
    elim (is_eq (nat_cmp id e.0)) as (λ b. is_eq (nat_cmp id e.0) ≡ b → cond b (Some e.1) (lookup (is_at (nat_cmp id)) es) ≡ Some w → first_due (filter p (e.1 ∷ values_of es)) ≡ Some w) [
      | true ↦ λ _ g.
          let same : e.1 ≡ w = cc in
          ap (λ b. first_due (cond b (e.1 ∷ filter p (values_of es)) (filter p (values_of es)))) (ap p same ∙ pw)
          ∙ ap (λ (x : Waiting). first_of_two x (first_due (filter p (values_of es)))) same
          ∙ elim (first_due (filter p (values_of es))) as (λ o. first_due (filter p (values_of es)) ≡ o → first_of_two w o ≡ Some w) [
            | None ↦ λ _. refl
            | Some u ↦ λ is. elim (comes_before u w) as (λ t. comes_before u w ≡ t → (if t then Some u else Some w) ≡ Some w) [
              | true ↦ λ less. absurd (let c = came_from p es tail_sorted u is in least c.0 u (behind e es c.0 u above c.1) c.2 less)
              | false ↦ λ _. refl
            ] refl
          ] refl
      | false ↦ λ other g.
          let rest = first_at p es tail_sorted (λ k v h. named k v (behind e es k v above h)) id w g pw (λ k v h pv less. least k v (behind e es k v above h) pv less) in
          elim (p e.1) as (λ b. p e.1 ≡ b → first_due (cond b (e.1 ∷ filter p (values_of es)) (filter p (values_of es))) ≡ Some w) [
            | true ↦ λ passes.
                let own : e.1.id ≡ e.0 = named e.0 e.1 (at_front e es) in
                let w_own : w.id ≡ id = named id w (behind e es id w above g) in
                let differ : (e.1.id ≡ w.id → ⊥) = λ same. apart id e.0 other (sym w_own ∙ sym same ∙ own) in
                ap (first_of_two e.1) rest
                ∙ ap (λ b. if b then Some w else Some e.1) (one_first e.1 w differ (least e.0 e.1 (at_front e es) passes))
            | false ↦ λ _. rest
          ] refl
    ] refl f

-- ---- over what waits

abbrev Named : Pending → Type 0
Named m = (k : ℕ) (v : Waiting) → get m k ≡ Some v → v.id ≡ k

pub first_is : (m : Pending) (start id : ℕ) → Named m → IsFirstFrom start (get m) id → (w : Waiting) × (get m id ≡ Some w) × (first_due (on_time start (values m)) ≡ Some w)
first_is m start id named best =
    let w = best.waiting in (
      w,
      best.is_found,
      first_at (λ v. nat_le start v.due) (entries m) (in_order (entries m) (entries_sorted m)) (λ k v h. named k v (looked_up m k ∙ h)) id w (sym (looked_up m id) ∙ best.is_found) (le-leb start w.due best.from_start)
          (λ k v h late less.
          let there : get m k ≡ Some v = looked_up m k ∙ h in
          let v_own : v.id ≡ k = named k v there in
          let w_own : w.id ≡ id = named id w best.is_found in
          best.least k v there (leb-true start v.due late)
          (subst (λ (n : ℕ). IsBefore v.due n w.due id) v_own (subst (λ (n : ℕ). IsBefore v.due v.id w.due n) w_own (from_before v w less)))),
    )

pub none_is : (m : Pending) (start : ℕ) → NoneFrom start (get m) → first_due (on_time start (values m)) ≡ None
none_is m start none =
    elim (first_due (on_time start (values m))) as (λ o. first_due (on_time start (values m)) ≡ o → o ≡ None) [
      | None ↦ λ _. refl
      | Some u ↦ λ e. absurd (
          let c = came_from (λ v. nat_le start v.due) (entries m) (in_order (entries m) (entries_sorted m)) u e in
          none c.0 u (looked_up m c.0 ∙ c.1) (leb-true start u.due c.2))
    ] refl

-- from round 0 on all are due
all_from : (ws : List Waiting) → on_time 0 ws ≡ ws
all_from [] = refl
all_from (w ∷ ws) = ap (λ b. cond b (w ∷ on_time 0 ws) (on_time 0 ws)) (le-leb 0 w.due (omega arith)) ∙ ap (λ (xs : List Waiting). w ∷ xs) (all_from ws)

-- ---- the answers

pub some_on_time : (m : Pending) (start : ℕ) (r : Option ℕ) → Named m → IfSome r (IsFirstFrom start (get m)) → IfSome r (λ id. (w : Waiting) × (get m id ≡ Some w) × (first_due (on_time start (values m)) ≡ Some w))
some_on_time m start (Some id) named best = first_is m start id named best
some_on_time m start None named best = tt

pub none_on_time : (m : Pending) (start : ℕ) (r : Option ℕ) → IfNone r (NoneFrom start (get m)) → IfNone r (first_due (on_time start (values m)) ≡ None)
none_on_time m start (Some id) none = tt
none_on_time m start None none = none_is m start none

pub some_first : (m : Pending) (r : Option ℕ) → Named m → IfSome r (IsFirstFrom 0 (get m)) → IfSome r (λ id. (w : Waiting) × (get m id ≡ Some w) × (first_due (values m) ≡ Some w))
some_first m r named best = subst (λ (ws : List Waiting). IfSome r (λ id. (w : Waiting) × (get m id ≡ Some w) × (first_due ws ≡ Some w))) (all_from (values m)) (some_on_time m 0 r named best)

pub none_first : (m : Pending) (r : Option ℕ) → IfNone r (NoneFrom 0 (get m)) → IfNone r (first_due (values m) ≡ None)
none_first m r none = subst (λ (ws : List Waiting). IfNone r (first_due ws ≡ None)) (all_from (values m)) (none_on_time m 0 r none)

pub none_waits : (m : Pending) (r : Option ℕ) → IfNone r (NoneFrom 0 (get m)) → IfNone r ((k : ℕ) (w : Waiting) → get m k ≡ Some w → ⊥)
none_waits m (Some id) none = tt
none_waits m None none = λ k w there. none k w there (omega arith)
