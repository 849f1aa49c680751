-- The next request of a direction, over the list of what waits.
use Rattle.std.proofs.Common.{◌≡◌, ◌<◌, ◌≤◌, ◌==◌, ◌&&◌, ◌||◌, inl, inr, ℕ, Bool, true, false, cond, sym, ap, subst, ◌∙◌, refl, arith, Some, None, Option, List, [], ◌∷◌}
use Rattle.std.specs.Prelude.{if◌then◌else◌, nat_lt, nat_le}
use Rattle.std.proofs.lemmas.Bool.{ltb-true, ltb-false, leb-true, le-leb, eqb-true, eq-eqb, cases_lt, cases_eq}
use Rattle.std.specs.Ordering.{nat_cmp, is_eq}
use Rattle.std.specs.BTreeMap.{is_at}
use Rattle.std.specs.Map.{lookup, keys_of, values_of}
use Rattle.std.specs.Cmp.{nat_cmp_total, tied_itself}
use Rattle.std.specs.FinMap.{get, entries, values, entries_sorted}
use Rattle.std.specs.List.{filter}
use Rattle.std.specs.List.Sorted.{IsStrictlySortedBy}
use Rattle.std.proofs.lemmas.Map.Keys.{sorted_head, sorted_tail}
use Rattle.blk_bio.specs.declared.bio.Dir.{Dir}
use Rattle.blk_sched.specs.Meaning.{Waiting, Pending}
use Rattle.blk_sched.proofs.Maps.{behind, at_front, in_order, looked_up}
use Rattle.blk_index.specs.Index.{IsNext, NoNext, IsBefore}
use Rattle.blk_index.specs.Inside.Search.{IsIdOf}
use Rattle.blk_deadline.specs.declared.Last.{Last}
use Rattle.blk_deadline.specs.Choice.{has_dir, sorts_before, first_by_sector, first_by, after_last, from_sector}
use Rattle.blk_deadline.specs.Inside.Parts.{lies_at}
use Rattle.blk_deadline.proofs.Served.{same_is, is_same_dir}

-- ---- tests

or_true : (b : Bool) → (b || true) ≡ true
or_true true = refl
or_true false = refl

left : (a b : Bool) → (a && b) ≡ true → a ≡ true
left true b h = refl
left false b h = h

right : (a b : Bool) → (a && b) ≡ true → b ≡ true
right true b h = h
right false b h = cc

below_other : (a b : ℕ) → a ≤ b → (a ≡ b → ⊥) → a < b
below_other a b le differ = elim (cases_eq a b) [ inl same ↦ absurd (differ same) | inr other ↦ omega arith ]

apart : (id k : ℕ) → is_eq (nat_cmp id k) ≡ false → id ≡ k → ⊥
apart id k e same = let a : true ≡ false = sym (ap is_eq (tied_itself nat_cmp_total id)) ∙ ap (λ n. is_eq (nat_cmp id n)) same ∙ e in cc

-- ---- before, as a test and as a fact

lt_holds : (a b : ℕ) → a < b → nat_lt a b ≡ true
lt_holds a b h = elim (nat_lt a b) as (λ t. nat_lt a b ≡ t → t ≡ true) [
  | true ↦ λ _. refl
  | false ↦ λ e. let more = ltb-false a b e in absurd (omega arith)
] refl

is_before : (f i g j : ℕ) → IsBefore f i g j → sorts_before f i g j ≡ true
is_before f i g j (inl lt) = ap (λ b. b || (f == g && nat_lt i j)) (lt_holds f g lt)
is_before f i g j (inr (e, lt)) = ap (λ b. nat_lt f g || (b && nat_lt i j)) (eq-eqb f g e) ∙ ap (λ b. nat_lt f g || b) (lt_holds i j lt) ∙ or_true (nat_lt f g)

from_before : (f i g j : ℕ) → sorts_before f i g j ≡ true → IsBefore f i g j
from_before f i g j h = elim (nat_lt f g) as (λ t. nat_lt f g ≡ t → t || (f == g && nat_lt i j) ≡ true → IsBefore f i g j) [
  | true ↦ λ e _. inl (ltb-true f g e)
  | false ↦ λ _ r. inr (eqb-true f g (left (f == g) (nat_lt i j) r), ltb-true i j (right (f == g) (nat_lt i j) r))
] refl h

-- of two that differ one comes first
one_first : (f i g j : ℕ) → (i ≡ j → ⊥) → (sorts_before f i g j ≡ true → ⊥) → sorts_before g j f i ≡ true
one_first f i g j differ not_before = elim (cases_lt g f) [
  | inl lt ↦ is_before g j f i (inl lt)
  | inr le ↦ elim (cases_eq f g) [
    | inl same ↦ elim (cases_lt j i) [
      | inl lt ↦ is_before g j f i (inr (sym same, lt))
      | inr more ↦ absurd (let strict : i < j = below_other i j more differ in not_before (is_before f i g j (inr (same, strict))))
    ]
    | inr other ↦ absurd (not_before (is_before f i g j (inl (below_other f g le other))))
  ]
]

-- ---- the first of a list

abbrev Entries : Type 0
Entries = List (ℕ × Waiting)

abbrev before : Waiting → Waiting → Bool
before v w = sorts_before v.extent.first v.id w.extent.first w.id

-- what comes first is there, and passes the test
came_from : (p : Waiting → Bool) (es : Entries) → IsStrictlySortedBy nat_cmp (keys_of es) → (u : Waiting) → first_by (filter p (values_of es)) ≡ Some u → (k : ℕ) × (lookup (is_at (nat_cmp k)) es ≡ Some u) × (p u ≡ true)
came_from p [] s u h = absurd (cc)
came_from p (e ∷ es) s u h =
    let tail = came_from p es (sorted_tail nat_cmp e.0 (keys_of es) s) in
    let shift = (λ (v : Waiting) (c : (k : ℕ) × (lookup (is_at (nat_cmp k)) es ≡ Some v) × (p v ≡ true)). let r : (k : ℕ) × (lookup (is_at (nat_cmp k)) (e ∷ es) ≡ Some v) × (p v ≡ true) = (c.0, behind e es c.0 v (sorted_head nat_cmp e.0 (keys_of es) s) c.1, c.2) in r) in
    elim (p e.1) as (λ b. p e.1 ≡ b → first_by (cond b (e.1 ∷ filter p (values_of es)) (filter p (values_of es))) ≡ Some u → (k : ℕ) × (lookup (is_at (nat_cmp k)) (e ∷ es) ≡ Some u) × (p u ≡ true)) [
      | true ↦ λ passes g.
          elim (first_by (filter p (values_of es))) as (λ o. first_by (filter p (values_of es)) ≡ o → first_by_sector e.1 o ≡ Some u → (k : ℕ) × (lookup (is_at (nat_cmp k)) (e ∷ es) ≡ Some u) × (p u ≡ true)) [
            | None ↦ λ _ r. let same : e.1 ≡ u = cc in (e.0, at_front e es ∙ r, ap p (sym same) ∙ passes)
            | Some v ↦ λ is r. elim (before v e.1) as (λ t. (if t then Some v else Some e.1) ≡ Some u → (k : ℕ) × (lookup (is_at (nat_cmp k)) (e ∷ es) ≡ Some u) × (p u ≡ true)) [
              | true ↦ λ q. shift u (tail u (is ∙ q))
              | false ↦ λ q. let same : e.1 ≡ u = cc in (e.0, at_front e es ∙ q, ap p (sym same) ∙ passes)
            ] r
          ] refl g
      | false ↦ λ _ g. shift u (tail u g)
    ] refl h

first_at : (p : Waiting → Bool) (es : Entries) → IsStrictlySortedBy nat_cmp (keys_of es) → ((k : ℕ) (v : Waiting) → lookup (is_at (nat_cmp k)) es ≡ Some v → v.id ≡ k) → (id : ℕ) (w : Waiting) → lookup (is_at (nat_cmp id)) es ≡ Some w → p w ≡ true → ((k : ℕ) (v : Waiting) → lookup (is_at (nat_cmp k)) es ≡ Some v → p v ≡ true → before v w ≡ true → ⊥) → first_by (filter p (values_of es)) ≡ Some w
first_at p [] s named id w f pw least = absurd (cc)
first_at p (e ∷ es) s named id w f pw least =
    let above = sorted_head nat_cmp e.0 (keys_of es) s in
    let tail_sorted = sorted_tail nat_cmp e.0 (keys_of es) s in
    elim (is_eq (nat_cmp id e.0)) as (λ b. is_eq (nat_cmp id e.0) ≡ b → cond b (Some e.1) (lookup (is_at (nat_cmp id)) es) ≡ Some w → first_by (filter p (e.1 ∷ values_of es)) ≡ Some w) [
      | true ↦ λ _ g.
          let same : e.1 ≡ w = cc in
          ap (λ b. first_by (cond b (e.1 ∷ filter p (values_of es)) (filter p (values_of es)))) (ap p same ∙ pw)
          ∙ ap (λ (x : Waiting). first_by_sector x (first_by (filter p (values_of es)))) same
          ∙ elim (first_by (filter p (values_of es))) as (λ o. first_by (filter p (values_of es)) ≡ o → first_by_sector w o ≡ Some w) [
            | None ↦ λ _. refl
            | Some u ↦ λ is. elim (before u w) as (λ t. before u w ≡ t → (if t then Some u else Some w) ≡ Some w) [
              | true ↦ λ less. absurd (let c = came_from p es tail_sorted u is in least c.0 u (behind e es c.0 u above c.1) c.2 less)
              | false ↦ λ _. refl
            ] refl
          ] refl
      | false ↦ λ other g.
          let rest = first_at p es tail_sorted (λ k v h. named k v (behind e es k v above h)) id w g pw (λ k v h pv less. least k v (behind e es k v above h) pv less) in
          elim (p e.1) as (λ b. p e.1 ≡ b → first_by (cond b (e.1 ∷ filter p (values_of es)) (filter p (values_of es))) ≡ Some w) [
            | true ↦ λ passes.
                let own : e.1.id ≡ e.0 = named e.0 e.1 (at_front e es) in
                let w_own : w.id ≡ id = named id w (behind e es id w above g) in
                let differ : (e.1.id ≡ w.id → ⊥) = λ same. apart id e.0 other (sym w_own ∙ sym same ∙ own) in
                ap (first_by_sector e.1) rest
                ∙ ap (λ b. if b then Some w else Some e.1) (one_first e.1.extent.first e.1.id w.extent.first w.id differ (least e.0 e.1 (at_front e es) passes))
            | false ↦ λ _. rest
          ] refl
    ] refl f

-- ---- the next one

abbrev test_of : Dir → Last → Waiting → Bool
test_of dir l w = has_dir dir w && sorts_before l.first l.id w.extent.first w.id

pub next_is : (m : Pending) (dir : Dir) (last : Option Last) (l : Last) (id : ℕ) (o : Option Waiting) → ((k : ℕ) (v : Waiting) → get m k ≡ Some v → v.id ≡ k) → last ≡ Some l → l.dir ≡ dir → o ≡ get m id → IsNext dir l.first l.id (get m) id → o ≡ after_last dir last (values m)
next_is m dir last l id o named is same read best =
    let w = best.waiting in
    let own : w.id ≡ id = named id w best.is_found in
    read ∙ best.is_found
    ∙ sym (first_at (test_of dir l) (entries m) (in_order (entries m) (entries_sorted m)) (λ k v h. named k v (looked_up m k ∙ h)) id w (sym (looked_up m id) ∙ best.is_found)
    (ap (λ b. b && sorts_before l.first l.id w.extent.first w.id) (same_is w.extent.dir dir best.same_dir) ∙ is_before l.first l.id w.extent.first w.id (subst (λ (n : ℕ). IsBefore l.first l.id w.extent.first n) (sym own) best.after))
    (λ k v h pv less.
    let there : get m k ≡ Some v = looked_up m k ∙ h in
    let v_own : v.id ≡ k = named k v there in
    best.least k v there (is_same_dir v.extent.dir dir (left (has_dir dir v) (sorts_before l.first l.id v.extent.first v.id) pv))
    (subst (λ (n : ℕ). IsBefore l.first l.id v.extent.first n) v_own (from_before l.first l.id v.extent.first v.id (right (has_dir dir v) (sorts_before l.first l.id v.extent.first v.id) pv)))
    (subst (λ (n : ℕ). IsBefore v.extent.first n w.extent.first id) v_own (subst (λ (n : ℕ). IsBefore v.extent.first v.id w.extent.first n) own (from_before v.extent.first v.id w.extent.first w.id less)))))
    ∙ sym (ap (λ (x : Option Last). after_last dir x (values m)) is ∙ ap (λ b. if b then first_by (filter (test_of dir l) (values m)) else None) (same_is l.dir dir same))

pub none_next : (m : Pending) (dir : Dir) (last : Option Last) (l : Last) → ((k : ℕ) (v : Waiting) → get m k ≡ Some v → v.id ≡ k) → last ≡ Some l → l.dir ≡ dir → NoNext dir l.first l.id (get m) → None ≡ after_last dir last (values m)
none_next m dir last l named is same none =
    elim (first_by (filter (test_of dir l) (values m))) as (λ o. first_by (filter (test_of dir l) (values m)) ≡ o → None ≡ o) [
      | None ↦ λ _. refl
      | Some u ↦ λ e. absurd (
          let c = came_from (test_of dir l) (entries m) (in_order (entries m) (entries_sorted m)) u e in
          let there : get m c.0 ≡ Some u = looked_up m c.0 ∙ c.1 in
          none c.0 u there (is_same_dir u.extent.dir dir (left (has_dir dir u) (sorts_before l.first l.id u.extent.first u.id) c.2))
          (subst (λ (n : ℕ). IsBefore l.first l.id u.extent.first n) (named c.0 u there) (from_before l.first l.id u.extent.first u.id (right (has_dir dir u) (sorts_before l.first l.id u.extent.first u.id) c.2))))
    ] refl
    ∙ sym (ap (λ (x : Option Last). after_last dir x (values m)) is ∙ ap (λ b. if b then first_by (filter (test_of dir l) (values m)) else None) (same_is l.dir dir same))

-- ---- the next one from a sector on

abbrev from_test : Dir → ℕ → Waiting → Bool
from_test dir sector w = has_dir dir w && nat_le sector w.extent.first

le_holds : (a b : ℕ) → a ≤ b → nat_le a b ≡ true
le_holds a b h = le-leb a b h

-- the request of id 0 that begins there comes before all others that are looked for
pub lowest_is : (m : Pending) (dir : Dir) (sector : ℕ) → ((k : ℕ) (v : Waiting) → get m k ≡ Some v → v.id ≡ k) → lies_at dir sector (get m 0) ≡ true → IsIdOf (get m) (from_sector dir sector (values m)) 0
lowest_is m dir sector named h = elim (get m 0) as (λ o. get m 0 ≡ o → lies_at dir sector o ≡ true → IsIdOf (get m) (from_sector dir sector (values m)) 0) [
  | None ↦ λ _ never. cc
  | Some w ↦ λ there yes.
      let at : w.extent.first ≡ sector = eqb-true _ _ (right (has_dir dir w) (w.extent.first == sector) yes) in
      let own : w.id ≡ 0 = named 0 w there in (
        w,
        there,
        first_at (from_test dir sector) (entries m) (in_order (entries m) (entries_sorted m)) (λ k v f. named k v (looked_up m k ∙ f)) 0 w (sym (looked_up m 0) ∙ there)
            (ap (λ b. b && nat_le sector w.extent.first) (left (has_dir dir w) (w.extent.first == sector) yes) ∙ le_holds sector w.extent.first (omega (arith, at)))
            (λ k v f pv less.
            let above : sector ≤ v.extent.first = leb-true _ _ (right (has_dir dir v) (nat_le sector v.extent.first) pv) in
            elim (from_before v.extent.first v.id w.extent.first w.id less) [ inl lt ↦ omega (arith, lt, above, at) | inr both ↦ let lt : v.id < w.id = both.1 in omega (arith, lt, own) ]),
      )
] refl h

-- what comes from a sector on and isn't that one comes after the sector and the id 0
after_lowest : (m : Pending) (dir : Dir) (sector k : ℕ) (v : Waiting) → lies_at dir sector (get m 0) ≡ false → get m k ≡ Some v → has_dir dir v ≡ true → sector ≤ v.extent.first → IsBefore sector 0 v.extent.first k
after_lowest m dir sector k v none there same above = elim (cases_eq sector v.extent.first) [
  | inr other ↦ inl (below_other sector v.extent.first above other)
  | inl is ↦ elim (cases_eq k 0) [
    | inr more ↦ inr (is, below_other 0 k (omega arith) (λ e. more (sym e)))
    | inl first ↦ absurd (
        let here : get m 0 ≡ Some v = sym (ap (get m) first) ∙ there in
        let yes : lies_at dir sector (Some v) ≡ true = ap (λ b. b && (v.extent.first == sector)) same ∙ eq-eqb _ _ (sym is) in
        let no : lies_at dir sector (Some v) ≡ false = sym (ap (lies_at dir sector) here) ∙ none in
        let both : true ≡ false = sym yes ∙ no in
        cc)
  ]
]

pub from_is : (m : Pending) (dir : Dir) (sector id : ℕ) → ((k : ℕ) (v : Waiting) → get m k ≡ Some v → v.id ≡ k) → lies_at dir sector (get m 0) ≡ false → IsNext dir sector 0 (get m) id → IsIdOf (get m) (from_sector dir sector (values m)) id
from_is m dir sector id named none best =
    let w = best.waiting in
    let own : w.id ≡ id = named id w best.is_found in
    let above : sector ≤ w.extent.first = elim best.after [ inl lt ↦ omega (arith, lt) | inr both ↦ omega (arith, both.0) ] in (
      w,
      best.is_found,
      first_at (from_test dir sector) (entries m) (in_order (entries m) (entries_sorted m)) (λ k v f. named k v (looked_up m k ∙ f)) id w (sym (looked_up m id) ∙ best.is_found)
          (ap (λ b. b && nat_le sector w.extent.first) (same_is w.extent.dir dir best.same_dir) ∙ le_holds sector w.extent.first above)
          (λ k v f pv less.
          let there : get m k ≡ Some v = looked_up m k ∙ f in
          let v_own : v.id ≡ k = named k v there in
          let same : has_dir dir v ≡ true = left (has_dir dir v) (nat_le sector v.extent.first) pv in
          let higher : sector ≤ v.extent.first = leb-true _ _ (right (has_dir dir v) (nat_le sector v.extent.first) pv) in
          best.least k v there (is_same_dir v.extent.dir dir same) (after_lowest m dir sector k v none there same higher)
          (subst (λ (n : ℕ). IsBefore v.extent.first n w.extent.first id) v_own (subst (λ (n : ℕ). IsBefore v.extent.first v.id w.extent.first n) own (from_before v.extent.first v.id w.extent.first w.id less)))),
    )

pub none_from : (m : Pending) (dir : Dir) (sector : ℕ) → lies_at dir sector (get m 0) ≡ false → NoNext dir sector 0 (get m) → from_sector dir sector (values m) ≡ None
none_from m dir sector none above =
    elim (first_by (filter (from_test dir sector) (values m))) as (λ o. first_by (filter (from_test dir sector) (values m)) ≡ o → o ≡ None) [
      | None ↦ λ _. refl
      | Some u ↦ λ e. absurd (
          let c = came_from (from_test dir sector) (entries m) (in_order (entries m) (entries_sorted m)) u e in
          let there : get m c.0 ≡ Some u = looked_up m c.0 ∙ c.1 in
          let same : has_dir dir u ≡ true = left (has_dir dir u) (nat_le sector u.extent.first) c.2 in
          let higher : sector ≤ u.extent.first = leb-true _ _ (right (has_dir dir u) (nat_le sector u.extent.first) c.2) in
          above c.0 u there (is_same_dir u.extent.dir dir same) (after_lowest m dir sector c.0 u none there same higher))
    ] refl
