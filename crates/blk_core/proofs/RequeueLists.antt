-- Requeue lists: what one more requeued request, or one fewer, changes.
use Rattle.std.proofs.Common.{◌≡◌, ◌≢◌, ◌∙◌, sym, ap, subst, refl, inl, inr, zero, suc, ℕ, ◌+◌, ◌<◌, arith, Bool, true, false, cond, List, [], ◌∷◌, ◌++◌, length, length-append, Option, Some, None, is_some, get_or, get_or-set_same, get_or-set_other, set, ◌⊎◌, ◌==◌}
use Rattle.std.specs.Prelude.{count_by}
use Rattle.std.specs.List.{slice_get}
use Rattle.std.proofs.lemmas.Bool.{eq-eqb, ne_eqb}
use Rattle.std.proofs.lemmas.Bool.Decides.{eqb_tells}
use Rattle.std.proofs.lemmas.List.Sums.{sum_by-set, sum_by-cons, sum_by_push}
use Rattle.std.proofs.Math.ListN.{replicate}
use Rattle.blk_bio.specs.declared.bio.Dir.{Dir}
use Rattle.blk_bio.specs.declared.bio.Dir.TheVariants.{Read, Write}
use Rattle.blk_trace.specs.Setups.{same_dir}
use Rattle.blk_sched.specs.Meaning.{Waiting}
use Rattle.blk_queues.specs.Requeued.{requeued_total, requeued_count}
use Rattle.blk_core.specs.State.{facts_of, is_of, is_named}
use Rattle.blk_core.proofs.Seen.{Facts}
use Rattle.blk_core.proofs.Pushed.{get_more}

-- 1 where it is so
abbrev one_if : Bool → ℕ
one_if b = cond b 1 0

-- one more, at the back of the list of a hardware queue
abbrev pub with_one : List (List Waiting) → ℕ → Waiting → List (List Waiting)
with_one requeue_lists hw w = set requeue_lists hw (get_or requeue_lists hw [] ++ w ∷ [])

pub count_with : (p : Waiting → Bool) (requeue_lists : List (List Waiting)) (hw : ℕ) (w : Waiting) → hw < length requeue_lists → requeued_count p (with_one requeue_lists hw w) ≡ requeued_count p requeue_lists + cond (p w) 1 0
count_with p requeue_lists hw w lt =
    let one = sum_by-set (count_by p) requeue_lists hw (get_or requeue_lists hw [] ++ w ∷ []) [] lt in
    let push : count_by p (get_or requeue_lists hw [] ++ w ∷ []) ≡ count_by p (get_or requeue_lists hw []) + one_if (p w) = sum_by_push (λ (x : Waiting). one_if (p x)) (get_or requeue_lists hw []) w in
    omega arith

pub total_with : (requeue_lists : List (List Waiting)) (hw : ℕ) (w : Waiting) → hw < length requeue_lists → requeued_total (with_one requeue_lists hw w) ≡ requeued_total requeue_lists + 1
total_with requeue_lists hw w lt =
    let one = sum_by-set length requeue_lists hw (get_or requeue_lists hw [] ++ w ∷ []) [] lt in
    let push : length (get_or requeue_lists hw [] ++ w ∷ []) ≡ length (get_or requeue_lists hw []) + 1 = length-append (get_or requeue_lists hw []) (w ∷ []) in
    omega arith

-- one fewer, at the front
pub count_without : (p : Waiting → Bool) (requeue_lists : List (List Waiting)) (hw : ℕ) (w : Waiting) (rest : List Waiting) → hw < length requeue_lists → get_or requeue_lists hw [] ≡ w ∷ rest → requeued_count p (set requeue_lists hw rest) + cond (p w) 1 0 ≡ requeued_count p requeue_lists
count_without p requeue_lists hw w rest lt at =
    let one = sum_by-set (count_by p) requeue_lists hw rest [] lt in
    let had : count_by p (get_or requeue_lists hw []) ≡ one_if (p w) + count_by p rest = ap (count_by p) at ∙ sum_by-cons (λ (x : Waiting). one_if (p x)) w rest in
    omega arith

pub total_without : (requeue_lists : List (List Waiting)) (hw : ℕ) (w : Waiting) (rest : List Waiting) → hw < length requeue_lists → get_or requeue_lists hw [] ≡ w ∷ rest → requeued_total (set requeue_lists hw rest) + 1 ≡ requeued_total requeue_lists
total_without requeue_lists hw w rest lt at =
    let one = sum_by-set length requeue_lists hw rest [] lt in
    let had : length (get_or requeue_lists hw []) ≡ length rest + 1 = ap length at ∙ omega arith in
    omega arith

-- what is requeued is counted
in_list : (p : Waiting → Bool) (xs : List Waiting) (k : ℕ) (w : Waiting) → slice_get xs k ≡ Some w → p w ≡ true → 0 < count_by p xs
in_list p [] k w at is = absurd (cc)
in_list p (x ∷ xs) zero w at is =
    let same : x ≡ w = cc in
    let here : one_if (p x) ≡ 1 = ap (λ y. one_if (p y)) same ∙ ap one_if is in
    omega (arith, sum_by-cons (λ (y : Waiting). one_if (p y)) x xs)
in_list p (x ∷ xs) (suc k) w at is = omega (arith, in_list p xs k w at is, sum_by-cons (λ (y : Waiting). one_if (p y)) x xs)

pub counted : (p : Waiting → Bool) (requeue_lists : List (List Waiting)) (hw k : ℕ) (w : Waiting) → slice_get (get_or requeue_lists hw []) k ≡ Some w → p w ≡ true → 0 < requeued_count p requeue_lists
counted p [] hw k w at is = absurd (cc)
counted p (l ∷ requeue_lists) zero k w at is = omega (arith, in_list p l k w at is, sum_by-cons (count_by p) l requeue_lists)
counted p (l ∷ requeue_lists) (suc hw) k w at is = omega (arith, counted p requeue_lists hw k w at is, sum_by-cons (count_by p) l requeue_lists)

-- the first of a list stands in it
pub first_stands : (requeue_lists : List (List Waiting)) (hw : ℕ) (w : Waiting) (rest : List Waiting) → get_or requeue_lists hw [] ≡ w ∷ rest → slice_get (get_or requeue_lists hw []) 0 ≡ Some w
first_stands requeue_lists hw w rest at = ap (λ l. slice_get l 0) at

-- by directions all are counted
by_dir : (d : Dir) → one_if (same_dir Read d) + one_if (same_dir Write d) ≡ 1
by_dir Read = refl
by_dir Write = refl

list_by_dirs : (xs : List Waiting) → count_by (is_of Read) xs + count_by (is_of Write) xs ≡ length xs
list_by_dirs [] = refl
list_by_dirs (x ∷ xs) =
    omega (arith, by_dir x.extent.dir, list_by_dirs xs, sum_by-cons (λ (y : Waiting). one_if (is_of Read y)) x xs, sum_by-cons (λ (y : Waiting). one_if (is_of Write y)) x xs)

pub by_dirs : (requeue_lists : List (List Waiting)) → requeued_count (is_of Read) requeue_lists + requeued_count (is_of Write) requeue_lists ≡ requeued_total requeue_lists
by_dirs [] = refl
by_dirs (l ∷ requeue_lists) =
    omega (arith, list_by_dirs l, by_dirs requeue_lists, sum_by-cons (count_by (is_of Read)) l requeue_lists, sum_by-cons (count_by (is_of Write)) l requeue_lists, sum_by-cons length l requeue_lists)

-- each requeued request is what a word of the trace says of its id, and stands once
abbrev pub AreAs : (ℕ → Option Facts) → List (List Waiting) → Type 0
AreAs R requeue_lists = (hw k : ℕ) (w : Waiting) → slice_get (get_or requeue_lists hw []) k ≡ Some w → R w.id ≡ Some (facts_of w)

abbrev pub AreOnce : {X : Type 0} → (ℕ → Option X) → List (List Waiting) → Type 0
AreOnce R requeue_lists = (id : ℕ) → requeued_count (is_named id) requeue_lists ≡ cond (is_some (R id)) 1 0

pub as_same : (R V : ℕ → Option Facts) (requeue_lists : List (List Waiting)) → ((q : ℕ) → V q ≡ R q) → AreAs R requeue_lists → AreAs V requeue_lists
as_same R V requeue_lists same h hw k w at = same w.id ∙ h hw k w at

pub once_same : {X : Type 0} (R V : ℕ → Option X) (requeue_lists : List (List Waiting)) → ((q : ℕ) → V q ≡ R q) → AreOnce R requeue_lists → AreOnce V requeue_lists
once_same R V requeue_lists same h id = h id ∙ ap (λ o. one_if (is_some o)) (sym (same id))

-- an id that nothing is said of is taken out in vain
pub none_gone : {X : Type 0} (R V : ℕ → Option X) (id : ℕ) → R id ≡ None → ((q : ℕ) → V q ≡ cond (id == q) None (R q)) → (q : ℕ) → V q ≡ R q
none_gone R V id none step q = elim (eqb_tells id q) [
  | inl y ↦ step q ∙ ap (λ b. cond b None (R q)) y.0 ∙ sym (subst (λ x. R x ≡ None) y.1 none)
  | inr n ↦ step q ∙ ap (λ b. cond b None (R q)) n.0
]

-- one more
at_place : {X : Type 0} (xss : List (List X)) (hw q k : ℕ) (ys : List X) (x : X) → hw < length xss → slice_get (get_or (set xss hw ys) q []) k ≡ Some x → ((q ≡ hw) × (slice_get ys k ≡ Some x)) ⊎ ((q ≢ hw) × (slice_get (get_or xss q []) k ≡ Some x))
at_place xss hw q k ys x lt at = elim (eqb_tells q hw) [
  | inl y ↦ inl (y.1, sym (ap (λ l. slice_get l k) (get_or-set_same xss hw ys [] lt)) ∙ subst (λ n. slice_get (get_or (set xss hw ys) n []) k ≡ Some x) y.1 at)
  | inr n ↦ inr (n.1, sym (ap (λ l. slice_get l k) (get_or-set_other xss hw q ys [] n.1)) ∙ at)
]

kept_id : (R V : ℕ → Option Facts) (w : Waiting) (o : Option Facts) (v : Waiting) → R w.id ≡ None → ((q : ℕ) → V q ≡ cond (w.id == q) o (R q)) → R v.id ≡ Some (facts_of v) → V v.id ≡ Some (facts_of v)
kept_id R V w o v none step h =
    step v.id ∙ ap (λ b. cond b o (R v.id)) (ne_eqb w.id v.id (λ e. absurd (let n : R v.id ≡ None = subst (λ x. R x ≡ None) e none in cc))) ∙ h

pub as_with : (R V : ℕ → Option Facts) (requeue_lists : List (List Waiting)) (hw : ℕ) (w : Waiting) → hw < length requeue_lists → R w.id ≡ None → ((q : ℕ) → V q ≡ cond (w.id == q) (Some (facts_of w)) (R q)) → AreAs R requeue_lists → AreAs V (with_one requeue_lists hw w)
as_with R V requeue_lists hw w lt none step h q k v at = elim (at_place requeue_lists hw q k (get_or requeue_lists hw [] ++ w ∷ []) v lt at) [
  | inl here ↦ elim (get_more (get_or requeue_lists hw []) w k v here.1) [
    | inl old ↦ kept_id R V w (Some (facts_of w)) v none step (h hw k v old)
    | inr new ↦ subst (λ x. V x.id ≡ Some (facts_of x)) new.1 (step w.id ∙ ap (λ b. cond b (Some (facts_of w)) (R w.id)) (eq-eqb w.id w.id refl))
  ]
  | inr other ↦ kept_id R V w (Some (facts_of w)) v none step (h q k v other.1)
]

named : (id : ℕ) (w : Waiting) → ((id == w.id) ≡ true) × (id ≡ w.id) ⊎ ((id == w.id) ≡ false) × ((w.id == id) ≡ false)
named id w = elim (eqb_tells id w.id) [
  | inl y ↦ inl (y.0, y.1)
  | inr n ↦ inr (n.0, ne_eqb w.id id (λ e. n.1 (sym e)))
]

pub once_with : (R V : ℕ → Option Facts) (requeue_lists : List (List Waiting)) (hw : ℕ) (w : Waiting) → hw < length requeue_lists → R w.id ≡ None → ((q : ℕ) → V q ≡ cond (w.id == q) (Some (facts_of w)) (R q)) → AreOnce R requeue_lists → AreOnce V (with_one requeue_lists hw w)
once_with R V requeue_lists hw w lt none step h id =
    let more = count_with (is_named id) requeue_lists hw w lt in
    let had = h id in
    elim (named id w) [
      | inl y ↦
          let r : one_if (is_some (R id)) ≡ 0 = ap (λ o. one_if (is_some o)) (subst (λ x. R x ≡ None) (sym y.1) none) in
          let v : one_if (is_some (V id)) ≡ 1 = ap (λ o. one_if (is_some o)) (step id ∙ ap (λ b. cond b (Some (facts_of w)) (R id)) (eq-eqb w.id id (sym y.1))) in
          let one : one_if (is_named id w) ≡ 1 = ap one_if y.0 in
          omega arith
      | inr n ↦
          let v : one_if (is_some (V id)) ≡ one_if (is_some (R id)) = ap (λ o. one_if (is_some o)) (step id ∙ ap (λ b. cond b (Some (facts_of w)) (R id)) n.1) in
          let one : one_if (is_named id w) ≡ 0 = ap one_if n.0 in
          omega arith
    ]

-- one fewer
pub once_without : (R V : ℕ → Option Facts) (requeue_lists : List (List Waiting)) (hw : ℕ) (w : Waiting) (rest : List Waiting) → hw < length requeue_lists → get_or requeue_lists hw [] ≡ w ∷ rest → ((q : ℕ) → V q ≡ cond (w.id == q) None (R q)) → AreAs R requeue_lists → AreOnce R requeue_lists → AreOnce V (set requeue_lists hw rest)
once_without R V requeue_lists hw w rest lt is step are h id =
    let less = count_without (is_named id) requeue_lists hw w rest lt is in
    let had = h id in
    elim (named id w) [
      | inl y ↦
          let r : one_if (is_some (R id)) ≡ 1 = ap (λ o. one_if (is_some o)) (ap R y.1 ∙ are hw 0 w (first_stands requeue_lists hw w rest is)) in
          let v : one_if (is_some (V id)) ≡ 0 = ap (λ o. one_if (is_some o)) (step id ∙ ap (λ b. cond b None (R id)) (eq-eqb w.id id (sym y.1))) in
          let one : one_if (is_named id w) ≡ 1 = ap one_if y.0 in
          omega arith
      | inr n ↦
          let v : one_if (is_some (V id)) ≡ one_if (is_some (R id)) = ap (λ o. one_if (is_some o)) (step id ∙ ap (λ b. cond b None (R id)) n.1) in
          let one : one_if (is_named id w) ≡ 0 = ap one_if n.0 in
          omega arith
    ]

pub as_without : (R V : ℕ → Option Facts) (requeue_lists : List (List Waiting)) (hw : ℕ) (w : Waiting) (rest : List Waiting) → hw < length requeue_lists → get_or requeue_lists hw [] ≡ w ∷ rest → ((q : ℕ) → V q ≡ cond (w.id == q) None (R q)) → AreAs R requeue_lists → AreOnce R requeue_lists → AreAs V (set requeue_lists hw rest)
as_without R V requeue_lists hw w rest lt is step are once q k v at =
    let some : 0 < requeued_count (is_named v.id) (set requeue_lists hw rest) = counted (is_named v.id) (set requeue_lists hw rest) q k v at (eq-eqb v.id v.id refl) in
    let number = once_without R V requeue_lists hw w rest lt is step are once v.id in
    let stands : R v.id ≡ Some (facts_of v) = elim (at_place requeue_lists hw q k rest v lt at) [
      | inl here ↦ are hw (suc k) v (ap (λ l. slice_get l (suc k)) is ∙ here.1)
      | inr other ↦ are q k v other.1
    ] in
    elim (named v.id w) [
      | inl y ↦ absurd (let none : one_if (is_some (V v.id)) ≡ 0 = ap (λ o. one_if (is_some o)) (step v.id ∙ ap (λ b. cond b None (R v.id)) (eq-eqb w.id v.id (sym y.1))) in omega arith)
      | inr n ↦ step v.id ∙ ap (λ b. cond b None (R v.id)) n.1 ∙ stands
    ]

-- at first nothing is requeued
abbrev nothing : List Waiting
nothing = []

pub empty_list : (n hw : ℕ) → get_or (replicate n nothing) hw [] ≡ []
empty_list zero hw = refl
empty_list (suc n) zero = refl
empty_list (suc n) (suc hw) = empty_list n hw

pub none_counted : (p : Waiting → Bool) (n : ℕ) → requeued_count p (replicate n nothing) ≡ 0
none_counted p zero = refl
none_counted p (suc n) = omega (arith, none_counted p n, sum_by-cons (count_by p) nothing (replicate n nothing))

pub none_listed : (n : ℕ) → requeued_total (replicate n nothing) ≡ 0
none_listed zero = refl
none_listed (suc n) = omega (arith, none_listed n, sum_by-cons length nothing (replicate n nothing))
