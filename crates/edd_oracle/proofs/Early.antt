-- The window's start, by one pass back over the rounds of the commands due by then.
use Rattle.std.proofs.Common.{◌≡◌, ◌<◌, ◌≤◌, ℕ, ◌+◌, ◌-◌, ◌==◌, nat_le, cond, List, [], ◌∷◌, ◌++◌, length, get_or, take, count_by, ◌⊎◌, inl, inr, arith, refl, sym, ◌∙◌, subst, ◌≢◌}
use Rattle.std.specs.List.{All, zip}
use Rattle.std.proofs.lemmas.List.Elements.{All-push, All-nil}
use Rattle.std.specs.List.Sorted.{IsPermutation}
use Rattle.std.proofs.lemmas.List.Sorted.{All-permutation, sum_by-IsPermutation}
use Rattle.std.proofs.lemmas.List.Sums.{sum_by-cons, sum_by-append}
use Rattle.std.proofs.lemmas.Bool.{cases_eq, cases_lt, cond-true, cond-false, ne_eqb, eq-eqb, eqb-true, and_parts}
use Rattle.edd_commands.specs.declared.Command.{Command}
use Rattle.edd_commands.specs.declared.steps.Step.{Step}
use Rattle.edd_commands.specs.Capacity.{depth_at, IsCapacity}
use Rattle.edd_commands.specs.Schedule.{places_at, IsLegal}
use Rattle.edd_commands.proofs.Counting.{Rises, run_count, run_of}
use Rattle.edd_commands.proofs.InForce.{depth_bounds}
use Rattle.edd_oracle.specs.Plan.{due_at, IsWindowStart}
use Rattle.edd_oracle.proofs.Pairs.{is_due_at, due_more_yes, due_more_late, due_more_other, at_places}

-- the rounds before x of the first n commands, as far as these are due by `due`
pub record AreEarly (commands : List Command) (rounds : List ℕ) (x due n : ℕ) (early : List ℕ) : Type 0 where
  pub below : All (λ y. y < x) early
  pub same : (y : ℕ) → y < x → places_at early y ≡ count_by (is_due_at y due) (take n (zip commands rounds))

pub none_early : (commands : List Command) (rounds early : List ℕ) (x due : ℕ) → early ≡ [] → AreEarly commands rounds x due 0 early
unfolding places_at
none_early commands rounds early x due none =
    subst (λ xs. AreEarly commands rounds x due 0 xs) (sym none) record {
      below = All-nil (λ y. y < x);
      same = λ y h. refl;
    }

places_push : (early : List ℕ) (r y : ℕ) → places_at (early ++ r ∷ []) y ≡ places_at early y + cond (r == y) 1 0
unfolding places_at
places_push early r y =
    omega (arith, sum_by-append (λ z. cond (z == y) 1 0) early (r ∷ []), sum_by-cons (λ z. cond (z == y) 1 0) r [])

-- one more is due by then and runs before x
pub more_early : (commands : List Command) (rounds early new : List ℕ) (x due n r : ℕ) (d : Command) → AreEarly commands rounds x due n early → length rounds ≡ length commands → n < length commands → (get_or commands n d).due ≤ due → get_or rounds n 0 ≡ r → r < x → new ≡ early ++ r ∷ [] → AreEarly commands rounds x due (n + 1) new
more_early commands rounds early new x due n r d so_far long within is_due at_r before is_new =
    subst (λ xs. AreEarly commands rounds x due (n + 1) xs) (sym is_new) record {
      below = All-push (λ y. y < x) early r so_far.below before;
      same = λ y h.
          elim (cases_eq r y) [
            | inl here ↦ omega (arith, places_push early r y, cond-true {A = ℕ} (r == y) 1 0 (eq-eqb r y here), so_far.same y h, due_more_yes commands rounds y due n d long within is_due (at_r ∙ here))
            | inr other ↦ omega (arith, places_push early r y, cond-false {A = ℕ} (r == y) 1 0 (ne_eqb r y other), so_far.same y h, due_more_other commands rounds y due n d long within (λ e. other (sym at_r ∙ e)))
          ];
    }

-- the next one is due later, or runs at x or later
pub same_early : (commands : List Command) (rounds early : List ℕ) (x due n : ℕ) (d : Command) → AreEarly commands rounds x due n early → length rounds ≡ length commands → n < length commands → (due < (get_or commands n d).due) ⊎ (x ≤ get_or rounds n 0) → AreEarly commands rounds x due (n + 1) early
same_early commands rounds early x due n d so_far long within apart =
    record {
      below = so_far.below;
      same = λ y h.
          elim apart [
            | inl late ↦ so_far.same y h ∙ sym (due_more_late commands rounds y due n d long within late)
            | inr past ↦ so_far.same y h ∙ sym (due_more_other commands rounds y due n d long within (λ e. absurd (omega arith)))
          ];
    }

-- the rounds from `start` on are full of what is due by then, and the first `left` places are of rounds before it
pub record IsBack (commands : List Command) (rounds : List ℕ) (steps : List Step) (x due : ℕ) (early : List ℕ) (start left : ℕ) : Type 0 where
  pub before : start ≤ x
  pub within : left ≤ length early
  pub full : (y : ℕ) → start ≤ y → y < x → depth_at steps y ≤ due_at commands rounds y due
  pub lower : (k : ℕ) → k < left → get_or early k 0 < start
  pub upper : (k : ℕ) → left ≤ k → k < length early → start ≤ get_or early k 0

-- the list in order, and what it counts
pub record IsEarly (commands : List Command) (rounds : List ℕ) (steps : List Step) (x due : ℕ) (early : List ℕ) : Type 0 where
  pub rises : Rises early
  pub below : (k : ℕ) → k < length early → get_or early k 0 < x
  pub same : (y : ℕ) → y < x → places_at early y ≡ due_at commands rounds y due
  pub most : (y : ℕ) → due_at commands rounds y due ≤ depth_at steps y
  pub some : (y : ℕ) → 0 < depth_at steps y

-- a full round
pub back_more : (commands : List Command) (rounds : List ℕ) (steps : List Step) (x due : ℕ) (early : List ℕ) (start left depth : ℕ) → IsEarly commands rounds steps x due early → IsBack commands rounds steps x due early start left → 0 < start → depth ≡ depth_at steps (start - 1) → depth ≤ left → get_or early (left - depth) 0 ≡ start - 1 → IsBack commands rounds steps x due early (start - 1) (left - depth)
back_more commands rounds steps x due early start left depth all back some is_depth fits at_first =
    let y : ℕ = start - 1 in
    let first : ℕ = left - depth in
    let pos_depth : 0 < depth = omega (arith, all.some y) in
    let last_in : left - 1 < length early = omega (arith, back.within) in
    let last_low : get_or early (left - 1) 0 < start = back.lower (left - 1) (omega arith) in
    let last_up : get_or early first 0 ≤ get_or early (left - 1) 0 = all.rises first (left - 1) (omega arith) last_in in
    let at_last : get_or early (left - 1) 0 ≡ y = omega arith in
    let run : left - 1 < first + places_at early y = run_count y early all.rises first (left - 1) (omega arith) last_in at_first at_last in
    let count : places_at early y ≡ due_at commands rounds y due = all.same y (omega (arith, back.before)) in
    let most : due_at commands rounds y due ≤ depth_at steps y = all.most y in
    record {
      before = omega (arith, back.before);
      within = omega (arith, back.within);
      full = λ z low high.
          elim (cases_eq z y) [
            | inl here ↦ subst (λ r. depth_at steps r ≤ due_at commands rounds r due) (sym here) (omega arith)
            | inr other ↦ back.full z (omega arith) high
          ];
      lower = λ k h.
          elim (cases_lt (get_or early k 0) y) [
            | inl low ↦ low
            | inr high ↦
                let up : get_or early k 0 ≤ get_or early first 0 = all.rises k first (omega arith) (omega (arith, back.within)) in
                let at_k : get_or early k 0 ≡ y = omega arith in
                let longer : left - 1 < k + places_at early y = run_count y early all.rises k (left - 1) (omega arith) last_in at_k at_last in
                absurd (omega arith)
          ];
      upper = λ k low high.
          let up : get_or early first 0 ≤ get_or early k 0 = all.rises first k low high in
          omega arith;
    }

-- where the places before do not fill the round, it isn't full
pub back_ends : (commands : List Command) (rounds : List ℕ) (steps : List Step) (x due : ℕ) (early : List ℕ) (start left depth : ℕ) → IsEarly commands rounds steps x due early → IsBack commands rounds steps x due early start left → 0 < start → depth ≡ depth_at steps (start - 1) → (left < depth) ⊎ (get_or early (left - depth) 0 ≢ start - 1) → IsWindowStart commands rounds steps x due start
back_ends commands rounds steps x due early start left depth all back some is_depth apart =
    let y : ℕ = start - 1 in
    let pos_depth : 0 < depth = omega (arith, all.some y) in
    let count : places_at early y ≡ due_at commands rounds y due = all.same y (omega (arith, back.before)) in
    record {
      before = back.before;
      full = back.full;
      first = inr (
          elim (cases_lt (due_at commands rounds y due) (depth_at steps y)) [
            | inl fewer ↦ fewer
            | inr full ↦
                let run = run_of y early all.rises (depth - 1) (omega (arith, count)) in
                let j : ℕ = run.0 in
                let e : ℕ = run.1 in
                let apart_by : e ≡ j + (depth - 1) = run.2 in
                let e_in : e < length early = run.3 in
                let at_j : get_or early j 0 ≡ y = run.4 in
                let at_e : get_or early e 0 ≡ y = run.5 in
                elim (cases_lt e left) [
                  | inl low ↦
                      let up : get_or early j 0 ≤ get_or early (left - depth) 0 = all.rises j (left - depth) (omega arith) (omega (arith, back.within)) in
                      let under : get_or early (left - depth) 0 < start = back.lower (left - depth) (omega arith) in
                      elim apart [
                        | inl short ↦ absurd (omega arith)
                        | inr other ↦ absurd (other (omega arith))
                      ]
                  | inr high ↦ absurd (omega (arith, back.upper e high e_in))
                ]
          ]);
    }

-- what is due by then at a round is no more than what it carries
due_within : (commands : List Command) (rounds : List ℕ) (steps : List Step) (y due : ℕ) → IsLegal commands rounds steps → due_at commands rounds y due ≤ depth_at steps y
unfolding due_at
due_within commands rounds steps y due legal =
    omega (arith, legal.within_depth y, at_places commands rounds (is_due_at y due) y legal.one_each (λ p here. eqb-true p.1 y (and_parts (nat_le p.0.due due) (p.1 == y) here).1))

-- the rounds in order
pub early_in_order : (commands : List Command) (rounds : List ℕ) (steps : List Step) (x due : ℕ) (early sorted : List ℕ) → All (λ y. y < x) early → ((y : ℕ) → y < x → places_at early y ≡ due_at commands rounds y due) → IsPermutation early sorted → Rises sorted → IsLegal commands rounds steps → IsCapacity steps → IsEarly commands rounds steps x due sorted
unfolding places_at
early_in_order commands rounds steps x due early sorted below same moved rises legal capacity =
    record {
      rises = rises;
      below = λ k h. All-permutation (λ y. y < x) early sorted moved below k 0 h;
      same = λ y h. sum_by-IsPermutation (λ z. cond (z == y) 1 0) early sorted moved ∙ same y h;
      most = λ y. due_within commands rounds steps y due legal;
      some = λ y. (depth_bounds steps y capacity).0;
    }
