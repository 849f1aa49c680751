-- The best of some reports, one report after the other.
use Rattle.std.proofs.Common.{◌≡◌, ◌<◌, ◌≤◌, ◌≤ℤ◌, ◌<ℤ◌, ℕ, ◌+◌, ℤ, List, length, Option, Some, None, IfSome, get_or, inl, inr, sym, subst, refl, true, false, Bool, cond, ap, arith}
use Rattle.std.specs.Prelude.{int_lt}
use Rattle.std.proofs.lemmas.Int.{ints}
use Rattle.std.proofs.lemmas.Bool.{cases_eq}
use Rattle.std.proofs.lemmas.List.{get_or_default}
use Rattle.edd_figures.specs.Figures.{greatest_in}
use Rattle.blk_report.specs.declared.figures.Report.{Report}
use Rattle.blk_report.specs.Comparison.{LeadsOf, HasNoBest}
use Rattle.blk_report.specs.Inside.Best.{IsBestOf, better_of}

-- what holds of a number that is there, weakened
weaken : (o : Option ℤ) (P Q : ℤ → Type 0) → ((z : ℤ) → P z → Q z) → IfSome o P → IfSome o Q
weaken None P Q f h = tt
weaken (Some z) P Q f h = f z h

-- of no number anything holds
of_none : (o : Option ℤ) (P : ℤ → Type 0) → o ≡ None → IfSome o P
of_none o P is = subst (λ x. IfSome x P) (sym is) tt

-- of the number that is there what is shown of it
of_some : (o : Option ℤ) (P : ℤ → Type 0) (z : ℤ) → o ≡ Some z → P z → IfSome o P
of_some o P z is h = subst (λ x. IfSome x P) (sym is) h

-- what holds of the reports before n and of the one at n holds of the first n + 1
upto : (reports : List Report) (n : ℕ) (Q : Option ℤ → Type 0) → ((d : Report) → Q (greatest_in (get_or reports n d).figures)) → ((k : ℕ) (d : Report) → k < n → Q (greatest_in (get_or reports k d).figures)) → (k : ℕ) (d : Report) → k < n + 1 → Q (greatest_in (get_or reports k d).figures)
upto reports n Q here before = λ k d lt.
    elim (cases_eq k n) [
      | inl same ↦ subst (λ i. Q (greatest_in (get_or reports i d).figures)) (sym same) (here d)
      | inr other ↦ before k d (omega arith)
    ]

-- the next report is less late than the best so far
leads_next : (reports : List Report) (n p : ℕ) (best z : ℤ) → ((d : Report) → greatest_in (get_or reports n d).figures ≡ Some z) → z <ℤ best → LeadsOf reports n p best → LeadsOf reports (n + 1) n z
leads_next reports n p best z is less l = record {
  in_list = omega arith;
  told = is;
  smallest = upto reports n (λ o. IfSome o (λ other. z ≤ℤ other)) (λ d. of_some (greatest_in (get_or reports n d).figures) (λ other. z ≤ℤ other) z (is d) (omega (arith, ints))) (λ k d lt. weaken (greatest_in (get_or reports k d).figures) (λ other. best ≤ℤ other) (λ other. z ≤ℤ other) (λ x h. omega (arith, ints, h, less)) (l.smallest k d lt));
  first = λ k d lt. weaken (greatest_in (get_or reports k d).figures) (λ other. best ≤ℤ other) (λ other. z <ℤ other) (λ x h. omega (arith, ints, h, less)) (l.smallest k d lt);
}

-- the best so far stays
leads_still : (reports : List Report) (n p : ℕ) (best : ℤ) → ((d : Report) → IfSome (greatest_in (get_or reports n d).figures) (λ other. best ≤ℤ other)) → LeadsOf reports n p best → LeadsOf reports (n + 1) p best
leads_still reports n p best here l = record {
  in_list = let h = l.in_list in omega (arith, h);
  told = l.told;
  smallest = upto reports n (λ o. IfSome o (λ other. best ≤ℤ other)) here l.smallest;
  first = l.first;
}

-- the first report with commands
leads_first : (reports : List Report) (n : ℕ) (z : ℤ) → ((d : Report) → greatest_in (get_or reports n d).figures ≡ Some z) → ((k : ℕ) (d : Report) → k < n → greatest_in (get_or reports k d).figures ≡ None) → LeadsOf reports (n + 1) n z
leads_first reports n z is none = record {
  in_list = omega arith;
  told = is;
  smallest = upto reports n (λ o. IfSome o (λ other. z ≤ℤ other)) (λ d. of_some (greatest_in (get_or reports n d).figures) (λ other. z ≤ℤ other) z (is d) (omega (arith, ints))) (λ k d lt. of_none (greatest_in (get_or reports k d).figures) (λ other. z ≤ℤ other) (none k d lt));
  first = λ k d lt. of_none (greatest_in (get_or reports k d).figures) (λ other. z <ℤ other) (none k d lt);
}

-- which of the two is the better one
leads_better : (reports : List Report) (n : ℕ) (b : ℕ × ℤ) (z : ℤ) → ((d : Report) → greatest_in (get_or reports n d).figures ≡ Some z) → LeadsOf reports n b.0 b.1 → (less : Bool) → int_lt z b.1 ≡ less → IsBestOf reports (n + 1) (cond less (Some (n, z)) (Some b))
leads_better reports n b z is l true eq = leads_next reports n b.0 b.1 z is (omega (arith, ints, eq)) l
leads_better reports n b z is l false eq = leads_still reports n b.0 b.1 (λ d. of_some (greatest_in (get_or reports n d).figures) (λ other. b.1 ≤ℤ other) z (is d) (omega (arith, ints, eq))) l

by_late : (reports : List Report) (n : ℕ) (best : Option (ℕ × ℤ)) (late : Option ℤ) → ((d : Report) → greatest_in (get_or reports n d).figures ≡ late) → IsBestOf reports n best → IsBestOf reports (n + 1) (better_of best n late)
by_late reports n None None is h = upto reports n (λ o. o ≡ None) is h
by_late reports n (Some b) None is h = leads_still reports n b.0 b.1 (λ d. of_none (greatest_in (get_or reports n d).figures) (λ other. b.1 ≤ℤ other) (is d)) h
by_late reports n None (Some z) is h = leads_first reports n z is h
by_late reports n (Some b) (Some z) is h = leads_better reports n b z is h (int_lt z b.1) refl

-- the better of the best of the first n and the next is the best of the first n + 1
pub best_next : (reports : List Report) (n : ℕ) (best : Option (ℕ × ℤ)) (e : Report) → n < length reports → IsBestOf reports n best → IsBestOf reports (n + 1) (better_of best n (greatest_in (get_or reports n e).figures))
best_next reports n best e within h = by_late reports n best (greatest_in (get_or reports n e).figures) (λ d. ap (λ r. greatest_in r.figures) (get_or_default reports n d e within)) h

-- where one leads, not all have no commands
pub led : (reports : List Report) (n place : ℕ) (late : ℤ) → n ≤ length reports → LeadsOf reports n place late → HasNoBest reports → ⊥
led reports n place late le l none =
    let e : Report = record { commands = 0; waiting = 0; depth = 0; figures = None } in
    let h = l.in_list in
    let there : Some late ≡ None = subst (λ o. o ≡ None) (l.told e) (none place e (omega (arith, h, le))) in
    absurd (cc)
