-- Where lists in order are parted by a round.
use Rattle.std.proofs.Common.{◌≡◌, ◌≤◌, ℕ, nat_lt, true, false, List, length, get_or, inl, inr, arith, sym, subst}
use Rattle.std.specs.List.Sorted.{IsPartitionPoint, IsPartitionedBy}
use Rattle.std.proofs.lemmas.Bool.{cases_eq, ltb-true, ltb-false, lt-ltb}
use Rattle.edd_check.specs.declared.Window.{Window}
use Rattle.edd_oracle.specs.declared.cover.Served.{Served}
use Rattle.edd_verdict.specs.Inside.Tight.{DuesFall, IsDuePlace}
use Rattle.edd_verdict.specs.Inside.Open.{BeginsRise, IsBeginPlace}

pub begins_parted : (windows : List Window) (round : ℕ) → BeginsRise windows → IsPartitionedBy (λ (w : Window). nat_lt w.from round) windows
begins_parted windows round rises i j d le h passes =
    elim (cases_eq i j) [
      | inl same ↦ subst (λ n. nat_lt (get_or windows n d).from round ≡ true) (sym same) passes
      | inr other ↦ lt-ltb (get_or windows i d).from round (omega (arith, rises i j d (omega arith) h, ltb-true (get_or windows j d).from round passes))
    ]

pub begin_place : (windows : List Window) (round place : ℕ) → place ≤ length windows → IsPartitionPoint (λ (w : Window). nat_lt w.from round ≡ true) (λ (w : Window). nat_lt w.from round ≡ false) windows place → IsBeginPlace windows round place
begin_place windows round place within parted =
    record {
      within = within;
      before = λ k e h. ltb-true (get_or windows k e).from round (parted.0 k e (omega arith) h);
      after = λ k e low h. ltb-false (get_or windows k e).from round (parted.1 k e low h);
    }

pub dues_parted : (peaks : List Served) (due : ℕ) → DuesFall peaks → IsPartitionedBy (λ (p : Served). nat_lt due p.due) peaks
dues_parted peaks due falls i j d le h passes =
    elim (cases_eq i j) [
      | inl same ↦ subst (λ n. nat_lt due (get_or peaks n d).due ≡ true) (sym same) passes
      | inr other ↦ lt-ltb due (get_or peaks i d).due (omega (arith, falls i j d (omega arith) h, ltb-true due (get_or peaks j d).due passes))
    ]

pub due_place : (peaks : List Served) (due place : ℕ) → place ≤ length peaks → IsPartitionPoint (λ (p : Served). nat_lt due p.due ≡ true) (λ (p : Served). nat_lt due p.due ≡ false) peaks place → IsDuePlace peaks due place
due_place peaks due place within parted =
    record {
      within = within;
      after = λ k e h. ltb-true due (get_or peaks k e).due (parted.0 k e (omega arith) h);
      by_then = λ k e low h. ltb-false due (get_or peaks k e).due (parted.1 k e low h);
    }
