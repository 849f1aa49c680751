-- The fewest late of the marked ones where the others keep their best.
use Rattle.std.proofs.Common.{◌≡◌, ◌≢◌, ◌<◌, ◌≤◌, ℕ, ◌+◌, Bool, true, false, not, cond, nat_lt, List, length, get_or, filter, count_by, inl, inr, arith, refl, ap, sym, ◌∙◌, subst}
use Rattle.std.specs.List.{zip, range_with_len}
use Rattle.std.proofs.lemmas.List.Elements.{All-filter}
use Rattle.std.proofs.lemmas.List.Filters.{sum_by-filter_both}
use Rattle.std.proofs.lemmas.List.FromFn.{get_or-range_with_len, length-range_with_len}
use Rattle.std.proofs.lemmas.List.Kept.{AllPairs-filter}
use Rattle.std.proofs.lemmas.Bool.{cases_lt, lt-ltb, ltb-true}
use Rattle.std.proofs.lemmas.List.{get_or_default}
use Rattle.edd_commands.specs.declared.Command.{Command}
use Rattle.edd_commands.specs.declared.steps.Step.{Step}
use Rattle.edd_check.specs.OnTime.{IsMostOnTime}
use Rattle.edd_oracle.proofs.Counting.{count_along}
use Rattle.edd_oracle.proofs.Pairs.{pair_at, length_pairs}
use Rattle.edd_figures.specs.Misses.{number_late}
use Rattle.edd_figures.proofs.Tardy.{all_commands}
use Rattle.edd_blame.specs.Parts.{ArePlaces, command_here, is_late_at, number_late_at, IsLeastLateAt, IsLeastLateBeside, marked_places, other_places}
use Rattle.edd_blame.proofs.Causing.{nobody}
use Rattle.edd_verdict.specs.Verdicts.{Keeps}
use Rattle.edd_verdict.specs.Laws.{MostKeepsOnTime}
use Rattle.edd_blame.proofs.Parting.{count_same}

-- places that pass a test stand once each
filter_places : (p : ℕ → Bool) (n : ℕ) → ArePlaces n (filter p (range_with_len 0 n))
filter_places p n = record {
  within =
      All-filter p (λ k. k < n) (range_with_len 0 n)
      (λ i d h. let low : i < n = omega (arith, h, length-range_with_len 0 n) in omega (arith, low, get_or-range_with_len 0 n i d low));
  once =
      AllPairs-filter (λ j k. j ≢ k) p (range_with_len 0 n)
      (λ i j d low h e.
      let high : j < n = omega (arith, h, length-range_with_len 0 n) in
      let first : get_or (range_with_len 0 n) i d ≡ 0 + i = get_or-range_with_len 0 n i d (omega (arith, low, high)) in
      let other : get_or (range_with_len 0 n) j d ≡ 0 + j = get_or-range_with_len 0 n j d high in
      omega (arith, low, first, other, e));
}

pub marked_are : (marks : List Bool) (n : ℕ) → length marks ≡ n → ArePlaces n (marked_places marks)
unfolding marked_places
marked_are marks n same = subst (λ m. ArePlaces m (filter (λ k. get_or marks k false) (range_with_len 0 (length marks)))) same (filter_places (λ k. get_or marks k false) (length marks))

pub other_are : (marks : List Bool) (n : ℕ) → length marks ≡ n → ArePlaces n (other_places marks)
unfolding other_places
other_are marks n same = subst (λ m. ArePlaces m (filter (λ k. not (get_or marks k false)) (range_with_len 0 (length marks)))) same (filter_places (λ k. not (get_or marks k false)) (length marks))

-- the late ones are marked or others
late_parted : (commands : List Command) (rounds : List ℕ) (marks : List Bool) → length rounds ≡ length commands → length marks ≡ length commands → number_late_at commands rounds (marked_places marks) + number_late_at commands rounds (other_places marks) ≡ number_late commands rounds
unfolding number_late_at number_late marked_places other_places
late_parted commands rounds marks each same =
    let both = sum_by-filter_both (λ k. get_or marks k false) (λ k. not (get_or marks k false)) (λ k. refl) (λ k. cond (is_late_at commands rounds k) 1 0) (range_with_len 0 (length marks)) in
    let long : length (zip commands rounds) ≡ length commands = length_pairs commands rounds each in
    let all : count_by (is_late_at commands rounds) (range_with_len 0 (length marks)) ≡ count_by (λ (p : Command × ℕ). nat_lt p.0.due p.1) (zip commands rounds) =
    count_same (is_late_at commands rounds) (λ (p : Command × ℕ). nat_lt p.0.due p.1) (range_with_len 0 (length marks)) (zip commands rounds) (omega (arith, long, same, length-range_with_len 0 (length marks)))
    (λ k d p h.
    let low : k < length marks = omega (arith, h, length-range_with_len 0 (length marks)) in
    let at : get_or (range_with_len 0 (length marks)) k d ≡ k = get_or-range_with_len 0 (length marks) k d low ∙ omega arith in
    let pair : get_or (zip commands rounds) k p ≡ (get_or commands k nobody, get_or rounds k 0) = pair_at commands rounds k p nobody 0 each (omega (arith, low, same)) in
    ap (is_late_at commands rounds) at ∙ sym (ap (λ (q : Command × ℕ). nat_lt q.0.due q.1) pair)) in
    omega (arith, both, all)

-- a schedule that keeps what is on time has no more late
late_kept : (commands : List Command) (rounds other places : List ℕ) → ArePlaces (length commands) places → Keeps commands rounds other → number_late_at commands other places ≤ number_late_at commands rounds places
unfolding number_late_at
late_kept commands rounds other places are keeps =
    count_along (is_late_at commands other) (is_late_at commands rounds) places places refl
    (λ i d e h late.
    let k : ℕ = get_or places i d in
    let k_in : k < length commands = are.within i d h in
    let same : k ≡ get_or places i e = get_or_default places i d e h in
    let after : (command_here commands k).due < get_or other k 0 = ltb-true (command_here commands k).due (get_or other k 0) late in
    subst (λ n. is_late_at commands rounds n ≡ true) same
    (elim (cases_lt (command_here commands k).due (get_or rounds k 0)) [
      | inl was ↦ lt-ltb (command_here commands k).due (get_or rounds k 0) was
      | inr by ↦ absurd (omega (arith, keeps k nobody k_in by, after))
    ]))

pub least_beside : (commands : List Command) (steps : List Step) (marks : List Bool) (most late others : ℕ) → length marks ≡ length commands → ((rounds : List ℕ) → MostKeepsOnTime commands rounds steps) → IsMostOnTime commands steps most → late + most ≡ length commands → IsLeastLateAt commands steps (other_places marks) others
    → (others ≤ late) × ((n : ℕ) → n + others ≡ late → IsLeastLateBeside commands steps (marked_places marks) (other_places marks) n)
least_beside commands steps marks most late others same keeps is all fewest =
    let best = keeps fewest.schedule most fewest.legal is in
    let parted = late_parted commands best.0 marks best.1.one_each same in
    let total : number_late commands best.0 ≡ late = omega (arith, all_commands commands best.0 best.1.one_each, best.3, all) in
    let few = late_kept commands fewest.schedule best.0 (other_places marks) (other_are marks (length commands) same) best.2 in
    let kept : number_late_at commands best.0 (other_places marks) ≡ others = omega (arith, few, fewest.reached, fewest.least best.0 best.1) in (
      omega (arith, parted, total, kept),
      λ n rest. record {
        fewest = others;
        others_least = fewest;
        schedule = best.0;
        legal = best.1;
        others_keep = kept;
        reached = omega (arith, parted, total, kept, rest);
        least =
            λ rounds legal keep.
            omega (arith, late_parted commands rounds marks legal.one_each same, all_commands commands rounds legal.one_each, is.most rounds legal, keep, all, rest);
      },
    )
