-- The windows carry, with what lies in none of them, as many as are on time.
use Rattle.std.proofs.Common.{◌≡◌, ◌<◌, ◌≤◌, ℕ, ◌+◌, ◌-◌, ◌&&◌, nat_le, nat_lt, Bool, true, false, not, List, [], ◌∷◌, length, get_or, count_by, suc, inl, inr, arith, refl, sym, ◌∙◌, subst}
use Rattle.std.specs.List.{zip, list_any}
use Rattle.std.proofs.lemmas.List.Folds.{list_any_none, list_any_at}
use Rattle.std.proofs.lemmas.List.Sums.{sum_by-cons}
use Rattle.std.proofs.lemmas.Bool.{cases_Bool, cases_lt, and_parts, and_from, and_left, and_right, leb-true, le-leb, lt-leb, ltb-true, not-true, not_from_false, not_from_true}
use Rattle.edd_commands.specs.declared.Command.{Command}
use Rattle.edd_check.specs.declared.Window.{Window}
use Rattle.edd_commands.specs.declared.steps.Step.{Step}
use Rattle.edd_commands.specs.Capacity.{depth_at, carried}
use Rattle.edd_commands.specs.Schedule.{IsLegal, RoundsInRange, places_at}
use Rattle.edd_check.specs.OnTime.{number_on_time, is_on_time, lies_in, holds, can_be_on_time, outside_of, carried_in, carried_by, bound_of, IsOnTimeBound, IsCover, CoverInRange}
use Rattle.edd_check.proofs.Covers.{cover_rises_to, lies_here}
use Rattle.edd_commands.proofs.Counting.{no_places}
use Rattle.edd_oracle.specs.OnTime.{IsOnTimeFirst, IsDelayed, IsPassedWindow, IsPassedCover, IsMostAnswer}
use Rattle.edd_oracle.proofs.Counting.{count_of_both, count_along, count_wider}
use Rattle.edd_oracle.proofs.Crowded.{is_inside, due_among, due_among-full}
use Rattle.edd_oracle.proofs.Joined.{released_after, window_some}
use Rattle.edd_oracle.proofs.Pairs.{pair_at, length_pairs}

-- on time, and in none of the windows
abbrev on_time_apart : List Window → Command × ℕ → Bool
on_time_apart cover p = is_on_time p.0 p.1 && not (list_any (λ w. lies_in p.0 w) cover)

-- on time, and in the window
abbrev on_time_in : Window → Command × ℕ → Bool
on_time_in w p = is_on_time p.0 p.1 && lies_in p.0 w

-- the windows are disjoint and rise
pub passed_disjoint : (commands : List Command) (rounds : List ℕ) (steps : List Step) (cover : List Window) → length rounds ≡ length commands → IsOnTimeFirst commands rounds steps → IsPassedCover commands rounds steps cover → IsCover cover
passed_disjoint commands rounds steps cover same first are =
    λ k h.
    record {
      some = λ e.
          let known = window_some commands rounds steps (get_or cover k e) record { id = 0; release = 0; due = 0 } same first (are.each k e h) in
          omega (arith, known.0, known.1);
      rising = λ e some.
          let at : k - 1 + 1 ≡ k = omega arith in
          let up : (get_or cover (k - 1) e).due + 1 < (get_or cover (k - 1 + 1) e).from = are.apart (k - 1) e (omega arith) in
          let up' : (get_or cover (k - 1) e).due + 1 < (get_or cover k e).from = subst (λ n. (get_or cover (k - 1) e).due + 1 < (get_or cover n e).from) at up in
          omega arith;
    }

-- the due round of a window lies before the end of what is on time
window_early : (commands : List Command) (rounds : List ℕ) (steps : List Step) (w : Window) → IsLegal commands rounds steps → ((x : ℕ) → 0 < depth_at steps x) → (first : IsOnTimeFirst commands rounds steps) → IsPassedWindow commands rounds steps w → w.due < first.end
window_early commands rounds steps w legal some first is =
    let d : Command = record { id = 0; release = 0; due = 0 } in
    let k : ℕ = is.place in
    let out = is.passed d in
    elim (cases_lt w.due first.end) [
      | inl low ↦ low
      | inr past ↦
          let delayed : IsDelayed commands rounds w.due k d =
          record { in_list = out.in_list; released = omega (arith, out.some, is.is_due d); in_time = omega (arith, is.is_due d); later = omega (arith, out.late, is.is_due d) } in
          let nobody : places_at rounds w.due ≡ 0 =
          no_places rounds w.due
          (λ p h at.
          let p_in : p < length commands = omega (arith, legal.one_each) in
          let timely : w.due ≤ (get_or commands p d).due = (first.due_first w.due k p d delayed p_in at).0 in
          absurd (omega (arith, first.until.late p d p_in (omega arith)))) in
          absurd (omega (arith, first.full w.due k d delayed, some w.due))
    ]

-- what a window's rounds carry are commands on time that lie in it
window_full : (commands : List Command) (rounds : List ℕ) (steps : List Step) (w : Window) → IsLegal commands rounds steps → ((x : ℕ) → 0 < depth_at steps x) → IsOnTimeFirst commands rounds steps → IsPassedWindow commands rounds steps w → carried_in steps w ≤ count_by (on_time_in w) (zip commands rounds)
unfolding carried_in
window_full commands rounds steps w legal some first is =
    let n : ℕ = w.due + 1 - w.from in
    let full : carried steps w.from n ≤ due_among commands rounds w.from n w.due =
    due_among-full commands rounds steps w.from w.due n (λ y low high. is.is_start.full y low (omega arith)) in
    let early : w.due < first.end = window_early commands rounds steps w legal some first is in
    let long : length (zip commands rounds) ≡ length commands = length_pairs commands rounds legal.one_each in
    let held : due_among commands rounds w.from n w.due ≤ count_by (on_time_in w) (zip commands rounds) =
    count_along (is_inside w.from n w.due) (on_time_in w) (zip commands rounds) (zip commands rounds) refl
    (λ j p q h inside.
    let j_in : j < length commands = omega arith in
    let d : Command = p.0 in
    let c : Command = get_or commands j d in
    let x : ℕ = get_or rounds j 0 in
    let here : is_inside w.from n w.due (c, x) ≡ true = subst (λ (r : Command × ℕ). is_inside w.from n w.due r ≡ true) (pair_at commands rounds j p d 0 legal.one_each j_in) inside in
    let parts = and_parts (nat_le c.due w.due) (nat_le w.from x && nat_lt x (w.from + n)) here in
    let ends = and_parts (nat_le w.from x) (nat_lt x (w.from + n)) parts.1 in
    let by_then : c.due ≤ w.due = leb-true c.due w.due parts.0 in
    let low : w.from ≤ x = leb-true w.from x ends.0 in
    let high : x < w.from + n = ltb-true x (w.from + n) ends.1 in
    let on_time : x ≤ c.due = first.until.on_time j d j_in (omega arith) in
    let released : w.from ≤ c.release = released_after commands rounds steps (w.due + 1) w.due w.from j d legal.one_each first is.is_start j_in by_then (omega arith) low in
    let can : c.release ≤ c.due = omega (arith, legal.released j d j_in) in
    subst (λ (r : Command × ℕ). on_time_in w r ≡ true) (sym (pair_at commands rounds j q d 0 legal.one_each j_in))
    (and_from (nat_le x c.due) (lies_in c w) (le-leb x c.due on_time) (lies_here c w can released by_then))) in
    omega (arith, full, held)

cover_rest : (w : Window) (cover : List Window) → IsCover (w ∷ cover) → IsCover cover
cover_rest w cover is =
    λ k h.
    record {
      some = λ e. (is (suc k) (omega arith)).some e;
      rising = λ e some.
          let up = cover_rises_to (w ∷ cover) (suc (k - 1)) (suc k) e is (omega arith) (omega arith) in
          up;
    }

-- what lies in a window doesn't lie in one that begins after it ends
later_apart : (c : Command) (w v : Window) → lies_in c w ≡ true → w.due < v.from → lies_in c v ≡ false
later_apart c w v lies up =
    let parts = and_parts (holds w c.release) (holds w c.due) lies in
    let high : c.release ≤ w.due = leb-true c.release w.due (and_parts (nat_le w.from c.release) (nat_le c.release w.due) parts.0).1 in
    and_left (holds v c.release) (holds v c.due) (and_left (nat_le v.from c.release) (nat_le c.release v.due) (lt-leb v.from c.release (omega arith)))

any_rest : {X : Type 0} (p : X → Bool) (x : X) (xs : List X) → list_any p (x ∷ xs) ≡ false → list_any p xs ≡ false
any_rest p x xs none =
    list_any_none p xs
    (λ k d h.
    elim (cases_Bool (p (get_or xs k d))) [
      | inl passes ↦ let clash : true ≡ false = sym (list_any_at p (x ∷ xs) (suc k) d (omega arith) passes) ∙ none in absurd (cc)
      | inr fails ↦ fails
    ])

-- a command on time lies in one window at most
sum_on_time : (commands : List Command) (rounds : List ℕ) (steps : List Step) (cover : List Window) → ((i : ℕ) (e : Window) → i < length cover → carried_in steps (get_or cover i e) ≤ count_by (on_time_in (get_or cover i e)) (zip commands rounds)) → IsCover cover → carried_by steps cover + count_by (on_time_apart cover) (zip commands rounds) ≤ number_on_time commands rounds
unfolding number_on_time carried_by
sum_on_time commands rounds steps [] each is =
    omega (
      arith,
      count_wider (on_time_apart []) (λ p. is_on_time p.0 p.1) (λ p both. (and_parts (is_on_time p.0 p.1) (not (list_any (λ w. lies_in p.0 w) [])) both).0) (zip commands rounds),
    )
sum_on_time commands rounds steps (w ∷ cover) each is =
    let later : IsCover cover = cover_rest w cover is in
    let rest : carried_by steps cover + count_by (on_time_apart cover) (zip commands rounds) ≤ number_on_time commands rounds =
    sum_on_time commands rounds steps cover (λ i e h. each (suc i) e (omega arith)) later in
    let here : carried_in steps w ≤ count_by (on_time_in w) (zip commands rounds) = each 0 w (omega arith) in
    let split : count_by (on_time_in w) (zip commands rounds) + count_by (on_time_apart (w ∷ cover)) (zip commands rounds) ≤ count_by (on_time_apart cover) (zip commands rounds) =
    count_of_both (on_time_apart cover) (on_time_in w) (on_time_apart (w ∷ cover))
    (λ p yes.
    let parts = and_parts (is_on_time p.0 p.1) (lies_in p.0 w) yes in
    let out : list_any (λ v. lies_in p.0 v) cover ≡ false =
    list_any_none (λ v. lies_in p.0 v) cover (λ i e h. later_apart p.0 w (get_or cover i e) parts.1 (cover_rises_to (w ∷ cover) 0 (suc i) e is (omega arith) (omega arith))) in (
      and_from (is_on_time p.0 p.1) (not (list_any (λ v. lies_in p.0 v) cover)) parts.0 (not_from_false _ out),
      and_right (is_on_time p.0 p.1) (not (list_any (λ v. lies_in p.0 v) (w ∷ cover))) (not_from_true _ (list_any_at (λ v. lies_in p.0 v) (w ∷ cover) 0 w (omega arith) parts.1)),
    ))
    (λ p yes.
    let parts = and_parts (is_on_time p.0 p.1) (not (list_any (λ v. lies_in p.0 v) (w ∷ cover))) yes in
    and_from (is_on_time p.0 p.1) (not (list_any (λ v. lies_in p.0 v) cover)) parts.0 (not_from_false _ (any_rest (λ v. lies_in p.0 v) w cover (not-true _ parts.1))))
    (zip commands rounds) in
    omega (arith, rest, here, split, sum_by-cons (λ v. carried_in steps v) w cover)

-- all that can be on time is on time or lies in a window
outside_on_time : (commands : List Command) (rounds : List ℕ) (steps : List Step) (cover : List Window) → length rounds ≡ length commands → IsPassedCover commands rounds steps cover → outside_of commands cover ≤ count_by (on_time_apart cover) (zip commands rounds)
unfolding outside_of
outside_on_time commands rounds steps cover same are =
    count_along (λ c. can_be_on_time c && not (list_any (λ w. lies_in c w) cover)) (on_time_apart cover) commands (zip commands rounds) (length_pairs commands rounds same)
    (λ k d p h yes.
    let c : Command = get_or commands k d in
    let x : ℕ = get_or rounds k 0 in
    let parts = and_parts (can_be_on_time c) (not (list_any (λ w. lies_in c w) cover)) yes in
    let can : c.release ≤ c.due = leb-true c.release c.due parts.0 in
    let on_time : x ≤ c.due =
    elim (cases_lt c.due x) [
      | inr timely ↦ timely
      | inl late ↦
          let e : Window = record { from = 0; due = 0 } in
          let held = are.all k d record { in_list = h; some = can; late = late } in
          let known = held.2 e in
          let lies : list_any (λ w. lies_in c w) cover ≡ true = list_any_at (λ w. lies_in c w) cover held.0 e held.1 (lies_here c (get_or cover held.0 e) can known.0 known.1) in
          let none : list_any (λ w. lies_in c w) cover ≡ false = not-true _ parts.1 in
          let clash : true ≡ false = sym lies ∙ none in
          absurd (cc)
    ] in
    subst (λ (q : Command × ℕ). on_time_apart cover q ≡ true) (sym (pair_at commands rounds k p d 0 same h))
    (and_from (nat_le x c.due) (not (list_any (λ w. lies_in c w) cover)) (le-leb x c.due on_time) parts.1))

pub bound_reached : (commands : List Command) (rounds : List ℕ) (steps : List Step) (cover : List Window) → IsLegal commands rounds steps → ((x : ℕ) → 0 < depth_at steps x) → IsOnTimeFirst commands rounds steps → IsPassedCover commands rounds steps cover → bound_of commands steps cover ≤ number_on_time commands rounds
bound_reached commands rounds steps cover legal some first are =
    omega (
      arith,
      sum_on_time commands rounds steps cover (λ i e h. window_full commands rounds steps (get_or cover i e) legal some first (are.each i e h)) (passed_disjoint commands rounds steps cover legal.one_each first are),
      outside_on_time commands rounds steps cover legal.one_each are,
    )

-- so no schedule has more on time
pub most_answer : (commands : List Command) (rounds : List ℕ) (steps : List Step) (on_time : ℕ) (cover : List Window) → IsLegal commands rounds steps → ((x : ℕ) → 0 < depth_at steps x) → IsOnTimeFirst commands rounds steps → IsPassedCover commands rounds steps cover → IsOnTimeBound commands steps (bound_of commands steps cover) → number_on_time commands rounds ≡ on_time → RoundsInRange rounds → CoverInRange cover → IsMostAnswer commands steps rounds on_time cover
most_answer commands rounds steps on_time cover legal some first are bound number rounds_in in_range =
    let same : bound_of commands steps cover ≡ on_time = omega (arith, bound rounds legal, bound_reached commands rounds steps cover legal some first are) in
    record {
      legal = legal;
      number = number;
      disjoint = passed_disjoint commands rounds steps cover legal.one_each first are;
      bound = same;
      most = record { schedule = rounds; legal = legal; reached = number; most = subst (λ n. IsOnTimeBound commands steps n) same bound };
      rounds_in = rounds_in;
      cover_in = in_range;
    }
