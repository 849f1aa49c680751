-- Windows bound how many commands a legal schedule has on time.
use Rattle.std.proofs.Common.{◌≡◌, ◌<◌, ◌≤◌, ℕ, ◌+◌, ◌-◌, ◌*◌, Bool, true, false, not, ◌&&◌, nat_le, nat_lt, List, [], ◌∷◌, length, get_or, take, count_by, suc, zero, inl, inr, arith, refl, ap, sym, ◌∙◌, subst}
use Rattle.std.specs.List.{zip, list_any}
use Rattle.std.specs.List.Sorted.{IsPartitionPoint, IsPartitionedBy}
use Rattle.std.proofs.lemmas.List.Folds.{list_any_none, list_any_at}
use Rattle.std.proofs.lemmas.Slice.Zip.{get_or-zip, length-zip}
use Rattle.std.proofs.lemmas.List.{get_or_default}
use Rattle.std.proofs.lemmas.List.Sums.{sum_by-cons, sum_by_more}
use Rattle.std.proofs.lemmas.Bool.{and_parts, and_from, and_left, and_right, leb-true, leb-false, le-leb, lt-leb, lt-ltb, le-ltb, cases_Bool, cases_eq, cases_lt, or_from, not-true, not_from_false, not_from_true}
use Rattle.edd_commands.specs.declared.Command.{Command}
use Rattle.edd_check.specs.declared.Window.{Window}
use Rattle.edd_commands.specs.declared.steps.Step.{Step}
use Rattle.edd_commands.specs.Schedule.{IsLegal}
use Rattle.edd_check.specs.OnTime.{number_on_time, is_on_time, lies_in, holds, can_be_on_time, outside_of, carried_in, carried_by, bound_of, IsOnTimeBound, IsCover, IsWindowAt}
use Rattle.edd_commands.specs.Capacity.{carried, IsCapacity}
use Rattle.edd_commands.proofs.InForce.{carried_none, carried_suc, depth_bounds}
use Rattle.edd_commands.proofs.Counting.{count_of_either, count_along, places_among, places_among-le}

-- a place of the commands and the rounds side by side
pub pair_at : (commands : List Command) (rounds : List ℕ) (k : ℕ) (p : Command × ℕ) (d : Command) (e : ℕ) → length rounds ≡ length commands → k < length commands → get_or (zip commands rounds) k p ≡ (get_or commands k d, get_or rounds k e)
pair_at commands rounds k p d e same within =
    get_or-zip commands rounds k p within (omega arith) ∙ ap (λ (c : Command). (c, get_or rounds k p.1)) (get_or_default commands k p.0 d within) ∙ ap (λ (x : ℕ). (get_or commands k d, x)) (get_or_default rounds k p.1 e (omega arith))

pub length_pairs : (commands : List Command) (rounds : List ℕ) → length rounds ≡ length commands → length (zip commands rounds) ≡ length commands
length_pairs commands rounds same = omega (arith, length-zip commands rounds)

-- on time, and in none of the windows
abbrev on_time_apart : List Window → Command × ℕ → Bool
on_time_apart cover p = is_on_time p.0 p.1 && not (list_any (λ w. lies_in p.0 w) cover)

-- on time, and in the window
abbrev on_time_in : Window → Command × ℕ → Bool
on_time_in w p = is_on_time p.0 p.1 && lies_in p.0 w

-- a command on time that lies in a window runs in it
carried_on_time : (commands : List Command) (rounds : List ℕ) (steps : List Step) (w : Window) → IsLegal commands rounds steps → count_by (on_time_in w) (zip commands rounds) ≤ carried_in steps w
unfolding carried_in
carried_on_time commands rounds steps w legal =
    let n : ℕ = w.due + 1 - w.from in
    let long : length (zip commands rounds) ≡ length commands = length_pairs commands rounds legal.one_each in
    let held : count_by (on_time_in w) (zip commands rounds) ≤ places_among rounds w.from n =
    count_along (on_time_in w) (λ x. nat_le w.from x && nat_lt x (w.from + n)) (zip commands rounds) rounds (omega (arith, legal.one_each, long))
    (λ k p e h yes.
    let k_in : k < length commands = omega arith in
    let here : on_time_in w (get_or commands k p.0, get_or rounds k e) ≡ true =
    subst (λ (q : Command × ℕ). on_time_in w q ≡ true) (pair_at commands rounds k p p.0 e legal.one_each k_in) yes in
    let c : Command = get_or commands k p.0 in
    let x : ℕ = get_or rounds k e in
    let parts = and_parts (nat_le x c.due) (lies_in c w) here in
    let by_due : x ≤ c.due = leb-true x c.due parts.0 in
    let both = and_parts (holds w c.release) (holds w c.due) parts.1 in
    let low : w.from ≤ c.release = leb-true w.from c.release (and_parts (nat_le w.from c.release) (nat_le c.release w.due) both.0).0 in
    let high : c.due ≤ w.due = leb-true c.due w.due (and_parts (nat_le w.from c.due) (nat_le c.due w.due) both.1).1 in
    let same : x ≡ get_or rounds k 0 = get_or_default rounds k e 0 (omega (arith, legal.one_each)) in
    let released : c.release ≤ get_or rounds k 0 = legal.released k p.0 k_in in
    and_from (nat_le w.from x) (nat_lt x (w.from + n)) (le-leb w.from x (omega arith)) (lt-ltb x (w.from + n) (omega arith))) in
    omega (arith, held, places_among-le rounds steps legal.within_depth w.from n)

-- a command on time was released by its due round
apart_outside : (commands : List Command) (rounds : List ℕ) (steps : List Step) (cover : List Window) → IsLegal commands rounds steps → count_by (on_time_apart cover) (zip commands rounds) ≤ outside_of commands cover
unfolding outside_of
apart_outside commands rounds steps cover legal =
    let long : length (zip commands rounds) ≡ length commands = length_pairs commands rounds legal.one_each in
    count_along (on_time_apart cover) (λ c. can_be_on_time c && not (list_any (λ w. lies_in c w) cover)) (zip commands rounds) commands (sym long)
    (λ k p e h yes.
    let k_in : k < length commands = omega arith in
    let here : on_time_apart cover (get_or commands k e, get_or rounds k 0) ≡ true =
    subst (λ (q : Command × ℕ). on_time_apart cover q ≡ true) (pair_at commands rounds k p e 0 legal.one_each k_in) yes in
    let c : Command = get_or commands k e in
    let x : ℕ = get_or rounds k 0 in
    let parts = and_parts (nat_le x c.due) (not (list_any (λ w. lies_in c w) cover)) here in
    let by_due : x ≤ c.due = leb-true x c.due parts.0 in
    let released : c.release ≤ x = legal.released k e k_in in
    and_from (nat_le c.release c.due) (not (list_any (λ w. lies_in c w) cover)) (le-leb c.release c.due (omega arith)) parts.1)

-- what is on time lies in a window, whose rounds carry it, or in none
on_time_split : (commands : List Command) (rounds : List ℕ) (steps : List Step) (cover : List Window) → IsLegal commands rounds steps → number_on_time commands rounds ≤ carried_by steps cover + count_by (on_time_apart cover) (zip commands rounds)
unfolding number_on_time carried_by
on_time_split commands rounds steps [] legal =
    omega (
      arith,
      count_along (λ p. is_on_time p.0 p.1) (on_time_apart []) (zip commands rounds) (zip commands rounds) refl
          (λ k d e h yes.
          let same : get_or (zip commands rounds) k d ≡ get_or (zip commands rounds) k e = get_or_default (zip commands rounds) k d e h in
          and_from (is_on_time (get_or (zip commands rounds) k e).0 (get_or (zip commands rounds) k e).1) (not false) (subst (λ (q : Command × ℕ). is_on_time q.0 q.1 ≡ true) same yes) refl),
    )
on_time_split commands rounds steps (w ∷ cover) legal =
    let rest : number_on_time commands rounds ≤ carried_by steps cover + count_by (on_time_apart cover) (zip commands rounds) = on_time_split commands rounds steps cover legal in
    let split : count_by (on_time_apart cover) (zip commands rounds) ≤ count_by (on_time_in w) (zip commands rounds) + count_by (on_time_apart (w ∷ cover)) (zip commands rounds) =
    count_of_either (on_time_apart cover) (on_time_in w) (on_time_apart (w ∷ cover))
    (λ p yes.
    let parts = and_parts (is_on_time p.0 p.1) (not (list_any (λ v. lies_in p.0 v) cover)) yes in
    elim (cases_Bool (lies_in p.0 w)) [
      | inl lies ↦ inl (and_from (is_on_time p.0 p.1) (lies_in p.0 w) parts.0 lies)
      | inr other ↦ inr (and_from (is_on_time p.0 p.1) (not (list_any (λ v. lies_in p.0 v) (w ∷ cover))) parts.0 (not_from_false _ (or_from (lies_in p.0 w) (list_any (λ v. lies_in p.0 v) cover) other (not-true _ parts.1))))
    ])
    (zip commands rounds) in
    omega (arith, rest, split, carried_on_time commands rounds steps w legal, sum_by-cons (λ v. carried_in steps v) w cover)

-- what windows carry, with what lies in none of them, bounds what is on time
pub covers_bound : (commands : List Command) (steps : List Step) (cover : List Window) → IsOnTimeBound commands steps (bound_of commands steps cover)
covers_bound commands steps cover rounds legal =
    omega (arith, on_time_split commands rounds steps cover legal, apart_outside commands rounds steps cover legal)

-- of disjoint windows by rising rounds each later one begins after an earlier one ends
pub cover_rises : (cover : List Window) (i m : ℕ) (d : Window) → IsCover cover → i + suc m < length cover → (get_or cover i d).due < (get_or cover (i + suc m) d).from
cover_rises cover i zero d is h =
    let up : (get_or cover (i + 1 - 1) d).due < (get_or cover (i + 1) d).from = (is (i + 1) h).rising d (omega arith) in
    let same : i + 1 - 1 ≡ i = omega arith in
    subst (λ n. (get_or cover n d).due < (get_or cover (i + 1) d).from) same up
cover_rises cover i (suc m) d is h =
    let rest : (get_or cover i d).due < (get_or cover (i + suc m) d).from = cover_rises cover i m d is (omega arith) in
    let some : (get_or cover (i + suc m) d).from ≤ (get_or cover (i + suc m) d).due = (is (i + suc m) (omega arith)).some d in
    let up = (is (i + suc (suc m)) h).rising d (omega arith) in
    let same : i + suc (suc m) - 1 ≡ i + suc m = omega arith in
    let up' : (get_or cover (i + suc m) d).due < (get_or cover (i + suc (suc m)) d).from = subst (λ n. (get_or cover n d).due < (get_or cover (i + suc (suc m)) d).from) same up in
    omega arith

pub cover_rises_to : (cover : List Window) (i j : ℕ) (d : Window) → IsCover cover → i < j → j < length cover → (get_or cover i d).due < (get_or cover j d).from
cover_rises_to cover i j d is low high =
    let same : i + suc (j - suc i) ≡ j = omega arith in
    subst (λ n. (get_or cover i d).due < (get_or cover n d).from) same (cover_rises cover i (j - suc i) d is (omega arith))

-- the first `place` windows begin by the command's release, and the others later
pub record IsPlaced (c : Command) (cover : List Window) (place : ℕ) : Type 0 where
  pub within : place ≤ length cover
  pub begun : (k : ℕ) (d : Window) → k < place → (get_or cover k d).from ≤ c.release
  pub later : (k : ℕ) (d : Window) → place ≤ k → k < length cover → c.release < (get_or cover k d).from

-- a window that begins later doesn't hold the release
later_apart : (c : Command) (w : Window) → c.release < w.from → lies_in c w ≡ false
later_apart c w h =
    and_left (holds w c.release) (holds w c.due) (and_left (nat_le w.from c.release) (nat_le c.release w.due) (lt-leb w.from c.release h))

-- a window that ends sooner doesn't either
sooner_apart : (c : Command) (w : Window) → w.due < c.release → lies_in c w ≡ false
sooner_apart c w h =
    and_left (holds w c.release) (holds w c.due) (and_right (nat_le w.from c.release) (nat_le c.release w.due) (lt-leb c.release w.due h))

-- nor does one that ends before the due round hold that
short_apart : (c : Command) (w : Window) → w.due < c.due → lies_in c w ≡ false
short_apart c w h =
    and_right (holds w c.release) (holds w c.due) (and_right (nat_le w.from c.due) (nat_le c.due w.due) (lt-leb c.due w.due h))

pub lies_here : (c : Command) (w : Window) → c.release ≤ c.due → w.from ≤ c.release → c.due ≤ w.due → lies_in c w ≡ true
lies_here c w can low high =
    and_from (holds w c.release) (holds w c.due)
    (and_from (nat_le w.from c.release) (nat_le c.release w.due) (le-leb w.from c.release low) (le-leb c.release w.due (omega arith)))
    (and_from (nat_le w.from c.due) (nat_le c.due w.due) (le-leb w.from c.due (omega arith)) (le-leb c.due w.due high))

-- a command lies at most in the last window that begins by its release
in_none : (c : Command) (cover : List Window) (place : ℕ) → IsCover cover → IsPlaced c cover place → (0 < place → (d : Window) → (get_or cover (place - 1) d).due < c.due) → list_any (λ w. lies_in c w) cover ≡ false
in_none c cover place is at short =
    list_any_none (λ w. lies_in c w) cover
    (λ k d h.
    elim (cases_lt k place) [
      | inr past ↦ later_apart c (get_or cover k d) (at.later k d past h)
      | inl low ↦
          elim (cases_eq k (place - 1)) [
            | inl last ↦ subst (λ n. lies_in c (get_or cover n d) ≡ false) (sym last) (short_apart c (get_or cover (place - 1) d) (short (omega arith) d))
            | inr before ↦
                sooner_apart c (get_or cover k d)
                (omega (arith, cover_rises_to cover k (place - 1) d is (omega arith) (omega (arith, at.within)), at.begun (place - 1) d (omega arith)))
          ]
    ])

pub outside_first : (c : Command) (cover : List Window) (place : ℕ) → IsCover cover → IsPlaced c cover place → c.release ≤ c.due → place ≡ 0 → can_be_on_time c && not (list_any (λ w. lies_in c w) cover) ≡ true
outside_first c cover place is at can first =
    and_from (nat_le c.release c.due) (not (list_any (λ w. lies_in c w) cover)) (le-leb c.release c.due can)
    (not_from_false (list_any (λ w. lies_in c w) cover) (in_none c cover place is at (λ some. absurd (omega arith))))

pub outside_last : (c : Command) (cover : List Window) (place : ℕ) (d : Window) → IsCover cover → IsPlaced c cover place → c.release ≤ c.due → 0 < place → nat_lt (get_or cover (place - 1) d).due c.due ≡ (can_be_on_time c && not (list_any (λ w. lies_in c w) cover))
outside_last c cover place d is at can some =
    let in_list : place - 1 < length cover = omega (arith, at.within) in
    elim (cases_lt (get_or cover (place - 1) d).due c.due) [
      | inl short ↦
          lt-ltb (get_or cover (place - 1) d).due c.due short
          ∙ sym (and_from (nat_le c.release c.due) (not (list_any (λ w. lies_in c w) cover)) (le-leb c.release c.due can)
          (not_from_false (list_any (λ w. lies_in c w) cover)
          (in_none c cover place is at
          (λ h e. subst (λ (w : Window). w.due < c.due) (get_or_default cover (place - 1) d e in_list) short))))
      | inr long ↦
          le-ltb (get_or cover (place - 1) d).due c.due long
          ∙ sym (and_right (nat_le c.release c.due) (not (list_any (λ w. lies_in c w) cover))
          (not_from_true (list_any (λ w. lies_in c w) cover)
          (list_any_at (λ w. lies_in c w) cover (place - 1) d in_list (lies_here c (get_or cover (place - 1) d) can (at.begun (place - 1) d (omega arith)) long))))
    ]

-- where windows begin by rising rounds, those that begin by a round come first
pub begins_parted : (cover : List Window) (x : ℕ) → IsCover cover → IsPartitionedBy (λ w. nat_le w.from x) cover
begins_parted cover x is i j d le h begins =
    elim (cases_eq i j) [
      | inl same ↦ subst (λ n. nat_le (get_or cover n d).from x ≡ true) (sym same) begins
      | inr other ↦
          let low : (get_or cover j d).from ≤ x = leb-true (get_or cover j d).from x begins in
          let up : (get_or cover i d).due < (get_or cover j d).from = cover_rises_to cover i j d is (omega arith) h in
          le-leb (get_or cover i d).from x (omega (arith, (is i (omega arith)).some d))
    ]

pub placed_here : (c : Command) (cover : List Window) (place : ℕ) → place ≤ length cover → IsPartitionPoint (λ w. nat_le w.from c.release ≡ true) (λ w. nat_le w.from c.release ≡ false) cover place → IsPlaced c cover place
placed_here c cover place within parted =
    record {
      within = within;
      begun = λ k d h. leb-true (get_or cover k d).from c.release (parted.0 k d (omega arith) h);
      later = λ k d low h. leb-false (get_or cover k d).from c.release (parted.1 k d low h);
    }

-- one more window of a cover
pub window_here : (cover : List Window) (k : ℕ) (d : Window) → k < length cover → (get_or cover k d).from ≤ (get_or cover k d).due → (0 < k → (get_or cover (k - 1) d).due < (get_or cover k d).from) → IsWindowAt cover k
window_here cover k d within some rising =
    record {
      some = λ e. subst (λ (w : Window). w.from ≤ w.due) (get_or_default cover k d e within) some;
      rising = λ e h.
          let here : (get_or cover k d).from ≡ (get_or cover k e).from = ap (λ (w : Window). w.from) (get_or_default cover k d e within) in
          let before : (get_or cover (k - 1) d).due ≡ (get_or cover (k - 1) e).due = ap (λ (w : Window). w.due) (get_or_default cover (k - 1) d e (omega arith)) in
          omega (arith, rising h);
    }

-- what a window's rounds carry is at most the most depth for each
pub carried_most : (steps : List Step) (start n : ℕ) → IsCapacity steps → carried steps start n ≤ 256 * n
carried_most steps start zero capacity = omega (arith, carried_none steps start)
carried_most steps start (suc n) capacity =
    omega (arith, carried_most steps start n capacity, carried_suc steps start n, (depth_bounds steps (start + n) capacity).1)

pub carried_in_most : (steps : List Step) (w : Window) → IsCapacity steps → carried_in steps w ≤ 256 * (w.due + 1 - w.from)
unfolding carried_in
carried_in_most steps w capacity = carried_most steps w.from (w.due + 1 - w.from) capacity

pub carried_by_more : (steps : List Step) (cover : List Window) (k : ℕ) (d : Window) → k < length cover → carried_by steps (take (k + 1) cover) ≡ carried_by steps (take k cover) + carried_in steps (get_or cover k d)
unfolding carried_by
carried_by_more steps cover k d within = sum_by_more (λ w. carried_in steps w) cover k d within

pub carried_by_none : (steps : List Step) (cover : List Window) → carried_by steps (take 0 cover) ≡ 0
unfolding carried_by
carried_by_none steps cover = refl

-- the sum up to a window, where the one before it ends within the sum
pub sum_small : (cover : List Window) (i total : ℕ) (d : Window) → IsCover cover → i < length cover → (i ≡ 0 → total ≡ 0) → ((e : Window) → 0 < i → total ≤ 256 * ((get_or cover (i - 1) e).due + 1)) → total ≤ 256 * (get_or cover i d).from
sum_small cover i total d is within none small =
    elim (cases_eq i 0) [
      | inl first ↦ omega (arith, none first)
      | inr more ↦ omega (arith, small d (omega arith), (is i within).rising d (omega arith))
    ]
