-- The most of a part that can be on time beside all that were.
use Rattle.std.proofs.Common.{◌≡◌, ◌≢◌, ◌<◌, ◌≤◌, ℕ, ◌+◌, ◌-◌, zero, suc, Bool, true, false, not, cond, ◌&&◌, List, [], ◌∷◌, ◌++◌, length, length-append, get_or, filter, take, count_by, inl, inr, arith, refl, ap, sym, ◌∙◌, subst}
use Rattle.std.specs.List.{All, AllPairs, range_with_len}
use Rattle.std.proofs.Math.ListN.{get_or-append}
use Rattle.std.proofs.Math.Seq.{get_or-append_right}
use Rattle.std.proofs.lemmas.List.{get_or-map, append-nil, take_all}
use Rattle.std.proofs.lemmas.List.Elements.{All-append, All-filter, filter_passes, filter-append}
use Rattle.std.proofs.lemmas.List.FromFn.{get_or-range_with_len, length-range_with_len}
use Rattle.std.proofs.lemmas.List.Kept.{AllPairs-filter}
use Rattle.std.proofs.lemmas.List.Sums.{sum_by-append}
use Rattle.std.proofs.lemmas.Bool.{cases_Bool, cases_lt, cond-true, cond-false, lt-ltb, le-ltb, ltb-false, not-true, not_from_false, not_from_true}
use Rattle.edd_commands.specs.declared.Command.{Command}
use Rattle.edd_commands.specs.declared.steps.Step.{Step}
use Rattle.edd_commands.specs.Capacity.{depth_at}
use Rattle.edd_commands.specs.Schedule.{IsLegal}
use Rattle.edd_commands.specs.declared.TheConstants.{MAX_RELEASES}
use Rattle.edd_check.specs.OnTime.{number_on_time, IsMostOnTime}
use Rattle.edd_oracle.specs.Input.{IsSolvable}
use Rattle.edd_oracle.proofs.Counting.{count_none, count_yes, count_no}
use Rattle.edd_figures.proofs.Tardy.{all_commands}
use Rattle.edd_blame.specs.Inside.{on_time_places, late_places}
use Rattle.edd_blame.specs.Parts.{ArePlaces, command_here, is_late_at, number_late_at, KeepsOnTime, number_saved_at, IsMostSavedAt}
use Rattle.edd_blame.proofs.Adding.{count_all}
use Rattle.edd_blame.proofs.Causing.{nobody}
use Rattle.edd_blame.proofs.Clocks.{count_parts}
use Rattle.edd_verdict.specs.Laws.{MostKeepsOnTime}
use Rattle.edd_blame.proofs.Parting.{part, part_long, part_at, among, rounds_at, restricted, late_alike, spread, spread_own, spread_legal}

-- a number more
pub range_more : (a n : ℕ) → range_with_len a (suc n) ≡ range_with_len a n ++ (a + n) ∷ []
range_more a zero = let same : a ≡ a + 0 = omega arith in ap (λ x. x ∷ []) same
range_more a (suc n) =
    let rest = range_more (a + 1) n in
    let same : a + 1 + n ≡ a + suc n = omega arith in
    ap (λ l. a ∷ l) (rest ∙ ap (λ x. range_with_len (a + 1) n ++ x ∷ []) same)

-- one number more that passes, or not
pub more_kept : (p : ℕ → Bool) (n : ℕ) → p n ≡ true → filter p (range_with_len 0 (n + 1)) ≡ filter p (range_with_len 0 n) ++ n ∷ []
more_kept p n passes =
    let next : n + 1 ≡ suc n = omega arith in
    let same : 0 + n ≡ n = omega arith in
    ap (λ m. filter p (range_with_len 0 m)) next ∙ ap (λ l. filter p l) (range_more 0 n) ∙ filter-append p (range_with_len 0 n) ((0 + n) ∷ [])
    ∙ ap (λ x. filter p (range_with_len 0 n) ++ filter p (x ∷ [])) same ∙ ap (λ l. filter p (range_with_len 0 n) ++ l) (cond-true (p n) (n ∷ []) [] passes)

pub more_out : (p : ℕ → Bool) (n : ℕ) → p n ≡ false → filter p (range_with_len 0 (n + 1)) ≡ filter p (range_with_len 0 n)
more_out p n fails =
    let next : n + 1 ≡ suc n = omega arith in
    let same : 0 + n ≡ n = omega arith in
    ap (λ m. filter p (range_with_len 0 m)) next ∙ ap (λ l. filter p l) (range_more 0 n) ∙ filter-append p (range_with_len 0 n) ((0 + n) ∷ [])
    ∙ ap (λ x. filter p (range_with_len 0 n) ++ filter p (x ∷ [])) same ∙ ap (λ l. filter p (range_with_len 0 n) ++ l) (cond-false (p n) (n ∷ []) [] fails)
    ∙ append-nil (filter p (range_with_len 0 n))

pub on_time_more : (commands : List Command) (rounds : List ℕ) (i : ℕ) (found more : List ℕ) → found ≡ filter (λ k. not (is_late_at commands rounds k)) (range_with_len 0 i) → more ≡ found ++ i ∷ [] → get_or rounds i 0 ≤ (command_here commands i).due
    → more ≡ filter (λ k. not (is_late_at commands rounds k)) (range_with_len 0 (i + 1))
on_time_more commands rounds i found more so_far one by =
    one ∙ ap (λ l. l ++ i ∷ []) so_far ∙ sym (more_kept (λ k. not (is_late_at commands rounds k)) i (not_from_false (is_late_at commands rounds i) (le-ltb (command_here commands i).due (get_or rounds i 0) by)))

pub on_time_same : (commands : List Command) (rounds : List ℕ) (i : ℕ) (found more : List ℕ) → found ≡ filter (λ k. not (is_late_at commands rounds k)) (range_with_len 0 i) → more ≡ found → (command_here commands i).due < get_or rounds i 0
    → more ≡ filter (λ k. not (is_late_at commands rounds k)) (range_with_len 0 (i + 1))
on_time_same commands rounds i found more so_far none after =
    none ∙ so_far ∙ sym (more_out (λ k. not (is_late_at commands rounds k)) i (not_from_true (is_late_at commands rounds i) (lt-ltb (command_here commands i).due (get_or rounds i 0) after)))

pub on_time_all : (commands : List Command) (rounds : List ℕ) (i : ℕ) (found : List ℕ) → i ≡ length commands → found ≡ filter (λ k. not (is_late_at commands rounds k)) (range_with_len 0 i) → found ≡ on_time_places commands rounds
unfolding on_time_places
on_time_all commands rounds i found all so_far = so_far ∙ ap (λ n. filter (λ k. not (is_late_at commands rounds k)) (range_with_len 0 n)) all

pub late_all : (commands : List Command) (rounds places : List ℕ) (i : ℕ) (found : List ℕ) → length places ≤ i → found ≡ filter (is_late_at commands rounds) (take i places) → found ≡ late_places commands rounds places
unfolding late_places
late_all commands rounds places i found all so_far = so_far ∙ ap (λ l. filter (is_late_at commands rounds) l) (take_all i places all)

-- what passes two tests
count_filter : {X : Type 0} (p q : X → Bool) (xs : List X) → count_by q (filter p xs) ≡ count_by (λ x. p x && q x) xs
count_filter p q [] = refl
count_filter p q (x ∷ xs) =
    let rest = count_filter p q xs in
    elim (cases_Bool (p x)) [
      | inl passes ↦
          let same : filter p (x ∷ xs) ≡ x ∷ filter p xs = cond-true (p x) (x ∷ filter p xs) (filter p xs) passes in
          elim (cases_Bool (q x)) [
            | inl both ↦ ap (λ l. count_by q l) same ∙ count_yes q x (filter p xs) both ∙ ap (λ n. 1 + n) rest ∙ sym (count_yes (λ y. p y && q y) x xs (ap (λ b. b && q x) passes ∙ both))
            | inr one ↦ ap (λ l. count_by q l) same ∙ count_no q x (filter p xs) one ∙ rest ∙ sym (count_no (λ y. p y && q y) x xs (ap (λ b. b && q x) passes ∙ one))
          ]
      | inr fails ↦
          let same : filter p (x ∷ xs) ≡ filter p xs = cond-false (p x) (x ∷ filter p xs) (filter p xs) fails in
          ap (λ l. count_by q l) same ∙ rest ∙ sym (count_no (λ y. p y && q y) x xs (ap (λ b. b && q x) fails))
    ]

pass_or_not : (b : Bool) → cond b 1 0 + cond (not b) 1 0 ≡ 1
pass_or_not true = refl
pass_or_not false = refl

-- a place that passes stays
filter_keeps : (p : ℕ → Bool) (xs : List ℕ) (k i : ℕ) → All (λ x. x ≢ k) (filter p xs) → i < length xs → get_or xs i 0 ≡ k → p k ≡ true → ⊥
filter_keeps p [] k i none h is passes = absurd (omega (arith, h))
filter_keeps p (x ∷ xs) k zero none h is passes =
    let here : p x ≡ true = ap p is ∙ passes in
    let same : filter p (x ∷ xs) ≡ x ∷ filter p xs = cond-true (p x) (x ∷ filter p xs) (filter p xs) here in
    let none' : All (λ y. y ≢ k) (x ∷ filter p xs) = subst (λ l. All (λ y. y ≢ k) l) same none in
    none' 0 0 (omega arith) is
filter_keeps p (x ∷ xs) k (suc i) none h is passes =
    elim (cases_Bool (p x)) [
      | inl here ↦
          let same : filter p (x ∷ xs) ≡ x ∷ filter p xs = cond-true (p x) (x ∷ filter p xs) (filter p xs) here in
          let none' : All (λ y. y ≢ k) (x ∷ filter p xs) = subst (λ l. All (λ y. y ≢ k) l) same none in
          filter_keeps p xs k i (λ j d low. none' (suc j) d (omega (arith, low))) (omega (arith, h)) is passes
      | inr out ↦
          let same : filter p (x ∷ xs) ≡ filter p xs = cond-false (p x) (x ∷ filter p xs) (filter p xs) out in
          filter_keeps p xs k i (subst (λ l. All (λ y. y ≢ k) l) same none) (omega (arith, h)) is passes
    ]

once_append : (xs ys : List ℕ) → AllPairs (λ j k. j ≢ k) xs → AllPairs (λ j k. j ≢ k) ys → ((i j d : ℕ) → i < length xs → j < length ys → get_or xs i d ≢ get_or ys j d) → AllPairs (λ j k. j ≢ k) (xs ++ ys)
once_append xs ys one other apart i j d low h e =
    elim (cases_lt j (length xs)) [
      | inl left ↦ one i j d low left (sym (get_or-append xs ys d i (omega (arith, low, left))) ∙ e ∙ get_or-append xs ys d j left)
      | inr right ↦
          let at : get_or (xs ++ ys) j d ≡ get_or ys (j - length xs) d = get_or-append_right xs ys j d right in
          let within : j - length xs < length ys = omega (arith, h, right, length-append xs ys) in
          elim (cases_lt i (length xs)) [
            | inl left ↦ apart i (j - length xs) d left within (sym (get_or-append xs ys d i left) ∙ e ∙ at)
            | inr beyond ↦ other (i - length xs) (j - length xs) d (omega (arith, low, beyond, right)) within (sym (get_or-append_right xs ys i d beyond) ∙ e ∙ at)
          ]
    ]

-- a round past all
past_all : (rs : List ℕ) → (top : ℕ) × (MAX_RELEASES ≤ top) × All (λ x. x < top) rs
past_all [] = (MAX_RELEASES, omega arith, λ i d h. absurd (omega (arith, h)))
past_all (r ∷ rs) =
    let rest = past_all rs in (
      rest.0 + r + 1,
      omega (arith, rest.1),
      λ i d h. elim i as (λ n. n < length (r ∷ rs) → get_or (r ∷ rs) n d < rest.0 + r + 1) [
        | zero ↦ λ _. omega arith
        | suc n ↦ λ low. omega (arith, rest.2 n d (omega (arith, low)))
      ] h,
    )

module _ (commands : List Command) (rounds : List ℕ) (steps : List Step) (places : List ℕ) (legal : IsLegal commands rounds steps) (are : ArePlaces (length commands) places) where
  abbrev late : ℕ → Bool
  late = is_late_at commands rounds

  abbrev pub beside : List ℕ
  beside = on_time_places commands rounds ++ late_places commands rounds places

  on_time_in : All (λ k. k < length commands) (on_time_places commands rounds)
  unfolding on_time_places
  on_time_in =
      All-filter (λ k. not (late k)) (λ k. k < length commands) (range_with_len 0 (length commands))
      (λ i d h. let low : i < length commands = omega (arith, h, length-range_with_len 0 (length commands)) in omega (arith, low, get_or-range_with_len 0 (length commands) i d low))

  on_time_are : All (λ k. late k ≡ false) (on_time_places commands rounds)
  unfolding on_time_places
  on_time_are i d h = not-true _ (filter_passes (λ k. not (late k)) (range_with_len 0 (length commands)) i d h)

  on_time_once : AllPairs (λ j k. j ≢ k) (on_time_places commands rounds)
  unfolding on_time_places
  on_time_once =
      AllPairs-filter (λ j k. j ≢ k) (λ k. not (late k)) (range_with_len 0 (length commands))
      (λ i j d low h e.
      let n : ℕ = length commands in
      let high : j < n = omega (arith, h, length-range_with_len 0 n) in
      let first : get_or (range_with_len 0 n) i d ≡ 0 + i = get_or-range_with_len 0 n i d (omega (arith, low, high)) in
      let other : get_or (range_with_len 0 n) j d ≡ 0 + j = get_or-range_with_len 0 n j d high in
      omega (arith, low, first, other, e))

  late_in : All (λ k. k < length commands) (late_places commands rounds places)
  unfolding late_places
  late_in = All-filter late (λ k. k < length commands) places are.within

  late_are : All (λ k. late k ≡ true) (late_places commands rounds places)
  unfolding late_places
  late_are = filter_passes late places

  late_once : AllPairs (λ j k. j ≢ k) (late_places commands rounds places)
  unfolding late_places
  late_once = AllPairs-filter (λ j k. j ≢ k) late places are.once

  pub are_beside : ArePlaces (length commands) beside
  are_beside = record {
    within = All-append (λ k. k < length commands) (on_time_places commands rounds) (late_places commands rounds places) on_time_in late_in;
    once =
        once_append (on_time_places commands rounds) (late_places commands rounds places) on_time_once late_once
        (λ i j d low h e. let clash : false ≡ true = sym (on_time_are i d low) ∙ ap late e ∙ late_are j d h in cc);
  }

  -- what is on time stands among them
  stands : (k : ℕ) → k < length commands → late k ≡ false → (j : ℕ) × (j < length beside) × (get_or beside j 0 ≡ k)
  unfolding on_time_places
  stands k h on_time =
      elim (among beside k) [
        | inl found ↦ found
        | inr none ↦
            absurd (filter_keeps (λ i. not (late i)) (range_with_len 0 (length commands)) k k
            (λ i d low e. none i d (omega (arith, low, length-append (on_time_places commands rounds) (late_places commands rounds places))) (get_or-append (on_time_places commands rounds) (late_places commands rounds places) d i low ∙ e))
            (omega (arith, h, length-range_with_len 0 (length commands)))
            (get_or-range_with_len 0 (length commands) k 0 h ∙ omega arith)
            (not_from_false (late k) on_time))
      ]

  -- of them as many are on time in a schedule that keeps those, as were, and those that it saves
  saved_is : (other rs : List ℕ) → IsLegal (part commands steps beside are_beside) rs steps → KeepsOnTime commands rounds other → ((j d : ℕ) → j < length beside → get_or rs j 0 ≡ get_or other (get_or beside j d) 0)
      → number_on_time (part commands steps beside are_beside) rs ≡ length (on_time_places commands rounds) + number_saved_at commands rounds other places
  unfolding number_late_at number_saved_at late_places
  saved_is other rs own keeps alike =
      let long : length rs ≡ length beside = own.one_each ∙ part_long commands steps beside are_beside in
      let all = all_commands (part commands steps beside are_beside) rs own.one_each in
      let late' : ℕ → Bool = is_late_at commands other in
      let same = late_alike commands steps beside are_beside other rs long alike in
      let split = sum_by-append (λ k. cond (late' k) 1 0) (on_time_places commands rounds) (late_places commands rounds places) in
      let none : count_by late' (on_time_places commands rounds) ≡ 0 =
      count_none late' (on_time_places commands rounds) (λ i d h. keeps (get_or (on_time_places commands rounds) i d) (on_time_in i d h) (on_time_are i d h)) in
      let saved = count_filter late (λ k. not (late' k)) places in
      let rest = count_parts late' (λ k. not (late' k)) (λ _. true) (λ k. pass_or_not (late' k)) (filter late places) in
      omega (arith, all, same, split, none, saved, rest, count_all (filter late places), length-append (on_time_places commands rounds) (late_places commands rounds places), part_long commands steps beside are_beside)

  -- a schedule that keeps what was on time in the part
  keeps_spread : (top : ℕ) (rs : List ℕ) → length rs ≡ length beside → ((j : ℕ) (d : Command) → j < length (part commands steps beside are_beside) → get_or (rounds_at commands steps beside are_beside rounds) j 0 ≤ (get_or (part commands steps beside are_beside) j d).due → get_or rs j 0 ≤ (get_or (part commands steps beside are_beside) j d).due)
      → KeepsOnTime commands rounds (spread commands steps beside are_beside top rs)
  keeps_spread top rs long keeps k h on_time =
      let found = stands k h on_time in
      let j : ℕ = found.0 in
      let in_part : j < length (part commands steps beside are_beside) = omega (arith, found.1, part_long commands steps beside are_beside) in
      let due : (get_or (part commands steps beside are_beside) j nobody).due ≡ (command_here commands k).due =
      ap (λ (c : Command). c.due) (part_at commands steps beside are_beside j nobody 0 found.1 ∙ ap (command_here commands) found.2) in
      let was : get_or (rounds_at commands steps beside are_beside rounds) j 0 ≡ get_or rounds k 0 =
      get_or-map (λ i. get_or rounds i 0) beside j 0 0 found.1 ∙ ap (λ i. get_or rounds i 0) found.2 in
      let now : get_or (spread commands steps beside are_beside top rs) k 0 ≡ get_or rs j 0 =
      ap (λ i. get_or (spread commands steps beside are_beside top rs) i 0) (sym found.2) ∙ spread_own commands steps beside are_beside top rs long j 0 found.1 in
      let by : get_or rounds k 0 ≤ (command_here commands k).due = ltb-false (command_here commands k).due (get_or rounds k 0) on_time in
      let kept : get_or rs j 0 ≤ (get_or (part commands steps beside are_beside) j nobody).due = keeps j nobody in_part (omega (arith, by, was, due)) in
      le-ltb (command_here commands k).due (get_or (spread commands steps beside are_beside top rs) k 0) (omega (arith, kept, now, due))

  -- those that were on time are no more than can be
  pub on_time_few : (most : ℕ) → IsMostOnTime (part commands steps beside are_beside) steps most → length (on_time_places commands rounds) ≤ most
  on_time_few most is =
      let own = restricted commands steps beside are_beside rounds legal in
      let same = saved_is rounds (rounds_at commands steps beside are_beside rounds) own (λ k h on_time. on_time) (λ j d h. get_or-map (λ i. get_or rounds i 0) beside j d 0 h) in
      omega (arith, same, is.most (rounds_at commands steps beside are_beside rounds) own)

  pub most_saved : (most n : ℕ) → ((x : ℕ) → 0 < depth_at steps x) → All IsSolvable commands → ((rounds : List ℕ) → MostKeepsOnTime (part commands steps beside are_beside) rounds steps) → IsMostOnTime (part commands steps beside are_beside) steps most → n + length (on_time_places commands rounds) ≡ most → IsMostSavedAt commands rounds steps places n
  most_saved most n some solvable kept is all =
      let base : List ℕ = rounds_at commands steps beside are_beside rounds in
      let own : IsLegal (part commands steps beside are_beside) base steps = restricted commands steps beside are_beside rounds legal in
      let best = kept base most own is in
      let past = past_all best.0 in
      let top : ℕ = past.0 in
      let long : length best.0 ≡ length beside = best.1.one_each ∙ part_long commands steps beside are_beside in
      let keeps = keeps_spread top best.0 long best.2 in
      record {
        schedule = spread commands steps beside are_beside top best.0;
        legal = spread_legal commands steps beside are_beside top best.0 some solvable past.1 past.2 best.1;
        keeps = keeps;
        reached =
            (let same = saved_is (spread commands steps beside are_beside top best.0) best.0 best.1 keeps (λ j d h. sym (spread_own commands steps beside are_beside top best.0 long j d h)) in
            omega (arith, same, best.3, all));
        most =
            λ other whole kept.
            let part_of = restricted commands steps beside are_beside other whole in
            let same = saved_is other (rounds_at commands steps beside are_beside other) part_of kept (λ j d h. get_or-map (λ i. get_or other i 0) beside j d 0 h) in
            omega (arith, same, is.most (rounds_at commands steps beside are_beside other) part_of, all);
      }
