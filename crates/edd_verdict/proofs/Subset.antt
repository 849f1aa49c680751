-- The commands that are on time, as a list of their own.
use Rattle.std.proofs.Common.{◌≡◌, ◌≢◌, ◌<◌, ◌≤◌, ℕ, ◌+◌, cond, not, Bool, true, false, ◌==◌, ◌&&◌, List, [], ◌∷◌, length, get_or, map, filter, count_by, ℤ, pos, ◌≤ℤ◌, inl, inr, arith, refl, ap, sym, ◌∙◌, subst}
use Rattle.std.specs.List.{zip, All, AllPairs}
use Rattle.std.proofs.lemmas.Int.{ints}
use Rattle.std.proofs.lemmas.List.{get_or-map, length-map}
use Rattle.std.proofs.lemmas.List.Sums.{count_by-le-length, length-filter}
use Rattle.std.proofs.lemmas.List.Filters.{sum_by-filter_both}
use Rattle.std.proofs.lemmas.List.Elements.{All-filter, filter_passes}
use Rattle.std.proofs.lemmas.List.Kept.{AllPairs-filter}
use Rattle.std.proofs.lemmas.Bool.{cases_Bool, cond-true, cond-false, and_parts, and_from, leb-true, le-leb, eqb-true}
use Rattle.edd_commands.specs.declared.Command.{Command}
use Rattle.edd_check.specs.declared.Window.{Window}
use Rattle.edd_commands.specs.declared.steps.Step.{Step}
use Rattle.edd_commands.specs.Capacity.{depth_at}
use Rattle.edd_commands.specs.Schedule.{IsLegal, places_at}
use Rattle.edd_check.specs.OnTime.{is_on_time, lies_in}
use Rattle.edd_check.proofs.Least.{bound_from_crowded}
use Rattle.edd_oracle.proofs.Counting.{count_yes, count_no, count_along, count_map, count_wider}
use Rattle.edd_oracle.proofs.Pairs.{nobody, pair_at, length_pairs, tested, untested, at_places}
use Rattle.edd_oracle.proofs.Filled.{is_held}
use Rattle.edd_oracle.specs.Answer.{IsBest}
use Rattle.edd_oracle.specs.Input.{IsSolvable, IsTaken}
use Rattle.edd_verdict.specs.Filled.{held_at, IsFilled}
use Rattle.edd_verdict.specs.Inside.Open.{on_time_of, AreOnTime, AreFilled}
use Rattle.edd_verdict.proofs.Holding.{held_in, filled_holds, holds_filled}

-- a count over those that pass a wider test
count_filter : {X : Type 0} (p q : X → Bool) → ((x : X) → p x ≡ true → q x ≡ true) → (xs : List X) → count_by p (filter q xs) ≡ count_by p xs
count_filter p q wider [] = refl
count_filter p q wider (x ∷ xs) =
    elim (cases_Bool (q x)) [
      | inl passes ↦
          let same : filter q (x ∷ xs) ≡ x ∷ filter q xs = cond-true (q x) (x ∷ filter q xs) (filter q xs) passes in
          let rest : count_by p (filter q xs) ≡ count_by p xs = count_filter p q wider xs in
          ap (λ l. count_by p l) same ∙ (elim (cases_Bool (p x)) [
            | inl yes_p ↦ count_yes p x (filter q xs) yes_p ∙ ap (λ n. 1 + n) rest ∙ sym (count_yes p x xs yes_p)
            | inr no_p ↦ count_no p x (filter q xs) no_p ∙ rest ∙ sym (count_no p x xs no_p)
          ])
      | inr fails ↦
          let same : filter q (x ∷ xs) ≡ filter q xs = cond-false (q x) (x ∷ filter q xs) (filter q xs) fails in
          let no_p : p x ≡ false = elim (cases_Bool (p x)) [ inl passes ↦ absurd (let clash : true ≡ false = sym (wider x passes) ∙ fails in cc) | inr out ↦ out ] in
          ap (λ l. count_by p l) same ∙ count_filter p q wider xs ∙ sym (count_no p x xs no_p)
    ]

count_filtered : {X : Type 0} (p q : X → Bool) → (xs : List X) → count_by p (filter q xs) ≤ count_by p xs
count_filtered p q xs =
    let both : count_by p (filter q xs) + count_by p (filter (λ x. not (q x)) xs) ≡ count_by p xs = sum_by-filter_both q (λ x. not (q x)) (λ x. refl) (λ x. cond (p x) 1 0) xs in
    omega (arith, both)

-- pairs taken apart and put together again
zip_parts : {X Y : Type 0} (xs : List (X × Y)) → zip (map (λ p. p.0) xs) (map (λ p. p.1) xs) ≡ xs
zip_parts [] = refl
zip_parts (x ∷ xs) = ap (λ l. x ∷ l) (zip_parts xs)

module _ (commands : List Command) (rounds : List ℕ) (steps : List Step) (legal : IsLegal commands rounds steps) where
  -- those that are on time, each with its round
  abbrev pub pairs : List (Command × ℕ)
  pairs = filter (λ p. is_on_time p.0 p.1) (zip commands rounds)

  abbrev pub commands_on_time : List Command
  commands_on_time = on_time_of commands rounds

  abbrev pub on_time_rounds : List ℕ
  on_time_rounds = map (λ p. p.1) pairs

  one_each : length on_time_rounds ≡ length commands_on_time
  one_each = length-map pairs (λ p. p.1) ∙ sym (length-map pairs (λ p. p.0))

  -- each of them is released by its round, and runs by its due round
  fits : All (λ (p : Command × ℕ). (p.0.release ≤ p.1) × (p.1 ≤ p.0.due)) pairs
  fits i d h =
      let released : All (λ (p : Command × ℕ). p.0.release ≤ p.1) pairs =
      All-filter (λ p. is_on_time p.0 p.1) (λ (p : Command × ℕ). p.0.release ≤ p.1) (zip commands rounds)
      (λ k q k_in.
      let within : k < length commands = omega (arith, length_pairs commands rounds legal.one_each) in
      subst (λ (p : Command × ℕ). p.0.release ≤ p.1) (sym (pair_at commands rounds k q nobody 0 legal.one_each within)) (legal.released k nobody within)) in
      (released i d h, leb-true (get_or pairs i d).1 (get_or pairs i d).0.due (filter_passes (λ p. is_on_time p.0 p.1) (zip commands rounds) i d h))

  on_time_at : (k : ℕ) (d : Command) → k < length commands_on_time → (get_or commands_on_time k d ≡ (get_or pairs k (nobody, 0)).0) × (get_or on_time_rounds k 0 ≡ (get_or pairs k (nobody, 0)).1)
  on_time_at k d h =
      let within : k < length pairs = omega (arith, length-map pairs (λ p. p.0)) in
      (get_or-map (λ p. p.0) pairs k (nobody, 0) d within, get_or-map (λ p. p.1) pairs k (nobody, 0) 0 within)

  -- the oracle takes them where it takes all
  pub on_time_taken : IsTaken commands → IsTaken commands_on_time
  on_time_taken taken =
      let timely : Command × ℕ → Bool = λ p. is_on_time p.0 p.1 in
      let at : (k : ℕ) (q : Command × ℕ) → k < length (zip commands rounds) → (get_or (zip commands rounds) k q).0 ≡ get_or commands k nobody =
      λ k q h. ap (λ (p : Command × ℕ). p.0) (pair_at commands rounds k q nobody 0 legal.one_each (omega (arith, h, length_pairs commands rounds legal.one_each))) in
      let solvable : All (λ (p : Command × ℕ). IsSolvable p.0) pairs =
      All-filter timely (λ (p : Command × ℕ). IsSolvable p.0) (zip commands rounds)
      (λ k q h. subst IsSolvable (sym (at k q h)) (taken.in_range k nobody (omega (arith, h, length_pairs commands rounds legal.one_each)))) in
      let apart : AllPairs (λ (p q : Command × ℕ). p.0.id ≢ q.0.id) pairs =
      AllPairs-filter (λ (p q : Command × ℕ). p.0.id ≢ q.0.id) timely (zip commands rounds)
      (λ j k q lt h same. taken.distinct j k nobody lt (omega (arith, h, length_pairs commands rounds legal.one_each))
      (ap (λ (c : Command). c.id) (sym (at j q (omega (arith, lt, h)))) ∙ same ∙ ap (λ (c : Command). c.id) (at k q h))) in
      let many : length commands_on_time ≡ length pairs = length-map pairs (λ p. p.0) in
      record {
        few = omega (arith, taken.few, many, length-filter timely (zip commands rounds), count_by-le-length timely (zip commands rounds), length_pairs commands rounds legal.one_each);
        in_range = λ k d h. subst IsSolvable (sym (on_time_at k d h).0) (solvable k (nobody, 0) (omega (arith, h, many)));
        distinct = λ j k d lt h same. apart j k (nobody, 0) lt (omega (arith, h, many))
            (ap (λ (c : Command). c.id) (sym (on_time_at j d (omega (arith, lt, h))).0) ∙ same ∙ ap (λ (c : Command). c.id) (on_time_at k d h).0);
      }

  pub on_time_legal : IsLegal commands_on_time on_time_rounds steps
  unfolding places_at
  on_time_legal =
      record {
        one_each = one_each;
        released = λ k d h.
            let within : k < length pairs = omega (arith, length-map pairs (λ p. p.0)) in
            let at = on_time_at k d h in
            omega (arith, (fits k (nobody, 0) within).0, ap (λ (c : Command). c.release) at.0, at.1);
        within_depth = λ x.
            let one : places_at on_time_rounds x ≡ count_by (λ (p : Command × ℕ). p.1 == x) pairs = count_map (λ (p : Command × ℕ). p.1) (λ z. z == x) pairs in
            let two : count_by (λ (p : Command × ℕ). p.1 == x) pairs ≤ count_by (λ (p : Command × ℕ). p.1 == x) (zip commands rounds) = count_filtered (λ (p : Command × ℕ). p.1 == x) (λ p. is_on_time p.0 p.1) (zip commands rounds) in
            let three : count_by (λ (p : Command × ℕ). p.1 == x) (zip commands rounds) ≤ places_at rounds x =
            at_places commands rounds (λ (p : Command × ℕ). p.1 == x) x legal.one_each (λ p passes. eqb-true p.1 x passes) in
            omega (arith, one, two, three, legal.within_depth x);
      }

  pub on_time_on_time : AreOnTime commands_on_time on_time_rounds
  on_time_on_time k d h =
      let within : k < length pairs = omega (arith, length-map pairs (λ p. p.0)) in
      let at = on_time_at k d h in
      omega (arith, (fits k (nobody, 0) within).1, ap (λ (c : Command). c.due) at.0, at.1)

  on_time_held : (w : Window) → held_in commands_on_time on_time_rounds w ≡ held_in commands rounds w
  on_time_held w =
      ap (λ l. count_by (is_held w) l) (zip_parts pairs)
      ∙ count_filter (is_held w) (λ p. is_on_time p.0 p.1) (λ p passes. (and_parts (is_on_time p.0 p.1) (lies_in p.0 w) passes).0) (zip commands rounds)

  -- whatever schedule has them on time, a window holds as many
  held_le : (list : List Command) (one other : List ℕ) (w : Window) → IsLegal list one steps → IsLegal list other steps → AreOnTime list other → held_in list one w ≤ held_in list other w
  held_le list one other w legal_one legal_other on_time =
      let long : length (zip list one) ≡ length list = length_pairs list one legal_one.one_each in
      let long' : length (zip list other) ≡ length list = length_pairs list other legal_other.one_each in
      count_along (is_held w) (is_held w) (zip list one) (zip list other) (long' ∙ sym long)
      (λ k q e h passes.
      let k_in : k < length list = omega (arith, long) in
      let here : is_held w (get_or list k nobody, get_or one k 0) ≡ true = untested list one (is_held w) true k nobody q legal_one.one_each k_in passes in
      tested list other (is_held w) true k nobody e legal_other.one_each k_in
      (and_from (is_on_time (get_or list k nobody) (get_or other k 0)) (lies_in (get_or list k nobody) w) (le-leb (get_or other k 0) (get_or list k nobody).due (on_time k nobody k_in)) (and_parts (is_on_time (get_or list k nobody) (get_or one k 0)) (lies_in (get_or list k nobody) w) here).1))

  module _ (other : List ℕ) (legal' : IsLegal commands_on_time other steps) (on_time' : AreOnTime commands_on_time other) where
    same_held : (w : Window) → held_in commands_on_time other w ≡ held_in commands rounds w
    same_held w = omega (arith, held_le commands_on_time other on_time_rounds w legal' on_time_legal on_time_on_time, held_le commands_on_time on_time_rounds other w on_time_legal legal' on_time', on_time_held w)

    pub filled_there : (w : Window) → w.from ≤ w.due → IsFilled commands rounds steps w → IsFilled commands_on_time other steps w
    filled_there w some filled = holds_filled commands_on_time other steps w legal' (omega (arith, filled_holds commands rounds steps w filled some, same_held w))

    pub filled_here : (w : Window) → w.from ≤ w.due → IsFilled commands_on_time other steps w → IsFilled commands rounds steps w
    filled_here w some filled = holds_filled commands rounds steps w legal (omega (arith, filled_holds commands_on_time other steps w filled some, same_held w))

    pub all_here : (windows : List Window) → AreFilled commands_on_time other steps windows → AreFilled commands rounds steps windows
    all_here windows are =
        record {
          each = λ i e h x low high. filled_here (get_or windows i e) (omega arith) (are.each i e h) x low high;
          all = λ v filled some. are.all v (filled_there v some filled) some;
          rising = are.rising;
        }

  -- where nothing is on time no window is filled
  pub none_filled : ((x : ℕ) → 0 < depth_at steps x) → commands_on_time ≡ [] → (windows : List Window) → windows ≡ [] → AreFilled commands rounds steps windows
  unfolding held_at
  none_filled some none windows is =
      subst (λ xs. AreFilled commands rounds steps xs) (sym is) record {
        each = λ i e h. absurd (omega arith);
        all = λ v filled low.
            let held : held_at commands rounds v v.from ≤ held_in commands rounds v =
            count_wider (λ p. is_held v p && p.1 == v.from) (is_held v) (λ p passes. (and_parts (is_held v p) (p.1 == v.from) passes).0) (zip commands rounds) in
            let short : held_in commands_on_time on_time_rounds v ≤ length (zip commands_on_time on_time_rounds) = count_by-le-length (is_held v) (zip commands_on_time on_time_rounds) in
            let long : length (zip commands_on_time on_time_rounds) ≡ length commands_on_time = length_pairs commands_on_time on_time_rounds one_each in
            let nothing : length commands_on_time ≡ 0 = ap (λ xs. length xs) none in
            absurd (omega (arith, held, short, long, nothing, on_time_held v, filled v.from (omega arith) low, some v.from));
        rising = λ i j e lt h. absurd (omega arith);
      }

-- the schedule of those on time that is least late has them on time
pub best_on_time : (commands : List Command) (rounds : List ℕ) (steps : List Step) (list list' : List Command) (best best' : List ℕ) (late : ℤ) (w : Window) → IsLegal commands rounds steps → list ≡ on_time_of commands rounds → list' ≡ on_time_of commands rounds → best' ≡ best → IsBest list steps best late w → AreOnTime list' best'
best_on_time commands rounds steps list list' best best' late w legal is is' same answer =
    let S : List Command = on_time_of commands rounds in
    let here : IsBest S steps best late w = subst (λ xs. IsBest xs steps best late w) is answer in
    let own : List ℕ = on_time_rounds commands rounds steps legal in
    let none_late : late ≤ℤ pos 0 =
    bound_from_crowded S steps late w here.crowded own (pos 0) (on_time_legal commands rounds steps legal) (λ k d h. let by = on_time_on_time commands rounds steps legal k d h in omega (arith, ints)) in
    let timely : AreOnTime S best = λ k d h. let bound = here.greatest.bound k d h in omega (arith, ints) in
    subst (λ xs. AreOnTime list' xs) (sym same) (subst (λ xs. AreOnTime xs best) (sym is') timely)

pub best_windows : (commands : List Command) (rounds : List ℕ) (steps : List Step) (list list' : List Command) (best best' : List ℕ) (late : ℤ) (w : Window) (windows : List Window) → IsLegal commands rounds steps → list ≡ on_time_of commands rounds → list' ≡ on_time_of commands rounds → best' ≡ best → IsBest list steps best late w → AreFilled list' best' steps windows → AreFilled commands rounds steps windows
best_windows commands rounds steps list list' best best' late w windows legal is is' same answer filled =
    let S : List Command = on_time_of commands rounds in
    let here : IsBest S steps best late w = subst (λ xs. IsBest xs steps best late w) is answer in
    let timely : AreOnTime S best = best_on_time commands rounds steps list S best best late w legal is refl refl answer in
    let there : AreFilled S best steps windows = subst (λ xs. AreFilled xs best steps windows) is' (subst (λ xs. AreFilled list' xs steps windows) same filled) in
    all_here commands rounds steps legal best here.legal timely windows there
