-- A schedule of a part and one of the whole make each other.
use Rattle.std.proofs.Common.{◌≡◌, ◌≢◌, ◌<◌, ◌≤◌, ℕ, ◌+◌, ◌==◌, zero, suc, Bool, true, cond, nat_lt, List, [], ◌∷◌, length, get_or, set, map, count_by, sum_by, ◌⊎◌, inl, inr, arith, refl, ap, sym, ◌∙◌, eq-eqb, ne_eqb, subst}
use Rattle.std.specs.List.{zip, All, AllPairs, range_with_len}
use Rattle.std.proofs.lemmas.List.{get_or_default, get_or-set_same, get_or-set_other, length-set, get_or-map, length-map}
use Rattle.std.proofs.lemmas.List.FromFn.{get_or-range_with_len, length-range_with_len}
use Rattle.std.proofs.lemmas.List.Sums.{sum_by-cons, sum_by-set}
use Rattle.std.proofs.lemmas.Bool.{cases_eq, cases_lt}
use Rattle.edd_commands.specs.declared.Command.{Command}
use Rattle.edd_commands.specs.declared.TheConstants.{MAX_ROUNDS, MAX_RELEASES}
use Rattle.edd_commands.specs.declared.steps.Step.{Step}
use Rattle.edd_commands.specs.Capacity.{depth_at}
use Rattle.edd_commands.specs.Schedule.{IsLegal, places_at, RoundsInRange}
use Rattle.edd_commands.proofs.Counting.{no_places}
use Rattle.edd_check.specs.OnTime.{number_on_time, IsMostOnTime}
use Rattle.edd_oracle.specs.Input.{IsSolvable, IsTaken}
use Rattle.edd_oracle.proofs.Counting.{count_yes, count_no, count_map}
use Rattle.edd_oracle.proofs.Pairs.{pair_at, length_pairs}
use Rattle.edd_figures.specs.Misses.{number_late}
use Rattle.edd_figures.proofs.Tardy.{all_commands}
use Rattle.edd_blame.specs.Parts.{ArePlaces, command_here, is_late_at, number_late_at, IsLeastLateAt}
use Rattle.edd_blame.proofs.Adding.{count_all, sum_map}
use Rattle.edd_blame.proofs.Causing.{nobody}

abbrev one_if : Bool → ℕ
one_if b = cond b 1 0

-- what passes at just the same places is counted alike
pub count_same : {X Y : Type 0} (p : X → Bool) (q : Y → Bool) (xs : List X) (ys : List Y) → length ys ≡ length xs → ((k : ℕ) (d : X) (e : Y) → k < length xs → p (get_or xs k d) ≡ q (get_or ys k e)) → count_by p xs ≡ count_by q ys
count_same p q [] [] same alike = refl
count_same p q [] (y ∷ ys) same alike = absurd (omega arith)
count_same p q (x ∷ xs) [] same alike = absurd (omega arith)
count_same p q (x ∷ xs) (y ∷ ys) same alike =
    let rest = count_same p q xs ys (omega arith) (λ k d e h. alike (suc k) d e (omega (arith, h))) in
    let first : one_if (p x) ≡ one_if (q y) = ap one_if (alike 0 x y (omega arith)) in
    omega (arith, rest, first, sum_by-cons (λ z. cond (p z) 1 0) x xs, sum_by-cons (λ z. cond (q z) 1 0) y ys)

-- places that are written
abbrev pub put_all : List ℕ → List ℕ → List ℕ → List ℕ
put_all [] rs base = base
put_all (p ∷ ps) [] base = base
put_all (p ∷ ps) (r ∷ rs) base = put_all ps rs (set base p r)

length_put : (ps rs base : List ℕ) → length (put_all ps rs base) ≡ length base
length_put [] rs base = refl
length_put (p ∷ ps) [] base = refl
length_put (p ∷ ps) (r ∷ rs) base = length_put ps rs (set base p r) ∙ length-set base p r

-- those of the tail of a list
within_on : (p r : ℕ) (ps base : List ℕ) → All (λ k. k < length base) (p ∷ ps) → All (λ k. k < length (set base p r)) ps
within_on p r ps base within i d h = omega (arith, within (suc i) d (omega (arith, h)), length-set base p r)

once_on : (p : ℕ) (ps : List ℕ) → AllPairs (λ j k. j ≢ k) (p ∷ ps) → AllPairs (λ j k. j ≢ k) ps
once_on p ps once i j d low h = once (suc i) (suc j) d (omega (arith, low)) (omega (arith, h))

count_put : (q : ℕ → Bool) (ps rs base : List ℕ) → All (λ k. k < length base) ps → count_by q (put_all ps rs base) ≤ count_by q base + count_by q rs
count_put q [] rs base within = omega arith
count_put q (p ∷ ps) [] base within = omega arith
count_put q (p ∷ ps) (r ∷ rs) base within =
    let low : p < length base = within 0 0 (omega arith) in
    let rest = count_put q ps rs (set base p r) (within_on p r ps base within) in
    omega (arith, rest, sum_by-set (λ y. cond (q y) 1 0) base p r 0 low, sum_by-cons (λ y. cond (q y) 1 0) r rs)

put_other : (ps rs base : List ℕ) (k : ℕ) → All (λ p. p ≢ k) ps → get_or (put_all ps rs base) k 0 ≡ get_or base k 0
put_other [] rs base k apart = refl
put_other (p ∷ ps) [] base k apart = refl
put_other (p ∷ ps) (r ∷ rs) base k apart =
    put_other ps rs (set base p r) k (λ i d h. apart (suc i) d (omega (arith, h))) ∙ get_or-set_other base p k r 0 (λ e. apart 0 0 (omega arith) (sym e))

-- the first is none of the others
first_apart : (p : ℕ) (ps : List ℕ) → AllPairs (λ j k. j ≢ k) (p ∷ ps) → All (λ k. k ≢ p) ps
first_apart p ps once i d h e = once 0 (suc i) d (omega arith) (omega (arith, h)) (sym e)

put_own : (ps rs base : List ℕ) → All (λ k. k < length base) ps → AllPairs (λ j k. j ≢ k) ps → length rs ≡ length ps → (j d : ℕ) → j < length ps → get_or (put_all ps rs base) (get_or ps j d) 0 ≡ get_or rs j 0
put_own [] rs base within once same j d h = absurd (omega (arith, h))
put_own (p ∷ ps) [] base within once same j d h = absurd (omega (arith, same))
put_own (p ∷ ps) (r ∷ rs) base within once same zero d h =
    put_other ps rs (set base p r) p (first_apart p ps once) ∙ get_or-set_same base p r 0 (within 0 0 (omega arith))
put_own (p ∷ ps) (r ∷ rs) base within once same (suc j) d h =
    put_own ps rs (set base p r) (within_on p r ps base within) (once_on p ps once) (omega (arith, same)) j d (omega (arith, h))

-- a place is one of them or none
pub among : (ps : List ℕ) (k : ℕ) → ((j : ℕ) × (j < length ps) × (get_or ps j 0 ≡ k)) ⊎ All (λ p. p ≢ k) ps
among [] k = inr (λ i d h. absurd (omega (arith, h)))
among (p ∷ ps) k =
    elim (cases_eq p k) [
      | inl same ↦ inl (0, omega arith, same)
      | inr other ↦
          elim (among ps k) [
            | inl found ↦ inl (suc found.0, omega (arith, found.1), found.2)
            | inr none ↦ inr (λ i d h. elim i as (λ n. n < length (p ∷ ps) → get_or (p ∷ ps) n d ≢ k) [
              | zero ↦ λ _. other
              | suc n ↦ λ low. none n d (omega (arith, low))
            ] h)
          ]
    ]

-- rounds in a row
one_run : (a n x : ℕ) → (count_by (λ y. y == x) (range_with_len a n) ≤ 1) × (x < a → count_by (λ y. y == x) (range_with_len a n) ≡ 0)
one_run a zero x = (omega arith, λ h. refl)
one_run a (suc n) x =
    let rest = one_run (a + 1) n x in
    elim (cases_eq a x) [
      | inl same ↦
          let one = count_yes (λ y. y == x) a (range_with_len (a + 1) n) (eq-eqb a x same) in
          (omega (arith, one, rest.1 (omega arith)), λ h. absurd (omega (arith, h, same)))
      | inr other ↦
          let none = count_no (λ y. y == x) a (range_with_len (a + 1) n) (ne_eqb a x other) in
          (omega (arith, none, rest.0), λ h. omega (arith, none, rest.1 (omega (arith, h))))
    ]

sum_alike : {X : Type 0} (f g : X → ℕ) (xs : List X) → ((i : ℕ) (d : X) → i < length xs → f (get_or xs i d) ≡ g (get_or xs i d)) → sum_by f xs ≡ sum_by g xs
sum_alike f g [] alike = refl
sum_alike f g (x ∷ xs) alike =
    omega (arith, sum_alike f g xs (λ i d h. alike (suc i) d (omega (arith, h))), alike 0 x (omega arith), sum_by-cons f x xs, sum_by-cons g x xs)

-- numbers at some places, each taken once, are no more than all
sum_at_places : (values ps : List ℕ) → All (λ k. k < length values) ps → AllPairs (λ j k. j ≢ k) ps → sum_by (λ k. get_or values k 0) ps ≤ sum_by (λ y. y) values
sum_at_places values [] within once = omega arith
sum_at_places values (p ∷ ps) within once =
    let low : p < length values = within 0 0 (omega arith) in
    let rest = sum_at_places (set values p 0) ps (within_on p 0 ps values within) (once_on p ps once) in
    let same : sum_by (λ k. get_or (set values p 0) k 0) ps ≡ sum_by (λ k. get_or values k 0) ps =
    sum_alike (λ k. get_or (set values p 0) k 0) (λ k. get_or values k 0) ps (λ i d h. get_or-set_other values p (get_or ps i d) 0 0 (first_apart p ps once i d h)) in
    omega (arith, rest, same, sum_by-set (λ y. y) values p 0 0 low, sum_by-cons (λ k. get_or values k 0) p ps)

count_at_places : (q : ℕ → Bool) (xs ps : List ℕ) → ArePlaces (length xs) ps → count_by (λ k. q (get_or xs k 0)) ps ≤ count_by q xs
count_at_places q xs ps are =
    let value : ℕ → ℕ = λ y. cond (q y) 1 0 in
    let long : length (map value xs) ≡ length xs = length-map xs value in
    let counted = sum_at_places (map value xs) ps (λ i d h. omega (arith, are.within i d h, long)) are.once in
    let same : sum_by (λ k. get_or (map value xs) k 0) ps ≡ sum_by (λ k. value (get_or xs k 0)) ps =
    sum_alike (λ k. get_or (map value xs) k 0) (λ k. value (get_or xs k 0)) ps (λ i d h. get_or-map value xs (get_or ps i d) 0 0 (are.within i d h)) in
    omega (arith, counted, same, sum_map (λ y. y) value xs)

module _ (commands : List Command) (steps : List Step) (places : List ℕ) (are : ArePlaces (length commands) places) where
  abbrev pub part : List Command
  part = map (command_here commands) places

  pub part_long : length part ≡ length places
  part_long = length-map places (command_here commands)

  pub part_at : (j : ℕ) (c : Command) (d : ℕ) → j < length places → get_or part j c ≡ command_here commands (get_or places j d)
  part_at j c d h = get_or-map (command_here commands) places j d c h

  here : (k : ℕ) (d : Command) → k < length commands → get_or commands k d ≡ command_here commands k
  here k d h = get_or_default commands k d nobody h

  -- a schedule of the whole schedules the part
  abbrev pub rounds_at : List ℕ → List ℕ
  rounds_at rounds = map (λ k. get_or rounds k 0) places

  pub restricted : (rounds : List ℕ) → IsLegal commands rounds steps → IsLegal part (rounds_at rounds) steps
  unfolding places_at
  restricted rounds legal = record {
    one_each = length-map places (λ k. get_or rounds k 0) ∙ sym part_long;
    released =
        λ j c h.
        let low : j < length places = omega (arith, h, part_long) in
        let k_in : get_or places j 0 < length commands = are.within j 0 low in
        let released : (get_or commands (get_or places j 0) nobody).release ≤ get_or rounds (get_or places j 0) 0 = legal.released (get_or places j 0) nobody k_in in
        omega (arith, released, ap (λ (x : Command). x.release) (part_at j c 0 low), get_or-map (λ k. get_or rounds k 0) places j 0 0 low);
    within_depth =
        λ x.
        let same : count_by (λ y. y == x) (rounds_at rounds) ≡ count_by (λ k. get_or rounds k 0 == x) places = count_map (λ k. get_or rounds k 0) (λ y. y == x) places in
        let are' : ArePlaces (length rounds) places = record { within = λ i d h. omega (arith, are.within i d h, legal.one_each); once = are.once } in
        omega (arith, same, count_at_places (λ y. y == x) rounds places are', legal.within_depth x);
  }

  -- with as many late
  pub late_alike : (rounds rs : List ℕ) → length rs ≡ length places → ((j d : ℕ) → j < length places → get_or rs j 0 ≡ get_or rounds (get_or places j d) 0) → number_late part rs ≡ number_late_at commands rounds places
  unfolding number_late number_late_at
  late_alike rounds rs same alike =
      let each : length rs ≡ length part = same ∙ sym part_long in
      sym (count_same (is_late_at commands rounds) (λ (p : Command × ℕ). nat_lt p.0.due p.1) places (zip part rs) (length_pairs part rs each ∙ part_long)
      (λ j d p h.
      let at : get_or (zip part rs) j p ≡ (command_here commands (get_or places j d), get_or rounds (get_or places j d) 0) =
      pair_at part rs j p nobody 0 each (omega (arith, h, part_long))
      ∙ ap (λ (c : Command). (c, get_or rs j 0)) (part_at j nobody d h) ∙ ap (λ (x : ℕ). (command_here commands (get_or places j d), x)) (alike j d h) in
      ap (λ (p : Command × ℕ). nat_lt p.0.due p.1) (sym at)))

  -- a schedule of the part, and the others from the round `top` on
  abbrev pub spread : ℕ → List ℕ → List ℕ
  spread top rs = put_all places rs (range_with_len top (length commands))

  base_in : (top : ℕ) → All (λ k. k < length (range_with_len top (length commands))) places
  base_in top i d h = omega (arith, are.within i d h, length-range_with_len top (length commands))

  -- the oracle takes the part where it takes the whole
  pub part_taken : IsTaken commands → IsTaken part
  part_taken taken = record {
    few =
        (let all : List ℕ = range_with_len 0 (length commands) in
        let few = count_at_places (λ _. true) all places record { within = base_in 0; once = are.once } in
        omega (arith, taken.few, part_long, few, count_all places, count_all all, length-range_with_len 0 (length commands)));
    in_range = λ j c h. let low : j < length places = omega (arith, h, part_long) in subst IsSolvable (sym (part_at j c 0 low)) (taken.in_range (get_or places j 0) nobody (are.within j 0 low));
    distinct =
        λ i j c lt h same.
        let high : j < length places = omega (arith, h, part_long) in
        let low : i < length places = omega (arith, lt, high) in
        let a : ℕ = get_or places i 0 in
        let b : ℕ = get_or places j 0 in
        let alike : (command_here commands a).id ≡ (command_here commands b).id =
        ap (λ (x : Command). x.id) (sym (part_at i c 0 low)) ∙ same ∙ ap (λ (x : Command). x.id) (part_at j c 0 high) in
        elim (cases_lt a b) [
          | inl less ↦ taken.distinct a b nobody less (are.within j 0 high) alike
          | inr over ↦ elim (cases_lt b a) [
            | inl less ↦ taken.distinct b a nobody less (are.within i 0 low) (sym alike)
            | inr under ↦ are.once i j 0 lt high (omega (arith, over, under))
          ]
        ];
  }

  pub spread_own : (top : ℕ) (rs : List ℕ) → length rs ≡ length places → (j d : ℕ) → j < length places → get_or (spread top rs) (get_or places j d) 0 ≡ get_or rs j 0
  spread_own top rs same j d h = put_own places rs (range_with_len top (length commands)) (base_in top) are.once same j d h

  pub spread_legal : (top : ℕ) (rs : List ℕ) → ((x : ℕ) → 0 < depth_at steps x) → All IsSolvable commands → MAX_RELEASES ≤ top → All (λ x. x < top) rs → IsLegal part rs steps → IsLegal commands (spread top rs) steps
  unfolding places_at
  spread_legal top rs some solvable above in_range legal = record {
    one_each = length_put places rs (range_with_len top (length commands)) ∙ length-range_with_len top (length commands);
    released =
        λ k c h.
        let same : length rs ≡ length places = legal.one_each ∙ part_long in
        elim (among places k) [
          | inl found ↦
              let released : (get_or part found.0 nobody).release ≤ get_or rs found.0 0 = legal.released found.0 nobody (omega (arith, found.1, part_long)) in
              let own : get_or (spread top rs) k 0 ≡ get_or rs found.0 0 = ap (λ n. get_or (spread top rs) n 0) (sym found.2) ∙ spread_own top rs same found.0 0 found.1 in
              let command : get_or part found.0 nobody ≡ get_or commands k c = part_at found.0 nobody 0 found.1 ∙ ap (command_here commands) found.2 ∙ sym (here k c h) in
              omega (arith, released, own, ap (λ (x : Command). x.release) command)
          | inr none ↦
              let own : get_or (spread top rs) k 0 ≡ top + k = put_other places rs (range_with_len top (length commands)) k none ∙ get_or-range_with_len top (length commands) k 0 h in
              omega (arith, own, (solvable k c h).0, above)
        ];
    within_depth =
        λ x.
        let put = count_put (λ y. y == x) places rs (range_with_len top (length commands)) (base_in top) in
        let run = one_run top (length commands) x in
        elim (cases_lt x top) [
          | inl low ↦ omega (arith, put, run.1 low, legal.within_depth x)
          | inr high ↦
              let none : count_by (λ y. y == x) rs ≡ 0 = no_places rs x (λ k h e. absurd (omega (arith, in_range k 0 h, e, high))) in
              omega (arith, put, run.0, none, some x)
        ];
  }

  pub least_at : (rs : List ℕ) (on_time n : ℕ) → ((x : ℕ) → 0 < depth_at steps x) → All IsSolvable commands → RoundsInRange rs → IsLegal part rs steps → number_on_time part rs ≡ on_time → IsMostOnTime part steps on_time → n + on_time ≡ length places → IsLeastLateAt commands steps places n
  least_at rs on_time n some solvable in_range legal is most all =
      let same : length rs ≡ length places = legal.one_each ∙ part_long in
      record {
        schedule = spread MAX_ROUNDS rs;
        legal = spread_legal MAX_ROUNDS rs some solvable (omega arith) in_range legal;
        reached =
            (let alike = late_alike (spread MAX_ROUNDS rs) rs same (λ j d h. sym (spread_own MAX_ROUNDS rs same j d h)) in
            omega (arith, alike, all_commands part rs legal.one_each, is, all, part_long));
        least =
            λ rounds whole.
            let own = restricted rounds whole in
            let alike = late_alike rounds (rounds_at rounds) (length-map places (λ k. get_or rounds k 0)) (λ j d h. get_or-map (λ k. get_or rounds k 0) places j d 0 h) in
            omega (arith, alike, all_commands part (rounds_at rounds) own.one_each, most.most (rounds_at rounds) own, all, part_long);
      }

  pub few_on_time : (rs : List ℕ) → length rs ≡ length part → number_on_time part rs ≤ length places
  few_on_time rs same = omega (arith, all_commands part rs same, part_long)
