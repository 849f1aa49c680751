use Rattle.std.proofs.Common.{◌≡◌, ◌<◌, ◌≤◌, ℕ, ◌+◌, zero, suc, Bool, true, false, cond, ◌&&◌, List, [], ◌∷◌, length, get_or, take, count_by, nat_lt, nat_le, ◌==◌, ◌⊎◌, inl, inr, arith, refl, ap, ◌∙◌, ◌≢◌}
use Rattle.std.specs.List.{Contains}
use Rattle.std.proofs.lemmas.List.Sums.{sum_by-cons, count_by-le-length, sum_by-take-le, count_by_more_yes, count_by_more_no}
use Rattle.std.proofs.lemmas.List.{get_or_default}
use Rattle.std.proofs.lemmas.Bool.{cases_eq, cases_Bool, cond-true, cond-false, ne_eqb, eq-eqb, and_parts, and_from, and_left, and_right, ltb-true, lt-ltb, le-ltb, lt-leb, cases_lt}
use Rattle.edd_commands.specs.Schedule.{places_at}
use Rattle.edd_commands.specs.declared.steps.Step.{Step}
use Rattle.edd_commands.specs.Capacity.{depth_at, carried}
use Rattle.edd_commands.proofs.InForce.{carried_suc}

-- a count over one element more
count_yes : {X : Type 0} (p : X → Bool) (x : X) (xs : List X) → p x ≡ true → count_by p (x ∷ xs) ≡ 1 + count_by p xs
count_yes p x xs e = sum_by-cons (λ y. cond (p y) 1 0) x xs ∙ ap (λ n. n + count_by p xs) (cond-true (p x) 1 0 e)

count_no : {X : Type 0} (p : X → Bool) (x : X) (xs : List X) → p x ≡ false → count_by p (x ∷ xs) ≡ count_by p xs
count_no p x xs e =
    sum_by-cons (λ y. cond (p y) 1 0) x xs ∙ ap (λ n. n + count_by p xs) (cond-false (p x) 1 0 e) ∙ omega arith

count_rest : {X : Type 0} (p : X → Bool) (x : X) (xs : List X) → count_by p xs ≤ count_by p (x ∷ xs)
count_rest p x xs = omega (arith, sum_by-cons (λ y. cond (p y) 1 0) x xs)

-- a round that stands nowhere, or in the list
absent_or_there : (x : ℕ) (xs : List ℕ) → (places_at xs x ≡ 0) ⊎ Contains xs x
unfolding places_at
absent_or_there x [] = inl refl
absent_or_there x (y ∷ ys) =
    elim (cases_eq y x) [
      | inl same ↦ inr (0, omega arith, same)
      | inr other ↦
          elim (absent_or_there x ys) [
            | inl none ↦ inl (count_no (λ z. z == x) y ys (ne_eqb y x other) ∙ none)
            | inr there ↦ inr (suc there.0, omega (arith, there.1), there.2)
          ]
    ]

count_of_none : {X : Type 0} (p : X → Bool) → ((x : X) → p x ≡ false) → (xs : List X) → count_by p xs ≡ 0
count_of_none p never [] = refl
count_of_none p never (x ∷ xs) = count_no p x xs (never x) ∙ count_of_none p never xs

-- a count of what passes one of two tests
pub count_of_either : {X : Type 0} (p q r : X → Bool) → ((x : X) → p x ≡ true → (q x ≡ true) ⊎ (r x ≡ true)) → (xs : List X) → count_by p xs ≤ count_by q xs + count_by r xs
count_of_either p q r either [] = omega arith
count_of_either p q r either (x ∷ xs) =
    let rest = count_of_either p q r either xs in
    elim (cases_Bool (p x)) [
      | inl passes ↦
          elim (either x passes) [
            | inl at_q ↦ omega (arith, rest, count_yes p x xs passes, count_yes q x xs at_q, count_rest r x xs)
            | inr at_r ↦ omega (arith, rest, count_yes p x xs passes, count_yes r x xs at_r, count_rest q x xs)
          ]
      | inr fails ↦ omega (arith, rest, count_no p x xs fails, count_rest q x xs, count_rest r x xs)
    ]

-- what passes at a place of the one list passes at that place of the other
pub count_along : {X Y : Type 0} (p : X → Bool) (q : Y → Bool) (xs : List X) (ys : List Y) → length ys ≡ length xs → ((k : ℕ) (d : X) (e : Y) → k < length xs → p (get_or xs k d) ≡ true → q (get_or ys k e) ≡ true) → count_by p xs ≤ count_by q ys
count_along p q [] ys same along = omega arith
count_along p q (x ∷ xs) [] same along = absurd (omega arith)
count_along p q (x ∷ xs) (y ∷ ys) same along =
    let rest : count_by p xs ≤ count_by q ys =
    count_along p q xs ys (omega arith) (λ k d e h. along (suc k) d e (omega arith)) in
    elim (cases_Bool (p x)) [
      | inl passes ↦ omega (arith, rest, count_yes p x xs passes, count_yes q y ys (along 0 x y (omega arith) passes))
      | inr fails ↦ omega (arith, rest, count_no p x xs fails, count_rest q y ys)
    ]

-- how many of the rounds lie among the n from `start` on
abbrev pub places_among : List ℕ → ℕ → ℕ → ℕ
places_among rounds start n = count_by (λ x. nat_le start x && nat_lt x (start + n)) rounds

-- n rounds carry at most what each carries
pub places_among-le : (rounds : List ℕ) (steps : List Step) → ((x : ℕ) → places_at rounds x ≤ depth_at steps x) → (start n : ℕ) → places_among rounds start n ≤ carried steps start n
unfolding places_at
places_among-le rounds steps within start zero =
    let none : places_among rounds start 0 ≡ 0 =
    count_of_none (λ x. nat_le start x && nat_lt x (start + 0))
    (λ x. elim (cases_lt x start) [
      | inl low ↦ and_left (nat_le start x) (nat_lt x (start + 0)) (lt-leb start x low)
      | inr high ↦ and_right (nat_le start x) (nat_lt x (start + 0)) (le-ltb x (start + 0) (omega arith))
    ]) rounds in
    omega arith
places_among-le rounds steps within start (suc n) =
    let rest = places_among-le rounds steps within start n in
    let split : places_among rounds start (suc n) ≤ places_among rounds start n + places_at rounds (start + n) =
    count_of_either (λ x. nat_le start x && nat_lt x (start + suc n)) (λ x. nat_le start x && nat_lt x (start + n)) (λ x. x == (start + n))
    (λ x yes. let parts = and_parts (nat_le start x) (nat_lt x (start + suc n)) yes in
    let below = ltb-true x (start + suc n) parts.1 in
    elim (cases_eq x (start + n)) [
      | inl last ↦ inr (eq-eqb x (start + n) last)
      | inr other ↦ inl (and_from (nat_le start x) (nat_lt x (start + n)) parts.0 (lt-ltb x (start + n) (omega arith)))
    ]) rounds in
    omega (arith, rest, split, within (start + n), carried_suc steps start n)

-- rounds in order
abbrev pub Rises : List ℕ → Type 0
Rises xs = (i j : ℕ) → i ≤ j → j < length xs → get_or xs i 0 ≤ get_or xs j 0

rises_on : (y : ℕ) (ys : List ℕ) → Rises (y ∷ ys) → Rises ys
rises_on y ys rises i j le lt = rises (suc i) (suc j) (omega arith) (omega arith)

-- a round that stands at both ends of a run stands all along it
pub run_count : (x : ℕ) (xs : List ℕ) → Rises xs → (j e : ℕ) → j ≤ e → e < length xs → get_or xs j 0 ≡ x → get_or xs e 0 ≡ x → e < j + places_at xs x
unfolding places_at
run_count x [] rises j e le lt first last = absurd (omega arith)
run_count x (y ∷ ys) rises zero zero le lt first last =
    omega (arith, count_yes (λ z. z == x) y ys (eq-eqb y x first))
run_count x (y ∷ ys) rises zero (suc e) le lt first last =
    let in_ys : e < length ys = omega arith in
    let low : y ≤ get_or ys 0 0 = rises 0 1 (omega arith) (omega arith) in
    let high : get_or ys 0 0 ≤ get_or ys e 0 = rises_on y ys rises 0 e (omega arith) in_ys in
    let rest = run_count x ys (rises_on y ys rises) 0 e (omega arith) in_ys (omega arith) last in
    omega (arith, rest, count_yes (λ z. z == x) y ys (eq-eqb y x first))
run_count x (y ∷ ys) rises (suc j) zero le lt first last = absurd (omega arith)
run_count x (y ∷ ys) rises (suc j) (suc e) le lt first last =
    let rest = run_count x ys (rises_on y ys rises) j e (omega arith) (omega arith) first last in
    omega (arith, rest, count_rest (λ z. z == x) y ys)

-- in a list that begins with no smaller round, the places of a round come first
first_run : (x : ℕ) (xs : List ℕ) → Rises xs → (0 < length xs → x ≤ get_or xs 0 0) → (m : ℕ) → m < places_at xs x → get_or xs m 0 ≡ x
unfolding places_at
first_run x [] rises low m h = absurd (omega arith)
first_run x (y ∷ ys) rises low m h =
    let up : x ≤ y = low (omega arith) in
    let low_on : 0 < length ys → x ≤ get_or ys 0 0 =
    λ some. let next : y ≤ get_or ys 0 0 = rises 0 1 (omega arith) (omega arith) in omega arith in
    elim (cases_eq y x) [
      | inl same ↦
          elim m as (λ n. n < places_at (y ∷ ys) x → get_or (y ∷ ys) n 0 ≡ x) [
            | zero ↦ λ _. same
            | suc n ↦ λ more. first_run x ys (rises_on y ys rises) low_on n (omega (arith, more, count_yes (λ z. z == x) y ys (eq-eqb y x same)))
          ] h
      | inr other ↦
          let in_ys : m < places_at ys x = omega (arith, count_no (λ z. z == x) y ys (ne_eqb y x other)) in
          let at_m = first_run x ys (rises_on y ys rises) low_on m in_ys in
          let short = count_by-le-length (λ z. z == x) ys in
          let over : y ≤ get_or ys m 0 = rises 0 (suc m) (omega arith) (omega arith) in
          absurd (omega arith)
    ]

-- a round of more than m places stands at two places that are m apart
pub run_of : (x : ℕ) (xs : List ℕ) → Rises xs → (m : ℕ) → m < places_at xs x → (j : ℕ) × (e : ℕ) × (e ≡ j + m) × (e < length xs) × (get_or xs j 0 ≡ x) × (get_or xs e 0 ≡ x)
unfolding places_at
run_of x [] rises m h = absurd (omega arith)
run_of x (y ∷ ys) rises m h =
    elim (cases_eq y x) [
      | inl same ↦
          (0, m, omega arith, omega (arith, count_by-le-length (λ z. z == x) (y ∷ ys)), same, first_run x (y ∷ ys) rises (λ _. omega arith) m h)
      | inr other ↦
          let rest = run_of x ys (rises_on y ys rises) m (omega (arith, count_no (λ z. z == x) y ys (ne_eqb y x other))) in
          (suc rest.0, suc rest.1, omega (arith, rest.2), omega (arith, rest.3), rest.4, rest.5)
    ]

-- a round that stands at the next place is counted once more
pub places_more : (rounds : List ℕ) (i x : ℕ) → i < length rounds → get_or rounds i 0 ≡ x → places_at (take (i + 1) rounds) x ≡ places_at (take i rounds) x + 1
unfolding places_at
places_more rounds i x within same = count_by_more_yes (λ z. z == x) rounds i 0 within (eq-eqb (get_or rounds i 0) x same)

-- a round that does not stand at the next place is counted as often as before
pub places_same : (rounds : List ℕ) (i x : ℕ) → i < length rounds → get_or rounds i 0 ≢ x → places_at (take (i + 1) rounds) x ≡ places_at (take i rounds) x
unfolding places_at
places_same rounds i x within other = count_by_more_no (λ z. z == x) rounds i 0 within (ne_eqb (get_or rounds i 0) x other)

-- a beginning of the list has no more places of a round than the list
pub places_take : (rounds : List ℕ) (i x : ℕ) → places_at (take i rounds) x ≤ places_at rounds x
unfolding places_at
places_take rounds i x = sum_by-take-le (λ y. cond (y == x) 1 0) rounds i

-- a round that none of the list equals has no place
pub no_places : (rounds : List ℕ) (x : ℕ) → ((k : ℕ) → k < length rounds → get_or rounds k 0 ≢ x) → places_at rounds x ≡ 0
no_places rounds x none =
    elim (absent_or_there x rounds) [
      | inl absent ↦ absent
      | inr there ↦ absurd (none there.0 there.1 (get_or_default rounds there.0 0 x there.1 ∙ there.2))
    ]
