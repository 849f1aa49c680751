-- A legal schedule is mended, a command or two at a time, until what waits finds its rounds full of what is due no later.
use Rattle.std.proofs.Common.{◌≡◌, ◌<◌, ◌≤◌, ℕ, ◌+◌, ◌-◌, ◌*◌, zero, suc, Bool, true, false, cond, ◌&&◌, nat_le, nat_lt, ◌==◌, List, length, get_or, set, get_or-set_other, get_or-set_same, length-set, sum_by, ◌⊎◌, inl, inr, arith, refl, ap, sym, ◌∙◌, subst}
use Rattle.std.proofs.Math.Nat.{mul-add, mul_comm, mul-lt-mul_of_pos_left}
use Rattle.std.specs.List.{zip}
use Rattle.std.proofs.lemmas.List.{get_or_default}
use Rattle.std.proofs.lemmas.List.Sums.{sum_by-set}
use Rattle.std.proofs.lemmas.Bool.{cases_lt, cases_eq, cond-true, cond-false, and_parts, and_from, le-leb, leb-true, ltb-true, lt-ltb, eqb-true, eq-eqb, ne_eqb}
use Rattle.edd_commands.specs.declared.Command.{Command}
use Rattle.edd_commands.specs.declared.steps.Step.{Step}
use Rattle.edd_commands.specs.Capacity.{depth_at}
use Rattle.edd_commands.specs.Schedule.{IsLegal, places_at}
use Rattle.edd_oracle.specs.Plan.{due_at}
use Rattle.edd_oracle.proofs.Counting.{sum_set, search_below, past_all}
use Rattle.edd_oracle.proofs.Crowded.{WaitsFull, full_by}
use Rattle.edd_oracle.proofs.Pairs.{nobody}

-- the larger of two numbers goes with the smaller round
exchange : (a b x y : ℕ) → b < a → x < y → a * x + b * y < a * y + b * x
exchange a b x y more later =
    let f : ℕ = y - x in
    let is : y ≡ x + f = omega arith in
    let long : a * y ≡ a * x + a * f = ap (λ n. a * n) is ∙ mul-add a x f in
    let short : b * y ≡ b * x + b * f = ap (λ n. b * n) is ∙ mul-add b x f in
    let turn : a * f ≡ f * a = mul_comm a f in
    let turn' : b * f ≡ f * b = mul_comm b f in
    let less : f * b < f * a = mul-lt-mul_of_pos_left more (omega arith) in
    omega arith

abbrev one_if : Bool → ℕ
one_if b = cond b 1 0

-- two numbers below bounds of which one depends on the other, that pass; or none do
search_pairs : (p : ℕ → ℕ → Bool) (m : ℕ → ℕ) (n : ℕ) → ((k : ℕ) × (k < n) × (x : ℕ) × (x < m k) × (p k x ≡ true)) ⊎ ((k x : ℕ) → k < n → x < m k → p k x ≡ false)
search_pairs p m zero = inr (λ k x h h'. absurd (omega arith))
search_pairs p m (suc n) =
    elim (search_pairs p m n) [
      | inl found ↦ inl (found.0, omega (arith, found.1), found.2, found.3, found.4)
      | inr none ↦
          elim (search_below (p n) (m n)) [
            | inl here ↦ inl (n, omega arith, here.0, here.1, here.2)
            | inr fails ↦ inr (λ k x h h'. elim (cases_eq k n) [
              | inl last ↦ subst (λ j. p j x ≡ false) (sym last) (fails x (subst (λ j. x < m j) last h'))
              | inr other ↦ none k x (omega arith) h'
            ])
          ]
    ]

module _ (commands : List Command) (steps : List Step) where
  abbrev top : ℕ
  top = (past_all (λ (c : Command). c.due) commands).0

  -- what is due sooner weighs more for each round that it waits
  abbrev weight : List ℕ → ℕ
  weight rounds = sum_by (λ (p : Command × ℕ). (top - p.0.due) * p.1) (zip commands rounds)

  abbrev due_of : ℕ → ℕ
  due_of k = (get_or commands k nobody).due

  module _ (rounds : List ℕ) (legal : IsLegal commands rounds steps) (k x : ℕ) (within : k < length commands) (released : (get_or commands k nobody).release ≤ x) (later : x < get_or rounds k 0) where
    abbrev y : ℕ
    y = get_or rounds k 0

    abbrev moved : List ℕ
    moved = set rounds k x

    k_in : k < length rounds
    k_in = omega (arith, legal.one_each)

    below_top : (j : ℕ) → j < length commands → due_of j < top
    below_top j h = (past_all (λ (c : Command). c.due) commands).1 j nobody h

    places_moved : (z : ℕ) → places_at moved z + one_if (y == z) ≡ places_at rounds z + one_if (x == z)
    unfolding places_at
    places_moved z = sum_by-set (λ n. cond (n == z) 1 0) rounds k x 0 k_in

    weight_moved : weight moved + (top - due_of k) * y ≡ weight rounds + (top - due_of k) * x
    weight_moved = sum_set (λ (p : Command × ℕ). (top - p.0.due) * p.1) commands rounds k x nobody 0 legal.one_each within

    moved_released : (j : ℕ) (d : Command) → j < length commands → (get_or commands j d).release ≤ get_or moved j 0
    moved_released j d h =
        elim (cases_eq j k) [
          | inl same ↦
              let own : (get_or commands k d).release ≡ (get_or commands k nobody).release = ap (λ (c : Command). c.release) (get_or_default commands k d nobody within) in
              subst (λ i. (get_or commands i d).release ≤ get_or moved i 0) (sym same) (omega (arith, own, get_or-set_same rounds k x 0 k_in))
          | inr other ↦ omega (arith, legal.released j d h, get_or-set_other rounds k j x 0 other)
        ]

    -- where the round has room
    moves : places_at rounds x < depth_at steps x → (other : List ℕ) × IsLegal commands other steps × (weight other < weight rounds)
    moves room = (
      moved,
      record {
        one_each = length-set rounds k x ∙ legal.one_each;
        released = moved_released;
        within_depth = λ z.
            elim (cases_eq x z) [
              | inl here ↦ subst (λ n. places_at moved n ≤ depth_at steps n) here (omega (arith, places_moved x, cond-true {A = ℕ} (x == x) 1 0 (eq-eqb x x refl), room))
              | inr other ↦ omega (arith, places_moved z, cond-false {A = ℕ} (x == z) 1 0 (ne_eqb x z other), legal.within_depth z)
            ];
      },
      (
          let less : (top - due_of k) * x < (top - due_of k) * y = mul-lt-mul_of_pos_left later (omega (arith, below_top k within)) in
          omega (arith, weight_moved, less)),
    )

    -- where one runs in it that is due later
    swaps : (p : ℕ) → p < length commands → get_or rounds p 0 ≡ x → due_of k < due_of p → (other : List ℕ) × IsLegal commands other steps × (weight other < weight rounds)
    unfolding places_at
    swaps p p_in at sooner =
        let apart : p ≡ k → ⊥ = λ same. absurd (omega (arith, ap due_of same)) in
        let long : length moved ≡ length commands = length-set rounds k x ∙ legal.one_each in
        let p_in' : p < length moved = omega (arith, long) in
        let still : get_or moved p 0 ≡ x = get_or-set_other rounds k p x 0 apart ∙ at in
        let swapped : List ℕ = set moved p y in
        let places : (z : ℕ) → places_at swapped z ≡ places_at rounds z =
        λ z. omega (arith, sum_by-set (λ n. cond (n == z) 1 0) moved p y 0 p_in', places_moved z, ap (λ n. one_if (n == z)) still) in
        let weighs : weight swapped + (top - due_of p) * get_or moved p 0 ≡ weight moved + (top - due_of p) * y =
        sum_set (λ (q : Command × ℕ). (top - q.0.due) * q.1) commands moved p y nobody 0 long p_in in (
          swapped,
          record {
            one_each = length-set moved p y ∙ long;
            released = λ j d h.
                elim (cases_eq j p) [
                  | inl same ↦ subst (λ i. (get_or commands i d).release ≤ get_or swapped i 0) (sym same) (omega (arith, legal.released p d p_in, at, later, get_or-set_same moved p y 0 p_in'))
                  | inr other ↦ omega (arith, moved_released j d h, get_or-set_other moved p j y 0 other)
                ];
            within_depth = λ z. omega (arith, places z, legal.within_depth z);
          },
          omega (arith, weighs, weight_moved, ap (λ n. (top - due_of p) * n) still, exchange (top - due_of k) (top - due_of p) x y (omega (arith, below_top p p_in)) later),
        )

  -- a round that a command could have and that isn't full of commands due no later
  abbrev is_open : List ℕ → ℕ → ℕ → Bool
  is_open rounds k x = nat_le (get_or commands k nobody).release x && nat_lt (due_at commands rounds x (due_of k)) (depth_at steps x)

  mended : (rounds : List ℕ) → IsLegal commands rounds steps → WaitsFull commands rounds steps ⊎ ((other : List ℕ) × IsLegal commands other steps × (weight other < weight rounds))
  mended rounds legal =
      elim (search_pairs (is_open rounds) (λ k. get_or rounds k 0) (length commands)) [
        | inr none ↦
            inl (λ x k d within released later.
            let own : get_or commands k d ≡ get_or commands k nobody = get_or_default commands k d nobody within in
            let full : depth_at steps x ≤ due_at commands rounds x (due_of k) =
            elim (cases_lt (due_at commands rounds x (due_of k)) (depth_at steps x)) [
              | inr full ↦ full
              | inl room ↦
                  let early : (get_or commands k nobody).release ≤ x = subst (λ (c : Command). c.release ≤ x) own released in
                  absurd (let clash : true ≡ false = sym (and_from (nat_le (get_or commands k nobody).release x) (nat_lt (due_at commands rounds x (due_of k)) (depth_at steps x)) (le-leb (get_or commands k nobody).release x early) (lt-ltb (due_at commands rounds x (due_of k)) (depth_at steps x) room)) ∙ none k x within later in cc)
            ] in
            subst (λ (c : Command). depth_at steps x ≤ due_at commands rounds x c.due) (sym own) full)
        | inl found ↦
            let k : ℕ = found.0 in
            let x : ℕ = found.2 in
            let parts = and_parts (nat_le (get_or commands k nobody).release x) (nat_lt (due_at commands rounds x (due_of k)) (depth_at steps x)) found.4 in
            let released : (get_or commands k nobody).release ≤ x = leb-true (get_or commands k nobody).release x parts.0 in
            elim (cases_lt (places_at rounds x) (depth_at steps x)) [
              | inl room ↦ inr (moves rounds legal k x found.1 released found.3 room)
              | inr full ↦
                  elim (search_below (λ p. (get_or rounds p 0 == x) && nat_lt (due_of k) (due_of p)) (length commands)) [
                    | inl one ↦
                        let is = and_parts (get_or rounds one.0 0 == x) (nat_lt (due_of k) (due_of one.0)) one.2 in
                        inr (swaps rounds legal k x found.1 released found.3 one.0 one.1 (eqb-true (get_or rounds one.0 0) x is.0) (ltb-true (due_of k) (due_of one.0) is.1))
                    | inr none ↦
                        let held : depth_at steps x ≤ due_at commands rounds x (due_of k) =
                        full_by commands rounds steps x (due_of k) nobody legal.one_each (omega (arith, legal.within_depth x))
                        (λ j h at. elim (cases_lt (due_of k) (due_of j)) [
                          | inr no_later ↦ no_later
                          | inl past ↦ absurd (let clash : true ≡ false = sym (and_from (get_or rounds j 0 == x) (nat_lt (due_of k) (due_of j)) (eq-eqb (get_or rounds j 0) x at) (lt-ltb (due_of k) (due_of j) past)) ∙ none j h in cc)
                        ]) in
                        absurd (omega (arith, held, ltb-true (due_at commands rounds x (due_of k)) (depth_at steps x) parts.1))
                  ]
            ]
      ]

  mended_by : (n : ℕ) (rounds : List ℕ) → IsLegal commands rounds steps → weight rounds ≤ n → (other : List ℕ) × IsLegal commands other steps × WaitsFull commands other steps
  mended_by zero rounds legal small =
      elim (mended rounds legal) [ inl waits ↦ (rounds, legal, waits) | inr better ↦ absurd (omega (arith, better.2)) ]
  mended_by (suc n) rounds legal small =
      elim (mended rounds legal) [ inl waits ↦ (rounds, legal, waits) | inr better ↦ mended_by n better.0 better.1 (omega (arith, better.2)) ]

  -- where there is a legal schedule, there is one by due rounds
  pub due_first_exists : (rounds : List ℕ) → IsLegal commands rounds steps → (other : List ℕ) × IsLegal commands other steps × WaitsFull commands other steps
  due_first_exists rounds legal = mended_by (weight rounds) rounds legal (omega arith)
