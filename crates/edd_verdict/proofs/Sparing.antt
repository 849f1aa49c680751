-- By due rounds, with all but the wanted due last, a late command is on time beside what is on time, or a window around it is filled.
use Rattle.std.proofs.Common.{◌≡◌, ◌<◌, ◌≤◌, ℕ, ◌+◌, ◌-◌, zero, suc, Bool, true, false, cond, ◌&&◌, ◌||◌, nat_le, nat_lt, ◌==◌, List, length, get_or, set, get_or-set_other, get_or-set_same, length-set, ◌⊎◌, inl, inr, arith, refl, ap, sym, ◌∙◌, subst}
use Rattle.std.specs.List.{zip}
use Rattle.std.proofs.lemmas.List.{get_or_default}
use Rattle.std.proofs.lemmas.Bool.{cases_Bool, cases_lt, cases_eq, cond-true, cond-false, and_parts, and_from, and_left, leb-true, le-leb, lt-leb, ltb-true, lt-ltb, eqb-true, eq-eqb, or_cases, or_left, or_right}
use Rattle.edd_commands.specs.declared.Command.{Command}
use Rattle.edd_check.specs.declared.Window.{Window}
use Rattle.edd_commands.specs.declared.steps.Step.{Step}
use Rattle.edd_commands.specs.Capacity.{carried}
use Rattle.edd_commands.specs.Schedule.{IsLegal}
use Rattle.edd_commands.proofs.InForce.{carried_suc}
use Rattle.edd_check.specs.OnTime.{is_on_time, lies_in, carried_in}
use Rattle.edd_check.specs.Window.{load_of}
use Rattle.edd_oracle.proofs.Counting.{count_along, sum_set, search_below, past_all}
use Rattle.edd_oracle.proofs.Pairs.{nobody, length_pairs, tested}
use Rattle.edd_oracle.proofs.Crowded.{WaitsFull, window_start, released_inside, crowded_to}
use Rattle.edd_oracle.proofs.Filled.{is_held, held_parts, held_from}
use Rattle.edd_oracle.proofs.Mending.{due_first_exists}
use Rattle.edd_verdict.specs.Filled.{IsFilled}
use Rattle.edd_verdict.specs.Verdicts.{IsLate, CanBeOnTime, IsSpare}
use Rattle.edd_verdict.proofs.Tallies.{tabled, tabled_length, tabled_at}
use Rattle.edd_verdict.proofs.Holding.{held_in, held_carried, holds_filled}

-- more rounds carry no fewer
carried_wider : (steps : List Step) (start n m : ℕ) → n ≤ m → carried steps start n ≤ carried steps start m
carried_wider steps start n zero low = let none : n ≡ 0 = omega arith in omega (arith, ap (λ i. carried steps start i) none)
carried_wider steps start n (suc m) low =
    elim (cases_eq n (suc m)) [
      | inl same ↦ omega (arith, ap (λ i. carried steps start i) same)
      | inr other ↦ omega (arith, carried_wider steps start n m (omega arith), carried_suc steps start m)
    ]

module _ (commands : List Command) (rounds : List ℕ) (steps : List Step) (legal : IsLegal commands rounds steps) (k : ℕ) (within : k < length commands) (late : IsLate commands rounds k) (can : CanBeOnTime commands k) where
  abbrev at : ℕ → Command
  at j = get_or commands j nobody

  abbrev top : ℕ
  top = (past_all (λ (c : Command). c.due) commands).0

  -- on time here, or the one
  abbrev wanted : ℕ → Bool
  wanted j = is_on_time (at j) (get_or rounds j 0) || j == k

  -- due as it is, or last
  abbrev eased_at : ℕ → Command
  eased_at j = cond (wanted j) (at j) (record { id = 0; release = (at j).release; due = top })

  abbrev eased : List Command
  eased = tabled eased_at (length commands)

  long : length eased ≡ length commands
  long = tabled_length eased_at (length commands)

  same_if : (j : ℕ) (d : Command) → j < length commands → wanted j ≡ true → get_or eased j d ≡ at j
  same_if j d h wants = tabled_at eased_at (length commands) j d h ∙ cond-true (wanted j) (at j) (record { id = 0; release = (at j).release; due = top }) wants

  last_if : (j : ℕ) (d : Command) → j < length commands → wanted j ≡ false → get_or eased j d ≡ record { id = 0; release = (at j).release; due = top }
  last_if j d h spurns = tabled_at eased_at (length commands) j d h ∙ cond-false (wanted j) (at j) (record { id = 0; release = (at j).release; due = top }) spurns

  release_is : (j : ℕ) (d : Command) → j < length commands → (get_or eased j d).release ≡ (get_or commands j d).release
  release_is j d h =
      let own : (at j).release ≡ (get_or commands j d).release = ap (λ (c : Command). c.release) (get_or_default commands j nobody d h) in
      elim (cases_Bool (wanted j)) [
        | inl wants ↦ ap (λ (c : Command). c.release) (same_if j d h wants) ∙ own
        | inr spurns ↦ ap (λ (c : Command). c.release) (last_if j d h spurns) ∙ own
      ]

  eased_legal : IsLegal eased rounds steps
  eased_legal = record {
    one_each = legal.one_each ∙ sym long;
    released = λ j d h. omega (arith, release_is j d (omega (arith, long)), legal.released j d (omega (arith, long)));
    within_depth = legal.within_depth;
  }

  best : (xs : List ℕ) × IsLegal eased xs steps × WaitsFull eased xs steps
  best = due_first_exists eased steps rounds eased_legal

  abbrev other : List ℕ
  other = best.0

  other_legal : IsLegal commands other steps
  other_legal = record {
    one_each = best.1.one_each ∙ long;
    released = λ j d h. omega (arith, release_is j d h, best.1.released j d (omega (arith, long)));
    within_depth = best.1.within_depth;
  }

  wanted_can : (j : ℕ) → j < length commands → wanted j ≡ true → (at j).release ≤ (at j).due
  wanted_can j h wants =
      elim (or_cases (is_on_time (at j) (get_or rounds j 0)) (j == k) wants) [
        | inl timely ↦ omega (arith, legal.released j nobody h, leb-true (get_or rounds j 0) (at j).due timely)
        | inr is_k ↦ subst (λ i. (at i).release ≤ (at i).due) (sym (eqb-true j k is_k)) (can nobody)
      ]

  -- where a wanted one is late a window is filled
  crowd : (j : ℕ) → j < length commands → wanted j ≡ true → (at j).due < get_or other j 0 → (w : Window) × IsFilled commands rounds steps w × (w.from ≤ (at k).release) × ((at k).due ≤ w.due)
  unfolding carried_in
  crowd j h wants past =
      let x : ℕ = get_or other j 0 in
      let b : ℕ = (at j).due in
      let same : get_or eased j nobody ≡ at j = same_if j nobody h wants in
      let j_in : j < length eased = omega (arith, long) in
      let start = window_start eased other steps x b in
      let w : Window = record { from = start.0; due = b } in
      let more : carried steps start.0 (x - start.0) < load_of eased w = crowded_to eased other steps x b start.0 j nobody best.1.one_each best.2 start.1 j_in refl (ap (λ (c : Command). c.due) same) in
      let low : start.0 ≤ (get_or eased j nobody).release = released_inside eased other steps x b start.0 j nobody best.2 start.1 j_in (omega (arith, ap (λ (c : Command). c.due) same)) start.1.before in
      let some : start.0 ≤ b = omega (arith, ap (λ (c : Command). c.release) same, wanted_can j h wants) in
      let fewer : carried_in steps w ≤ carried steps start.0 (x - start.0) = carried_wider steps start.0 (b + 1 - start.0) (x - start.0) (omega arith) in
      let there : List ℕ = set rounds k (at k).due in
      let one_each : length there ≡ length commands = length-set rounds k (at k).due ∙ legal.one_each in
      let loaded : load_of eased w ≤ held_in commands there w =
      count_along (λ c. nat_le w.from c.release && nat_le c.due w.due) (is_held w) eased (zip commands there) (length_pairs commands there one_each ∙ sym long)
      (λ i c q i_low passes.
      let i_in : i < length commands = omega (arith, long) in
      let parts = and_parts (nat_le w.from (get_or eased i c).release) (nat_le (get_or eased i c).due w.due) passes in
      let begins : w.from ≤ (get_or eased i c).release = leb-true w.from (get_or eased i c).release parts.0 in
      let ends : (get_or eased i c).due ≤ w.due = leb-true (get_or eased i c).due w.due parts.1 in
      elim (cases_Bool (wanted i)) [
        | inr spurns ↦ absurd (omega (arith, ends, ap (λ (d : Command). d.due) (last_if i c i_in spurns), (past_all (λ (d : Command). d.due) commands).1 j nobody h))
        | inl is ↦
            let begins' : w.from ≤ (at i).release = subst (λ (d : Command). w.from ≤ d.release) (same_if i c i_in is) begins in
            let ends' : (at i).due ≤ w.due = subst (λ (d : Command). d.due ≤ w.due) (same_if i c i_in is) ends in
            tested commands there (is_held w) true i nobody q one_each i_in
            (elim (cases_eq i k) [
              | inl is_k ↦
                  let runs : get_or there i 0 ≡ (at i).due = ap (λ n. get_or there n 0) is_k ∙ get_or-set_same rounds k (at k).due 0 (omega (arith, legal.one_each)) ∙ ap (λ n. (at n).due) (sym is_k) in
                  held_from w (at i) (get_or there i 0) (omega (arith, wanted_can i i_in is)) (omega arith) begins' ends'
              | inr not_k ↦
                  let runs : get_or there i 0 ≡ get_or rounds i 0 = get_or-set_other rounds k i (at k).due 0 not_k in
                  elim (or_cases (is_on_time (at i) (get_or rounds i 0)) (i == k) is) [
                    | inr is_k ↦ absurd (not_k (eqb-true i k is_k))
                    | inl timely ↦ held_from w (at i) (get_or there i 0) (omega (arith, legal.released i nobody i_in)) (omega (arith, leb-true (get_or rounds i 0) (at i).due timely)) begins' ends'
                  ]
            ])
      ]) in
      let set_once = sum_set (λ (p : Command × ℕ). cond {A = ℕ} (is_held w p) 1 0) commands rounds k (at k).due nobody 0 legal.one_each within in
      let out : is_held w (at k, get_or rounds k 0) ≡ false = and_left (is_on_time (at k) (get_or rounds k 0)) (lies_in (at k) w) (lt-leb (get_or rounds k 0) (at k).due (late nobody)) in
      let none = cond-false {A = ℕ} (is_held w (at k, get_or rounds k 0)) 1 0 out in
      let few : held_in commands rounds w ≤ carried_in steps w = held_carried commands rounds steps w legal some in
      elim (cases_Bool (is_held w (at k, (at k).due))) [
        | inl lies ↦
            let parts = held_parts w (at k) (at k).due lies in
            (w, holds_filled commands rounds steps w legal (omega (arith, set_once, none, cond-true {A = ℕ} (is_held w (at k, (at k).due)) 1 0 lies, loaded, more, fewer)), parts.1, parts.2)
        | inr spurns ↦ absurd (omega (arith, set_once, none, cond-false {A = ℕ} (is_held w (at k, (at k).due)) 1 0 spurns, loaded, more, fewer, few))
      ]

  pub spare_or_crowded : IsSpare commands rounds steps k ⊎ ((w : Window) × IsFilled commands rounds steps w × (w.from ≤ (at k).release) × ((at k).due ≤ w.due))
  spare_or_crowded =
      elim (search_below (λ j. wanted j && nat_lt (at j).due (get_or other j 0)) (length commands)) [
        | inl found ↦
            let parts = and_parts (wanted found.0) (nat_lt (at found.0).due (get_or other found.0 0)) found.2 in
            inr (crowd found.0 found.1 parts.0 (ltb-true (at found.0).due (get_or other found.0 0) parts.1))
        | inr none ↦
            let timely : (j : ℕ) (d : Command) → j < length commands → wanted j ≡ true → get_or other j 0 ≤ (get_or commands j d).due =
            λ j d h wants. elim (cases_lt (at j).due (get_or other j 0)) [
              | inr soon ↦ subst (λ (c : Command). get_or other j 0 ≤ c.due) (get_or_default commands j nobody d h) soon
              | inl past ↦ absurd (let clash : true ≡ false = sym (and_from (wanted j) (nat_lt (at j).due (get_or other j 0)) wants (lt-ltb (at j).due (get_or other j 0) past)) ∙ none j h in cc)
            ] in
            inl (record {
              schedule = other;
              legal = other_legal;
              kept = λ j d h in_time.
                  timely j d h
                  (or_left (is_on_time (at j) (get_or rounds j 0)) (j == k)
                  (le-leb (get_or rounds j 0) (at j).due (subst (λ (c : Command). get_or rounds j 0 ≤ c.due) (get_or_default commands j d nobody h) in_time)));
              on_time = λ d. timely k d within (or_right (is_on_time (at k) (get_or rounds k 0)) (k == k) (eq-eqb k k refl));
            })
      ]
