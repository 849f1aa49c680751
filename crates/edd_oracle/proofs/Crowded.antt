use Rattle.std.proofs.Common.{◌≡◌, ◌<◌, ◌≤◌, ℕ, ◌+◌, ◌-◌, zero, suc, Bool, true, ◌&&◌, nat_le, nat_lt, ◌==◌, List, length, get_or, count_by, ◌⊎◌, inl, inr, ℤ, pos, ◌+ℤ◌, ◌-ℤ◌, arith, refl, ap, sym, ◌∙◌, subst}
use Rattle.std.specs.List.{zip}
use Rattle.std.proofs.lemmas.Int.{ints}
use Rattle.std.proofs.lemmas.List.{get_or_default}
use Rattle.std.proofs.lemmas.Bool.{and_parts, and_from, leb-true, le-leb, eq-eqb, cases_eq, cases_lt}
use Rattle.edd_commands.specs.declared.Command.{Command}
use Rattle.edd_commands.specs.declared.steps.Step.{Step}
use Rattle.edd_commands.specs.Capacity.{depth_at, carried}
use Rattle.edd_commands.proofs.InForce.{carried_suc, carried_none}
use Rattle.edd_commands.specs.Schedule.{places_at, lateness_at, IsGreatestLateness}
use Rattle.edd_check.specs.Window.{IsCrowded, load_of}
use Rattle.edd_oracle.specs.Plan.{due_at, IsWindowStart, IsLatest, IsChosen}
use Rattle.edd_oracle.specs.Priority.{IsEarliestDueFirst, ComesFirst}
use Rattle.edd_oracle.proofs.Counting.{count_along, count_wider, count_some, is_among, among_more}
use Rattle.edd_oracle.proofs.Pairs.{is_due_at, pair_at, length_pairs, full_of, counted}

-- a command due by `due` that has one of the n rounds from `start` on
abbrev pub is_inside : ℕ → ℕ → ℕ → Command × ℕ → Bool
is_inside start n due p = is_among (λ q. nat_le q.0.due due) (λ q. q.1) start n p

-- how many commands due by `due` have one of the n rounds from `start` on
abbrev pub due_among : List Command → List ℕ → ℕ → ℕ → ℕ → ℕ
due_among commands rounds start n due = count_by (is_inside start n due) (zip commands rounds)

-- one round more
due_among-more : (commands : List Command) (rounds : List ℕ) (start n due : ℕ) → due_among commands rounds start (suc n) due ≡ due_among commands rounds start n due + due_at commands rounds (start + n) due
unfolding due_at
due_among-more commands rounds start n due = among_more (λ (q : Command × ℕ). nat_le q.0.due due) (λ q. q.1) start n (zip commands rounds)

-- n full rounds
pub due_among-full : (commands : List Command) (rounds : List ℕ) (steps : List Step) (start due n : ℕ) → ((y : ℕ) → start ≤ y → y < start + n → depth_at steps y ≤ due_at commands rounds y due) → carried steps start n ≤ due_among commands rounds start n due
due_among-full commands rounds steps start due zero full = omega (arith, carried_none steps start)
due_among-full commands rounds steps start due (suc n) full =
    let rest : carried steps start n ≤ due_among commands rounds start n due =
    due_among-full commands rounds steps start due n (λ y low high. full y low (omega arith)) in
    let here : depth_at steps (start + n) ≤ due_at commands rounds (start + n) due = full (start + n) (omega arith) (omega arith) in
    omega (arith, rest, here, due_among-more commands rounds start n due, carried_suc steps start n)

-- what comes first is due no later
pub due_from_first : (a b : Command) → ComesFirst a b → a.due ≤ b.due
due_from_first a b first = elim first [ inl sooner ↦ omega arith | inr tie ↦ omega (arith, tie.0) ]

-- where a released command has to wait the round is full of commands due no later
abbrev pub WaitsFull : List Command → List ℕ → List Step → Type 0
WaitsFull commands rounds steps = (x k : ℕ) (d : Command) → k < length commands → (get_or commands k d).release ≤ x → x < get_or rounds k 0 → depth_at steps x ≤ due_at commands rounds x (get_or commands k d).due

-- a full round of commands due by then
pub full_by : (commands : List Command) (rounds : List ℕ) (steps : List Step) (x due : ℕ) (d : Command) → length rounds ≡ length commands → places_at rounds x ≡ depth_at steps x → ((j : ℕ) → j < length commands → get_or rounds j 0 ≡ x → (get_or commands j d).due ≤ due) → depth_at steps x ≤ due_at commands rounds x due
unfolding due_at
full_by commands rounds steps x due d same full sooner =
    full_of commands rounds steps (is_due_at x due) x d same full
    (λ j h at. and_from (nat_le (get_or commands j d).due due) (get_or rounds j 0 == x) (le-leb (get_or commands j d).due due (sooner j h at)) (eq-eqb (get_or rounds j 0) x at))

pub waits_full : (commands : List Command) (rounds : List ℕ) (steps : List Step) → length rounds ≡ length commands → IsEarliestDueFirst commands rounds steps → WaitsFull commands rounds steps
waits_full commands rounds steps same first x k d within released later =
    full_by commands rounds steps x (get_or commands k d).due d same (first.full x k d within released later)
    (λ j h at. due_from_first (get_or commands j d) (get_or commands k d) (first.due_first x k j d within released later h at))

-- what is due by then is due later too
pub due_later : (commands : List Command) (rounds : List ℕ) (x one other : ℕ) → one ≤ other → due_at commands rounds x one ≤ due_at commands rounds x other
unfolding due_at
due_later commands rounds x one other low =
    count_wider (is_due_at x one) (is_due_at x other)
    (λ p yes.
    let parts = and_parts (nat_le p.0.due one) (p.1 == x) yes in
    and_from (nat_le p.0.due other) (p.1 == x) (le-leb p.0.due other (omega (arith, leb-true p.0.due one parts.0))) parts.1)
    (zip commands rounds)

-- the rounds from here on and before x are full, and the one before them isn't
pub start_of : (deep held : ℕ → ℕ) (x : ℕ) → (start : ℕ) × (start ≤ x) × ((y : ℕ) → start ≤ y → y < x → deep y ≤ held y) × ((start ≡ 0) ⊎ (held (start - 1) < deep (start - 1)))
start_of deep held zero = (0, omega arith, (λ y low high. absurd (omega arith)), inl refl)
start_of deep held (suc x) =
    elim (cases_lt (held x) (deep x)) [
      | inl room ↦
          let same : x ≡ suc x - 1 = omega arith in
          (suc x, omega arith, (λ y low high. absurd (omega arith)), inr (subst (λ n. held n < deep n) same room))
      | inr full ↦
          let rest = start_of deep held x in (
            rest.0,
            omega (arith, rest.1),
            (λ y low high. elim (cases_eq y x) [
              | inl same ↦ subst (λ n. deep n ≤ held n) (sym same) full
              | inr other ↦ rest.2 y low (omega arith)
            ]),
            rest.3,
          )
    ]

-- some window ends before each round
pub window_start : (commands : List Command) (rounds : List ℕ) (steps : List Step) (x due : ℕ) → (start : ℕ) × IsWindowStart commands rounds steps x due start
window_start commands rounds steps x due =
    let found = start_of (depth_at steps) (λ y. due_at commands rounds y due) x in
    (found.0, record { before = found.1; full = found.2; first = found.3 })

-- what is due by then and runs from the start on was released at the start or later
pub released_inside : (commands : List Command) (rounds : List ℕ) (steps : List Step) (x due start k : ℕ) (d : Command) → WaitsFull commands rounds steps → IsWindowStart commands rounds steps x due start → k < length commands → (get_or commands k d).due ≤ due → start ≤ get_or rounds k 0 → start ≤ (get_or commands k d).release
released_inside commands rounds steps x due start k d waits is_start within is_due runs =
    elim is_start.first [
      | inl none ↦ omega arith
      | inr «open» ↦
          elim (cases_lt (get_or commands k d).release start) [
            | inr late ↦ late
            | inl early ↦ absurd (omega (arith, waits (start - 1) k d within (omega arith) (omega arith), due_later commands rounds (start - 1) (get_or commands k d).due due is_due, «open»))
          ]
    ]

-- the window that ends with the latest command asks for more than its rounds carry
pub crowded_to : (commands : List Command) (rounds : List ℕ) (steps : List Step) (x due start k : ℕ) (d : Command) → length rounds ≡ length commands → WaitsFull commands rounds steps → IsWindowStart commands rounds steps x due start → k < length commands → get_or rounds k 0 ≡ x → (get_or commands k d).due ≡ due → carried steps start (x - start) < load_of commands record { from = start; due = due }
unfolding due_at
crowded_to commands rounds steps x due start k d same waits is_start within at_x is_due =
    let n : ℕ = x - start in
    let end : start + n ≡ x = omega (arith, is_start.before) in
    let full : carried steps start n ≤ due_among commands rounds start n due =
    due_among-full commands rounds steps start due n (λ y low high. is_start.full y low (omega arith)) in
    let more = due_among-more commands rounds start n due in
    let late : 0 < due_at commands rounds (start + n) due =
    count_some (λ p. nat_le p.0.due due && p.1 == (start + n)) (zip commands rounds) k (d, 0) (omega (arith, length_pairs commands rounds same))
    (counted commands rounds (start + n) due k d same within (omega arith) (omega arith)) in
    let asked : due_among commands rounds start (suc n) due ≤ load_of commands record { from = start; due = due } =
    count_along (is_inside start (suc n) due) (λ c. nat_le start c.release && nat_le c.due due) (zip commands rounds) commands (sym (length_pairs commands rounds same))
    (λ j p e in_list inside.
    let j_in : j < length commands = omega (arith, length_pairs commands rounds same) in
    let here : is_inside start (suc n) due (get_or commands j e, get_or rounds j 0) ≡ true =
    subst (λ (q : Command × ℕ). is_inside start (suc n) due q ≡ true) (pair_at commands rounds j p e 0 same j_in) inside in
    let parts = and_parts (nat_le (get_or commands j e).due due) (nat_le start (get_or rounds j 0) && nat_lt (get_or rounds j 0) (start + suc n)) here in
    let ends = and_parts (nat_le start (get_or rounds j 0)) (nat_lt (get_or rounds j 0) (start + suc n)) parts.1 in
    let released : start ≤ (get_or commands j e).release =
    released_inside commands rounds steps x due start j e waits is_start j_in (leb-true (get_or commands j e).due due parts.0) (leb-true start (get_or rounds j 0) ends.0) in
    and_from (nat_le start (get_or commands j e).release) (nat_le (get_or commands j e).due due) (le-leb start (get_or commands j e).release released) parts.0) in
    omega (arith, full, more, late, asked)

le_from_chosen : (one : Command) (x : ℕ) (other : Command) (y : ℕ) → IsChosen one x other y → y + one.due ≤ x + other.due
le_from_chosen one x other y chosen = elim chosen [ inl later ↦ omega arith | inr tie ↦ omega (arith, tie.0) ]

due_and_late : (x due : ℕ) → (pos due +ℤ (pos x -ℤ pos due)) ≡ pos x
due_and_late x due = omega (arith, ints)

-- the window is crowded at the lateness of the latest command
pub crowded_by : (commands : List Command) (rounds : List ℕ) (steps : List Step) (x due start k : ℕ) (d : Command) (late : ℤ) → length rounds ≡ length commands → WaitsFull commands rounds steps → IsWindowStart commands rounds steps x due start → k < length commands → get_or rounds k 0 ≡ x → (get_or commands k d).due ≡ due → late ≡ (pos x -ℤ pos due) → IsCrowded commands steps late record { from = start; due = due }
crowded_by commands rounds steps x due start k d late same waits is_start within at_x is_due is_late =
    let end : (pos due +ℤ late) ≡ pos x = ap (λ (z : ℤ). pos due +ℤ z) is_late ∙ due_and_late x due in
    rw end (crowded_to commands rounds steps x due start k d same waits is_start within at_x is_due)

pub crowded_at : (commands : List Command) (rounds : List ℕ) (steps : List Step) (x due start k : ℕ) (d : Command) (late : ℤ) → length rounds ≡ length commands → IsEarliestDueFirst commands rounds steps → IsWindowStart commands rounds steps x due start → k < length commands → get_or rounds k 0 ≡ x → (get_or commands k d).due ≡ due → late ≡ (pos x -ℤ pos due) → IsCrowded commands steps late record { from = start; due = due }
crowded_at commands rounds steps x due start k d late same first is_start within at_x is_due is_late =
    crowded_by commands rounds steps x due start k d late same (waits_full commands rounds steps same first) is_start within at_x is_due is_late

-- a command's lateness by place, with any default
late_at : (commands : List Command) (rounds : List ℕ) (k x due : ℕ) (d e : Command) → k < length commands → get_or rounds k 0 ≡ x → (get_or commands k d).due ≡ due → lateness_at commands rounds k e ≡ (pos x -ℤ pos due)
late_at commands rounds k x due d e within at_x is_due =
    let same : (get_or commands k e).due ≡ due = ap (λ (c : Command). c.due) (get_or_default commands k e d within) ∙ is_due in
    ap (λ n. pos n -ℤ pos (get_or commands k e).due) at_x ∙ ap (λ n. pos x -ℤ pos n) same

-- the latest command's lateness is the greatest
pub greatest_at : (commands : List Command) (rounds : List ℕ) (k x due : ℕ) (d : Command) (late : ℤ) → k < length commands → get_or rounds k 0 ≡ x → (get_or commands k d).due ≡ due → late ≡ (pos x -ℤ pos due) → IsLatest commands rounds k → IsGreatestLateness commands rounds late
greatest_at commands rounds k x due d late within at_x is_due is_late latest =
    record {
      bound = λ j e h.
          let there = le_from_chosen (get_or commands k e) (get_or rounds k 0) (get_or commands j e) (get_or rounds j 0) (latest j e h) in
          let here = late_at commands rounds k x due d e within at_x is_due in
          omega (arith, ints);
      place = k;
      in_list = within;
      reached = λ e. late_at commands rounds k x due d e within at_x is_due ∙ sym is_late;
    }
