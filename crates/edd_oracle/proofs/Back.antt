-- A window's start, by one pass back over the served commands in order.
use Rattle.std.proofs.Common.{◌≡◌, ◌<◌, ◌≤◌, ℕ, ◌+◌, ◌-◌, ◌==◌, ◌&&◌, nat_le, true, false, List, length, get_or, map, ◌⊎◌, inl, inr, arith, sym, ◌∙◌, subst}
use Rattle.std.specs.List.Sorted.{IsNonDecreasingBy, IsPartitionPoint}
use Rattle.std.proofs.lemmas.Bool.{cases_eq, cases_lt, leb-true, leb-false, and_parts, and_from, and_left, le-leb, lt-leb, eq-eqb}
use Rattle.std.proofs.lemmas.List.{get_or-map, length-map}
use Rattle.edd_commands.specs.declared.steps.Step.{Step}
use Rattle.edd_commands.specs.Capacity.{depth_at}
use Rattle.edd_commands.specs.Schedule.{places_at}
use Rattle.edd_commands.proofs.Counting.{Rises, run_count, run_of}
use Rattle.edd_oracle.specs.declared.cover.Served.{Served}
use Rattle.edd_oracle.specs.Inside.Cover.{served_at, running_at, IsServedStart, AreDue, IsOneOff}
use Rattle.edd_oracle.proofs.Counting.{count_map, count_run, count_wider, count_fewer}

abbrev pub nobody : Served
nobody = record { round = 0; due = 0 }

-- the rounds alone
abbrev pub times : List Served → List ℕ
times served = map (λ s. s.round) served

pub time_at : (served : List Served) (k : ℕ) → k < length served → get_or (times served) k 0 ≡ (get_or served k nobody).round
time_at served k h = get_or-map (λ s. s.round) served k nobody 0 h

pub times_count : (served : List Served) (y : ℕ) → places_at (times served) y ≡ running_at served y
unfolding places_at running_at
times_count served y = count_map (λ s. s.round) (λ z. z == y) served

pub times_rise : (served : List Served) → IsNonDecreasingBy (λ s. s.round) served → Rises (times served)
times_rise served rising i j le lt =
    let within : j < length served = omega (arith, length-map served (λ s. s.round)) in
    omega (arith, time_at served i (omega arith), time_at served j within, rising i j nobody le within)

-- the rounds from `start` on are full of those due by then, and the first `left` places are of rounds before it
pub record IsServedBack (served : List Served) (steps : List Step) (due start left : ℕ) : Type 0 where
  pub before : start ≤ due + 1
  pub within : left ≤ length served
  pub full : (y : ℕ) → start ≤ y → y < due + 1 → depth_at steps y ≤ served_at served y due
  pub lower : (k : ℕ) → k < left → (get_or served k nobody).round < start
  pub upper : (k : ℕ) → left ≤ k → k < length served → start ≤ (get_or served k nobody).round

pub back_at_due : (served : List Served) (steps : List Step) (due start left : ℕ) → start ≡ due + 1 → left ≤ length served → IsPartitionPoint (λ (s : Served). nat_le s.round due ≡ true) (λ (s : Served). nat_le s.round due ≡ false) served left → IsServedBack served steps due start left
back_at_due served steps due start left is_start within parted =
    record {
      before = omega arith;
      within = within;
      full = λ y low high. absurd (omega arith);
      lower = λ k h. omega (arith, leb-true (get_or served k nobody).round due (parted.0 k nobody (omega arith) h));
      upper = λ k low h. omega (arith, leb-false (get_or served k nobody).round due (parted.1 k nobody low h));
    }

-- the places of a round that are due by then are among all of that round
pub served_le : (served : List Served) (y due : ℕ) → served_at served y due ≤ running_at served y
unfolding served_at running_at
served_le served y due =
    count_wider (λ s. nat_le s.due due && s.round == y) (λ s. s.round == y) (λ s both. (and_parts (nat_le s.due due) (s.round == y) both).1) served

-- a full round
pub served_more : (served : List Served) (steps : List Step) (due start left depth : ℕ) → IsNonDecreasingBy (λ s. s.round) served → ((y : ℕ) → running_at served y ≤ depth_at steps y) → IsServedBack served steps due start left → 0 < start → 0 < depth → depth ≡ depth_at steps (start - 1) → depth ≤ left → AreDue served (left - depth) left (start - 1) due → IsServedBack served steps due (start - 1) (left - depth)
unfolding served_at
served_more served steps due start left depth rising few back some deep is_depth fits all =
    let y : ℕ = start - 1 in
    let first : ℕ = left - depth in
    let last_in : left - 1 < length served = omega (arith, back.within) in
    let at_last : get_or (times served) (left - 1) 0 ≡ y = time_at served (left - 1) last_in ∙ (all (left - 1) nobody (omega arith) (omega arith)).1 in
    let run : depth ≤ served_at served y due =
    count_run (λ s. nat_le s.due due && s.round == y) served first depth (omega (arith, back.within))
    (λ k e low high.
    let known = all k e low (omega arith) in
    and_from (nat_le (get_or served k e).due due) ((get_or served k e).round == y) (le-leb (get_or served k e).due due known.0) (eq-eqb (get_or served k e).round y known.1)) in
    record {
      before = omega (arith, back.before);
      within = omega (arith, back.within);
      full = λ z low high.
          elim (cases_eq z y) [
            | inl here ↦ subst (λ r. depth_at steps r ≤ served_at served r due) (sym here) (omega (arith, run))
            | inr other ↦ back.full z (omega arith) high
          ];
      lower = λ k h.
          elim (cases_lt (get_or served k nobody).round y) [
            | inl low ↦ low
            | inr high ↦
                let k_in : k < length served = omega (arith, back.within) in
                let at_k : get_or (times served) k 0 ≡ y = omega (arith, time_at served k k_in, back.lower k (omega arith)) in
                let long : length (times served) ≡ length served = length-map served (λ s. s.round) in
                let longer : left - 1 < k + places_at (times served) y = run_count y (times served) (times_rise served rising) k (left - 1) (omega arith) (omega arith) at_k at_last in
                absurd (omega (arith, times_count served y, few y))
          ];
      upper = λ k low h.
          elim (cases_lt k left) [
            | inl among ↦ let known : (get_or served k nobody).round ≡ y = (all k nobody low among).1 in omega arith
            | inr past ↦ omega (arith, back.upper k past h)
          ];
    }

-- where they don't all run in the round by then, it isn't full
pub served_ends : (served : List Served) (steps : List Step) (due start left depth : ℕ) → IsNonDecreasingBy (λ s. s.round) served → ((y : ℕ) → running_at served y ≤ depth_at steps y) → IsServedBack served steps due start left → 0 < start → 0 < depth → depth ≡ depth_at steps (start - 1) → (left < depth) ⊎ IsOneOff served (left - depth) left (start - 1) due → IsServedStart served steps due start
unfolding served_at running_at
served_ends served steps due start left depth rising few back some deep is_depth apart =
    let y : ℕ = start - 1 in
    let long : length (times served) ≡ length served = length-map served (λ s. s.round) in
    record {
      before = back.before;
      full = back.full;
      first = inr (
          elim (cases_lt (served_at served y due) (depth_at steps y)) [
            | inl fewer ↦ fewer
            | inr full ↦
                let held : served_at served y due ≤ running_at served y = served_le served y due in
                let count : places_at (times served) y ≡ running_at served y = times_count served y in
                let run = run_of y (times served) (times_rise served rising) (depth - 1) (omega (arith, few y)) in
                let j : ℕ = run.0 in
                let e : ℕ = run.1 in
                let apart_by : e ≡ j + (depth - 1) = run.2 in
                let e_in : e < length served = omega (arith, run.3) in
                let at_j : (get_or served j nobody).round ≡ y = sym (time_at served j (omega arith)) ∙ run.4 in
                let at_e : (get_or served e nobody).round ≡ y = sym (time_at served e e_in) ∙ run.5 in
                elim (cases_lt e left) [
                  | inr high ↦ absurd (omega (arith, back.upper e high e_in))
                  | inl low ↦
                      let last_in : left - 1 < length served = omega (arith, back.within) in
                      let last_up : (get_or served e nobody).round ≤ (get_or served (left - 1) nobody).round = rising e (left - 1) nobody (omega arith) last_in in
                      let at_last : get_or (times served) (left - 1) 0 ≡ y = omega (arith, time_at served (left - 1) last_in, back.lower (left - 1) (omega arith)) in
                      let longer : left - 1 < j + places_at (times served) y = run_count y (times served) (times_rise served rising) j (left - 1) (omega arith) (omega arith) run.4 at_last in
                      elim apart [
                        | inl short ↦ absurd (omega arith)
                        | inr off ↦
                            let i : ℕ = off.place in
                            let i_low : j ≤ i = omega (arith, off.low, few y) in
                            let i_in : i < length served = omega (arith, off.high, back.within) in
                            let up : (get_or served j nobody).round ≤ (get_or served i nobody).round = rising j i nobody i_low i_in in
                            let down : (get_or served i nobody).round < start = back.lower i off.high in
                            let at_i : (get_or served i nobody).round ≡ y = omega arith in
                            elim (off.off nobody) [
                              | inr elsewhere ↦ absurd (elsewhere at_i)
                              | inl late ↦
                                  let fewer : served_at served y due < running_at served y =
                                  count_fewer (λ s. nat_le s.due due && s.round == y) (λ s. s.round == y) (λ s both. (and_parts (nat_le s.due due) (s.round == y) both).1) served i nobody i_in (eq-eqb (get_or served i nobody).round y at_i)
                                  (and_left (nat_le (get_or served i nobody).due due) ((get_or served i nobody).round == y) (lt-leb (get_or served i nobody).due due late)) in
                                  absurd (omega (arith, few y))
                            ]
                      ]
                ]
          ]);
    }
