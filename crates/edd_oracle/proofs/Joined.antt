-- What earliest due first that passes over leaves: windows that hold what is passed over and what is on time in their rounds.
use Rattle.std.proofs.Common.{◌≡◌, ◌<◌, ◌≤◌, ℕ, ◌+◌, ◌-◌, List, length, get_or, reverse, inl, inr, arith, ap, sym, ◌∙◌, subst}
use Rattle.std.specs.List.{All}
use Rattle.std.proofs.lemmas.Bool.{cases_lt}
use Rattle.std.proofs.lemmas.List.{get_or-reverse, length-reverse}
use Rattle.edd_commands.specs.declared.Command.{Command}
use Rattle.edd_check.specs.declared.Window.{Window}
use Rattle.edd_commands.specs.declared.steps.Step.{Step}
use Rattle.edd_commands.specs.Capacity.{depth_at}
use Rattle.edd_commands.specs.declared.TheConstants.{MAX_ROUNDS}
use Rattle.edd_check.specs.OnTime.{CoverInRange}
use Rattle.edd_commands.specs.Schedule.{CommandsInRange}
use Rattle.edd_oracle.specs.declared.cover.Served.{Served}
use Rattle.edd_oracle.specs.Plan.{due_at, IsWindowStart}
use Rattle.edd_oracle.specs.OnTime.{IsOnTimeFirst, IsDelayed, IsPassedOver, IsPassedWindow, IsPassedCover}
use Rattle.edd_oracle.specs.Inside.Cover.{served_at, IsPassedDue, IsServedStart, AreWindows}
use Rattle.edd_oracle.proofs.Crowded.{due_from_first, full_by}

-- where a command is delayed, the round is full of commands due no later
pub delayed_full : (commands : List Command) (rounds : List ℕ) (steps : List Step) (x k due : ℕ) (d : Command) → length rounds ≡ length commands → IsOnTimeFirst commands rounds steps → IsDelayed commands rounds x k d → (get_or commands k d).due ≤ due → depth_at steps x ≤ due_at commands rounds x due
delayed_full commands rounds steps x k due d same first delayed by_then =
    full_by commands rounds steps x due d same (first.full x k d delayed)
    (λ j h at. omega (arith, by_then, due_from_first (get_or commands j d) (get_or commands k d) (first.due_first x k j d delayed h at).1))

-- a command due by the window's end that could be on time in the round before the window, and runs later, is released in it
pub released_after : (commands : List Command) (rounds : List ℕ) (steps : List Step) (past due start k : ℕ) (d : Command) → length rounds ≡ length commands → IsOnTimeFirst commands rounds steps → IsWindowStart commands rounds steps past due start → k < length commands → (get_or commands k d).due ≤ due → start ≤ (get_or commands k d).due + 1 → start ≤ get_or rounds k 0 → start ≤ (get_or commands k d).release
released_after commands rounds steps past due start k d same first is_start within by_then could later =
    elim is_start.first [
      | inl none ↦ omega arith
      | inr «open» ↦
          elim (cases_lt (get_or commands k d).release start) [
            | inl early ↦
                let full : depth_at steps (start - 1) ≤ due_at commands rounds (start - 1) due =
                delayed_full commands rounds steps (start - 1) k due d same first record { in_list = within; released = omega arith; in_time = omega arith; later = omega arith } by_then in
                absurd (omega (arith, full, «open»))
            | inr late ↦ late
          ]
    ]

-- so a command that is passed over lies in a window that it reaches
pub passed_lies : (commands : List Command) (rounds : List ℕ) (steps : List Step) (past due start k : ℕ) (d : Command) → length rounds ≡ length commands → IsOnTimeFirst commands rounds steps → IsWindowStart commands rounds steps past due start → IsPassedOver commands rounds k d → (get_or commands k d).due ≤ due → start ≤ (get_or commands k d).due + 1 → start ≤ (get_or commands k d).release
passed_lies commands rounds steps past due start k d same first is_start passed by_then could =
    released_after commands rounds steps past due start k d same first is_start passed.in_list by_then could (omega (arith, passed.late))

-- what is found among the served commands holds of the schedule
served_start : (commands : List Command) (rounds : List ℕ) (steps : List Step) (served : List Served) (past due start : ℕ) → ((y by : ℕ) → y < past → served_at served y by ≡ due_at commands rounds y by) → due < past → IsServedStart served steps due start → IsWindowStart commands rounds steps (due + 1) due start
served_start commands rounds steps served past due start same within is =
    record {
      before = is.before;
      full = λ y low high. omega (arith, is.full y low high, same y due (omega arith));
      first = elim is.first [
        | inl none ↦ inl none
        | inr «open» ↦
            elim (cases_lt 0 start) [
              | inl some ↦ inr (omega (arith, «open», same (start - 1) due (omega (arith, is.before))))
              | inr none ↦ inl (omega arith)
            ]
      ];
    }

-- what the windows come from
pub record IsFound (commands : List Command) (rounds : List ℕ) (steps : List Step) (passed : List ℕ) (served : List Served) (past : ℕ) : Type 0 where
  pub one_each : length rounds ≡ length commands
  pub first : IsOnTimeFirst commands rounds steps
  pub each : (k : ℕ) (d : Command) → IsPassedOver commands rounds k d → (j : ℕ) × (j < length passed) × (get_or passed j 0 ≡ (get_or commands k d).due)
  pub some : All (IsPassedDue commands rounds) passed
  pub within : (j : ℕ) → j < length passed → get_or passed j 0 < past
  pub same : (y due : ℕ) → y < past → served_at served y due ≡ due_at commands rounds y due

window_of : (commands : List Command) (rounds : List ℕ) (steps : List Step) (passed : List ℕ) (served : List Served) (past : ℕ) (back : List Window) (i : ℕ) (e : Window) → IsFound commands rounds steps passed served past → AreWindows served steps passed 0 back → i < length back → IsPassedWindow commands rounds steps (get_or back i e)
window_of commands rounds steps passed served past back i e found are h =
    let there = are.dues i e h in
    let is : IsPassedDue commands rounds (get_or passed there.0 0) = found.some there.0 0 there.2 in
    record {
      place = is.place;
      passed = is.passed;
      is_due = λ d. sym there.3 ∙ is.is_due d;
      is_start = served_start commands rounds steps served past (get_or back i e).due (get_or back i e).from found.same (omega (arith, found.within there.0 there.2, there.3)) (are.each i e h);
    }

-- the windows, the first one first
pub passed_cover : (commands : List Command) (rounds : List ℕ) (steps : List Step) (passed : List ℕ) (served : List Served) (past : ℕ) (back cover : List Window) → IsFound commands rounds steps passed served past → AreWindows served steps passed 0 back → cover ≡ reverse back → IsPassedCover commands rounds steps cover
passed_cover commands rounds steps passed served past back cover found are is_back =
    let n : ℕ = length back in
    let long : length (reverse back) ≡ n = length-reverse back in
    let at : (i : ℕ) (e : Window) → i < n → get_or (reverse back) i e ≡ get_or back (n - 1 - i) e = λ i e h. get_or-reverse back i e h in
    subst (λ xs. IsPassedCover commands rounds steps xs) (sym is_back) record {
      each = λ i e h. subst (λ (w : Window). IsPassedWindow commands rounds steps w) (sym (at i e (omega arith))) (window_of commands rounds steps passed served past back (n - 1 - i) e found are (omega arith));
      apart = λ i e h.
          let j : ℕ = n - 1 - (i + 1) in
          let one : (get_or (reverse back) i e).due ≡ (get_or back (j + 1) e).due =
          let same : n - 1 - i ≡ j + 1 = omega arith in
          ap (λ (w : Window). w.due) (at i e (omega arith)) ∙ ap (λ k. (get_or back k e).due) same in
          let two : (get_or (reverse back) (i + 1) e).from ≡ (get_or back j e).from = ap (λ (w : Window). w.from) (at (i + 1) e (omega arith)) in
          omega (arith, are.falls j e (omega arith));
      all = λ k d out.
          let there = found.each k d out in
          let held = are.reached there.0 (omega arith) there.1 in
          let i : ℕ = n - 1 - held.0 in (
            i,
            omega (arith, held.1),
            λ e.
                let same : n - 1 - i ≡ held.0 = omega (arith, held.1) in
                let w : Window = get_or back held.0 e in
                let known = held.2 e in
                let is : IsPassedWindow commands rounds steps w = window_of commands rounds steps passed served past back held.0 e found are held.1 in
                let one : (get_or (reverse back) i e).from ≡ w.from = ap (λ (v : Window). v.from) (at i e (omega (arith, held.1))) ∙ ap (λ m. (get_or back m e).from) same in
                let two : (get_or (reverse back) i e).due ≡ w.due = ap (λ (v : Window). v.due) (at i e (omega (arith, held.1))) ∙ ap (λ m. (get_or back m e).due) same in
                let by_then : (get_or commands k d).due ≤ w.due = omega (arith, known.1, there.2) in
                let low : w.from ≤ (get_or commands k d).release =
                passed_lies commands rounds steps (w.due + 1) w.due w.from k d found.one_each found.first is.is_start out by_then (omega (arith, known.0, there.2)) in
                (omega arith, omega arith),
          );
    }

-- a window begins no later than it ends
pub window_some : (commands : List Command) (rounds : List ℕ) (steps : List Step) (w : Window) (d : Command) → length rounds ≡ length commands → IsOnTimeFirst commands rounds steps → (is : IsPassedWindow commands rounds steps w) → (w.from ≤ (get_or commands is.place d).release) × ((get_or commands is.place d).release ≤ w.due)
window_some commands rounds steps w d same first is =
    let out = is.passed d in
    let low : w.from ≤ (get_or commands is.place d).release =
    passed_lies commands rounds steps (w.due + 1) w.due w.from is.place d same first is.is_start out (omega (arith, is.is_due d)) (omega (arith, is.is_due d, is.is_start.before)) in
    (low, omega (arith, is.is_due d, out.some))

pub cover_in : (commands : List Command) (rounds : List ℕ) (steps : List Step) (cover : List Window) → length rounds ≡ length commands → IsOnTimeFirst commands rounds steps → CommandsInRange commands → IsPassedCover commands rounds steps cover → CoverInRange cover
cover_in commands rounds steps cover same first ranges are =
    λ i e h.
    let d : Command = record { id = 0; release = 0; due = 0 } in
    let is : IsPassedWindow commands rounds steps (get_or cover i e) = are.each i e h in
    let known = window_some commands rounds steps (get_or cover i e) d same first is in
    let range = ranges is.place d (is.passed d).in_list in
    (omega (arith, known.0, range.0), omega (arith, is.is_due d, range.1))

pub dues_small : (commands : List Command) (rounds passed : List ℕ) → CommandsInRange commands → All (IsPassedDue commands rounds) passed → All (λ x. x < MAX_ROUNDS) passed
dues_small commands rounds passed ranges some =
    λ k e h.
    let d : Command = record { id = 0; release = 0; due = 0 } in
    let is : IsPassedDue commands rounds (get_or passed k e) = some k e h in
    let range = ranges is.place d (is.passed d).in_list in
    omega (arith, is.is_due d, range.1)
