-- One window more, or none, from the last due round back.
use Rattle.std.proofs.Common.{◌≡◌, ◌<◌, ◌≤◌, ℕ, ◌+◌, ◌-◌, List, [], ◌∷◌, ◌++◌, length, get_or, inl, inr, arith, refl, ap, sym, ◌∙◌, subst}
use Rattle.std.specs.List.Sorted.{IsNonDecreasingBy}
use Rattle.std.proofs.lemmas.Bool.{cases_eq, cases_lt}
use Rattle.std.proofs.lemmas.List.{get_or_append_left, get_or-append-add, length-append}
use Rattle.edd_check.specs.declared.Window.{Window}
use Rattle.edd_commands.specs.declared.steps.Step.{Step}
use Rattle.edd_oracle.specs.declared.cover.Served.{Served}
use Rattle.edd_oracle.specs.Inside.Cover.{IsServedStart, AreWindows}

-- the windows, and where the one made last begins
pub record AreWindowsFrom (served : List Served) (steps : List Step) (passed : List ℕ) (left : ℕ) (cover : List Window) (start : ℕ) : Type 0 where
  pub windows : AreWindows served steps passed left cover
  pub none : length cover ≡ 0 → start ≡ 18446744073709551615
  pub last : (e : Window) → 0 < length cover → (get_or cover (length cover - 1) e).from ≡ start

-- the next due round lies in the window made last
pub same_windows : (served : List Served) (steps : List Step) (passed : List ℕ) (left left' : ℕ) (cover : List Window) (start : ℕ) → IsNonDecreasingBy (λ x. x) passed → AreWindowsFrom served steps passed left cover start → left' + 1 ≡ left → left ≤ length passed → start ≤ get_or passed left' 0 + 1 → get_or passed left' 0 < 2199023255552 → AreWindowsFrom served steps passed left' cover start
same_windows served steps passed left left' cover start rising so_far next within near small =
    let some : 0 < length cover =
    elim (cases_lt 0 (length cover)) [
      | inl some ↦ some
      | inr none ↦ absurd (omega (arith, so_far.none (omega arith)))
    ] in
    let i : ℕ = length cover - 1 in
    record {
      windows = record {
        each = so_far.windows.each;
        dues = λ k e h.
            let there = so_far.windows.dues k e h in
            (there.0, omega (arith, there.1), there.2, there.3);
        falls = so_far.windows.falls;
        reached = λ j low high.
            elim (cases_eq j left') [
              | inr other ↦ so_far.windows.reached j (omega arith) high
              | inl here ↦ (
                i,
                omega arith,
                λ e.
                    let there = so_far.windows.dues i e (omega arith) in
                    let up : get_or passed left' 0 ≤ get_or passed there.0 0 = rising left' there.0 0 (omega (arith, there.1)) there.2 in
                    let at : get_or passed j 0 ≡ get_or passed left' 0 = ap (λ n. get_or passed n 0) here in
                    (omega (arith, so_far.last e some), omega (arith, there.3)),
              )
            ];
      };
      none = so_far.none;
      last = so_far.last;
    }

-- a window for the next due round
pub more_windows : (served : List Served) (steps : List Step) (passed : List ℕ) (left left' : ℕ) (cover new : List Window) (start : ℕ) (w : Window) → AreWindowsFrom served steps passed left cover start → left' + 1 ≡ left → left ≤ length passed → w.due ≡ get_or passed left' 0 → w.due + 1 < start → IsServedStart served steps w.due w.from → new ≡ cover ++ w ∷ [] → AreWindowsFrom served steps passed left' new w.from
more_windows served steps passed left left' cover new start w so_far next within is_due apart is_start is_new =
    let n : ℕ = length cover in
    let long : length (cover ++ w ∷ []) ≡ n + 1 = length-append cover (w ∷ []) in
    let old : (i : ℕ) (e : Window) → i < n → get_or (cover ++ w ∷ []) i e ≡ get_or cover i e = λ i e h. get_or_append_left cover (w ∷ []) e i h in
    let here : (i : ℕ) (e : Window) → i ≡ n → get_or (cover ++ w ∷ []) i e ≡ w =
    λ i e same. let at : i ≡ n + 0 = omega arith in ap (λ k. get_or (cover ++ w ∷ []) k e) at ∙ get_or-append-add cover (w ∷ []) 0 e in
    subst (λ xs. AreWindowsFrom served steps passed left' xs w.from) (sym is_new) record {
      windows = record {
        each = λ i e h.
            elim (cases_lt i n) [
              | inl low ↦ subst (λ (v : Window). IsServedStart served steps v.due v.from) (sym (old i e low)) (so_far.windows.each i e low)
              | inr last ↦ subst (λ (v : Window). IsServedStart served steps v.due v.from) (sym (here i e (omega arith))) is_start
            ];
        dues = λ i e h.
            elim (cases_lt i n) [
              | inl low ↦
                  let there = so_far.windows.dues i e low in
                  (there.0, omega (arith, there.1), there.2, there.3 ∙ sym (ap (λ (v : Window). v.due) (old i e low)))
              | inr last ↦ (left', omega arith, omega arith, sym is_due ∙ sym (ap (λ (v : Window). v.due) (here i e (omega arith))))
            ];
        falls = λ i e h.
            elim (cases_lt (i + 1) n) [
              | inl low ↦
                  let one : (get_or (cover ++ w ∷ []) (i + 1) e).due ≡ (get_or cover (i + 1) e).due = ap (λ (v : Window). v.due) (old (i + 1) e low) in
                  let two : (get_or (cover ++ w ∷ []) i e).from ≡ (get_or cover i e).from = ap (λ (v : Window). v.from) (old i e (omega arith)) in
                  omega (arith, so_far.windows.falls i e low)
              | inr last ↦
                  let one : (get_or (cover ++ w ∷ []) (i + 1) e).due ≡ w.due = ap (λ (v : Window). v.due) (here (i + 1) e (omega arith)) in
                  let two : (get_or (cover ++ w ∷ []) i e).from ≡ (get_or cover i e).from = ap (λ (v : Window). v.from) (old i e (omega arith)) in
                  let at : i ≡ n - 1 = omega arith in
                  let three : (get_or cover i e).from ≡ (get_or cover (n - 1) e).from = ap (λ k. (get_or cover k e).from) at in
                  omega (arith, so_far.last e (omega arith))
            ];
        reached = λ j low high.
            elim (cases_eq j left') [
              | inl at ↦ (
                n,
                omega arith,
                λ e.
                    let one : (get_or (cover ++ w ∷ []) n e).due ≡ w.due = ap (λ (v : Window). v.due) (here n e refl) in
                    let two : (get_or (cover ++ w ∷ []) n e).from ≡ w.from = ap (λ (v : Window). v.from) (here n e refl) in
                    let three : get_or passed j 0 ≡ get_or passed left' 0 = ap (λ k. get_or passed k 0) at in
                    (omega (arith, is_start.before), omega arith),
              )
              | inr other ↦
                  let there = so_far.windows.reached j (omega arith) high in (
                    there.0,
                    omega (arith, there.1),
                    λ e.
                        let one : (get_or (cover ++ w ∷ []) there.0 e).due ≡ (get_or cover there.0 e).due = ap (λ (v : Window). v.due) (old there.0 e there.1) in
                        let two : (get_or (cover ++ w ∷ []) there.0 e).from ≡ (get_or cover there.0 e).from = ap (λ (v : Window). v.from) (old there.0 e there.1) in
                        let known = there.2 e in
                        (omega (arith, known.0), omega (arith, known.1)),
                  )
            ];
      };
      none = λ h. absurd (omega arith);
      last = λ e h.
          let at : length (cover ++ w ∷ []) - 1 ≡ n = omega arith in
          ap (λ (v : Window). v.from) (here (length (cover ++ w ∷ []) - 1) e at);
    }
