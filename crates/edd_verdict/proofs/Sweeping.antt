-- The windows that end in full rounds, found in one pass over these with a stack of peaks.
use Rattle.std.proofs.Common.{◌≡◌, ◌<◌, ◌≤◌, ℕ, ◌+◌, ◌-◌, zero, suc, List, [], ◌∷◌, ◌++◌, length, get_or, take, inl, inr, arith, refl, ap, sym, ◌∙◌, subst}
use Rattle.std.proofs.lemmas.List.{get_or_default, get_or_append_left, get_or-append-add, length-append, length-take-le, get_or-take}
use Rattle.std.proofs.lemmas.Bool.{cases_lt, cases_eq, cases_order}
use Rattle.edd_check.specs.declared.Window.{Window}
use Rattle.edd_oracle.specs.declared.cover.Served.{Served}
use Rattle.edd_verdict.specs.Inside.Tight.{AreRising, IsFullBy, IsTight, AreTightBelow, AreTight, AreBarred, IsDuePlace}

-- one element more at the end
pub pushed_old : {X : Type 0} (xs : List X) (y : X) (i : ℕ) (e : X) → i < length xs → get_or (xs ++ y ∷ []) i e ≡ get_or xs i e
pushed_old xs y i e h = get_or_append_left xs (y ∷ []) e i h

pub pushed_new : {X : Type 0} (xs : List X) (y : X) (i : ℕ) (e : X) → i ≡ length xs → get_or (xs ++ y ∷ []) i e ≡ y
pushed_new xs y i e same =
    let at : i ≡ length xs + 0 = omega arith in
    ap (λ k. get_or (xs ++ y ∷ []) k e) at ∙ get_or-append-add xs (y ∷ []) 0 e

pub pushed_long : {X : Type 0} (xs : List X) (y : X) → length (xs ++ y ∷ []) ≡ length xs + 1
pushed_long xs y = length-append xs (y ∷ [])

-- the first m elements
pub taken_long : {X : Type 0} (xs : List X) (m : ℕ) → m ≤ length xs → length (take m xs) ≡ m
taken_long xs m h = length-take-le m xs h

pub taken_at : {X : Type 0} (xs : List X) (m i : ℕ) (e : X) → i < m → get_or (take m xs) i e ≡ get_or xs i e
taken_at xs m i e h = get_or-take m xs i e h

-- how far the pass has come: `next` is past the rounds of the first n, and not past the others
pub record IsReached (full : List Served) (n next : ℕ) : Type 0 where
  pub past : (i : ℕ) (e : Served) → i < n → i < length full → (get_or full i e).round < next
  pub ahead : (i : ℕ) (e : Served) → n ≤ i → i < length full → next ≤ (get_or full i e).round

module _ (full : List Served) (rising : AreRising full) where
  -- a round stands once
  once : (i j : ℕ) (e : Served) → i < length full → j < length full → (get_or full i e).round ≡ (get_or full j e).round → i ≡ j
  once i j e i_in j_in same =
      elim (cases_order i j) [
        | inl equal ↦ equal
        | inr other ↦ elim other [
          | inl before ↦ absurd (omega (arith, rising i j e before j_in))
          | inr after ↦ absurd (omega (arith, rising j i e after i_in))
        ]
      ]

  pub reached_more : (n next : ℕ) (e : Served) → IsReached full n next → n < length full → IsReached full (n + 1) ((get_or full n e).round + 1)
  reached_more n next e reached within =
      record {
        past = λ i d low h.
            elim (cases_eq i n) [
              | inl same ↦ omega (arith, ap (λ k. (get_or full k d).round) same, ap (λ (s : Served). s.round) (get_or_default full n d e within))
              | inr other ↦ omega (arith, rising i n e (omega arith) within, ap (λ (s : Served). s.round) (get_or_default full i d e h))
            ];
        ahead = λ i d low h. omega (arith, rising n i e (omega arith) h, ap (λ (s : Served). s.round) (get_or_default full i d e h));
      }

  -- across a gap nothing is full
  pub gap_barred : (n next : ℕ) (e : Served) (peaks : List Served) → IsReached full n next → n < length full → next < (get_or full n e).round → peaks ≡ record { round = (get_or full n e).round - 1; due = 18446744073709551615 } ∷ [] → AreBarred full (get_or full n e).round peaks
  gap_barred n next e peaks reached within gap is =
      let x : ℕ = (get_or full n e).round in
      let wall : Served = record { round = x - 1; due = 18446744073709551615 } in
      subst (λ xs. AreBarred full x xs) (sym is) record {
        barred = λ j. elim j as (λ (i : ℕ). (d : Served) → i < length (wall ∷ []) → ((get_or (wall ∷ []) i d).round < x) × ((b : ℕ) → b < (get_or (wall ∷ []) i d).due → IsFullBy full (get_or (wall ∷ []) i d).round b → ⊥)) [
          | zero ↦ λ d h. (
            omega arith,
            λ b low found.
                let i : ℕ = found.0 in
                let here : (get_or full i e).round ≡ x - 1 = (found.2 e).0 in
                elim (cases_lt i n) [
                  | inl before ↦ absurd (omega (arith, reached.past i e before found.1))
                  | inr after ↦
                      elim (cases_eq i n) [
                        | inl same ↦ absurd (omega (arith, ap (λ k. (get_or full k e).round) same))
                        | inr other ↦ absurd (omega (arith, rising n i e (omega arith) found.1))
                      ]
                ],
          )
          | suc i ↦ λ d h. absurd (omega arith)
        ];
        falls = λ i j d lt h. absurd (omega arith);
        clear = λ y b low high small covered. absurd (omega (arith, covered 0 wall (omega arith) (omega arith)));
      }

  pub crossed : (n next : ℕ) (e : Served) (peaks peaks' : List Served) → IsReached full n next → n < length full → AreBarred full next peaks → (next ≡ (get_or full n e).round → peaks' ≡ peaks) → (next < (get_or full n e).round → peaks' ≡ record { round = (get_or full n e).round - 1; due = 18446744073709551615 } ∷ []) → AreBarred full (get_or full n e).round peaks'
  crossed n next e peaks peaks' reached within barred same gap =
      elim (cases_eq next (get_or full n e).round) [
        | inl here ↦ subst (λ xs. AreBarred full (get_or full n e).round xs) (sym (same here)) (subst (λ k. AreBarred full k peaks) here barred)
        | inr other ↦ let before : next < (get_or full n e).round = omega (arith, reached.ahead n e (omega arith) within) in gap_barred n next e peaks' reached within before (gap before)
      ]

  -- the windows so far, across the gap
  pub gap_tight : (n next : ℕ) (e : Served) (windows : List Window) → IsReached full n next → n < length full → next ≤ (get_or full n e).round → AreTightBelow full next windows → AreTightBelow full (get_or full n e).round windows
  gap_tight n next e windows reached within low so_far =
      record {
        each = λ i d h. let at = so_far.each i d h in (at.0, omega (arith, at.1));
        all = λ b below found.
            elim (cases_lt found.0 n) [
              | inl before ↦ so_far.all b (omega (arith, reached.past found.0 e before found.1, (found.2 e).0)) found
              | inr after ↦
                  elim (cases_eq found.0 n) [
                    | inl same ↦ absurd (omega (arith, ap (λ k. (get_or full k e).round) same, (found.2 e).0))
                    | inr other ↦ absurd (omega (arith, rising n found.0 e (omega arith) found.1, (found.2 e).0))
                  ]
            ];
        rising = so_far.rising;
      }

  module _ (n : ℕ) (e : Served) (within : n < length full) (peaks : List Served) (m : ℕ) (barred : AreBarred full (get_or full n e).round peaks) (kept : IsDuePlace peaks (get_or full n e).due m) where
    abbrev x : ℕ
    x = (get_or full n e).round

    abbrev due : ℕ
    due = (get_or full n e).due

    abbrev left : List Served
    left = take m peaks

    long : length left ≡ m
    long = taken_long peaks m kept.within

    -- the round itself is full by its due round
    full_here : (b : ℕ) → due ≤ b → IsFullBy full x b
    full_here b low =
        (n, within, λ d. let same : get_or full n d ≡ get_or full n e = get_or_default full n d e within in (ap (λ (s : Served). s.round) same, omega (arith, ap (λ (s : Served). s.due) same)))

    -- and not sooner
    not_sooner : (b : ℕ) → b < due → IsFullBy full x b → ⊥
    not_sooner b low found =
        let same : found.0 ≡ n = once found.0 n e found.1 within (found.2 e).0 in
        omega (arith, (found.2 e).1, ap (λ k. (get_or full k e).due) same)

    -- what was taken off is due by then
    covers : (y b : ℕ) → y < x → x ≤ b → b < 18446744073709551615 → due ≤ b → ((j : ℕ) (d : Served) → j < m → y ≤ (get_or peaks j d).round → (get_or peaks j d).due ≤ b) → IsFullBy full y b
    covers y b low high small later over =
        barred.clear y b low high small
        (λ j d h after. elim (cases_lt j m) [
          | inl stays ↦ over j d stays after
          | inr gone ↦ omega (arith, kept.by_then j d gone h)
        ])

    -- where all that run in the round are due in it a window ends
    pub window_here : (w : Window) → due ≡ x → x < 2199023255552 → w.due ≡ x → ((m ≡ 0) → w.from ≡ 0) → ((d : Served) → 0 < m → w.from ≡ (get_or peaks (m - 1) d).round + 1) → IsTight full w
    window_here w is_due small ends begins after =
        let low : (d : Served) → 0 < m → (get_or peaks (m - 1) d).round < x = λ d some. (barred.barred (m - 1) d (omega (arith, kept.within))).0 in
        record {
          some = elim (cases_eq m 0) [
            | inl none ↦ omega (arith, begins none)
            | inr some ↦ omega (arith, after e (omega arith), low e (omega arith))
          ];
          filled = λ y from until.
              elim (cases_eq y x) [
                | inl same ↦ subst (λ k. IsFullBy full k w.due) (sym same) (full_here w.due (omega arith))
                | inr other ↦
                    covers y w.due (omega arith) (omega arith) (omega arith) (omega arith)
                    (λ j d h stays. elim (cases_eq j (m - 1)) [
                      | inl last ↦ absurd (omega (arith, after d (omega arith), ap (λ k. (get_or peaks k d).round) last))
                      | inr before ↦ absurd (omega (arith, after d (omega arith), (barred.falls j (m - 1) d (omega arith) (omega (arith, kept.within))).0))
                    ])
              ];
          first = elim (cases_eq m 0) [
            | inl none ↦ inl (begins none)
            | inr some ↦
                let at : w.from - 1 ≡ (get_or peaks (m - 1) e).round = omega (arith, after e (omega arith)) in
                inr (λ found. (barred.barred (m - 1) e (omega (arith, kept.within))).1 w.due (omega (arith, kept.after (m - 1) e (omega arith))) (subst (λ k. IsFullBy full k w.due) at found))
          ];
        }

    -- the peaks after it
    pub barred_window : (left' : List Served) → due ≡ x → left' ≡ take m peaks → AreBarred full (x + 1) left'
    barred_window left' is_due is =
        subst (λ xs. AreBarred full (x + 1) xs) (sym is) record {
          barred = λ j d h.
              let at : get_or left j d ≡ get_or peaks j d = taken_at peaks m j d (omega (arith, long)) in
              let old = barred.barred j d (omega (arith, long, kept.within)) in
              subst (λ (s : Served). (s.round < x + 1) × ((b : ℕ) → b < s.due → IsFullBy full s.round b → ⊥)) (sym at) (omega (arith, old.0), old.1);
          falls = λ i j d lt h.
              let one : get_or left i d ≡ get_or peaks i d = taken_at peaks m i d (omega (arith, long)) in
              let two : get_or left j d ≡ get_or peaks j d = taken_at peaks m j d (omega (arith, long)) in
              let old = barred.falls i j d lt (omega (arith, long, kept.within)) in
              (omega (arith, ap (λ (s : Served). s.round) one, ap (λ (s : Served). s.round) two, old.0), omega (arith, ap (λ (s : Served). s.due) one, ap (λ (s : Served). s.due) two, old.1));
          clear = λ y b low high small over.
              elim (cases_eq y x) [
                | inl same ↦ subst (λ k. IsFullBy full k b) (sym same) (full_here b (omega arith))
                | inr other ↦
                    covers y b (omega arith) (omega arith) small (omega arith)
                    (λ j d h after.
                    let at : get_or left j d ≡ get_or peaks j d = taken_at peaks m j d h in
                    let here : y ≤ (get_or left j d).round = omega (arith, ap (λ (s : Served). s.round) at) in
                    omega (arith, over j d (omega (arith, long)) here, ap (λ (s : Served). s.due) at))
              ];
        }

    pub barred_peak : (left' : List Served) (s : Served) → x < due → s ≡ get_or full n e → left' ≡ take m peaks ++ s ∷ [] → AreBarred full (x + 1) left'
    barred_peak left' s later is_s is =
        let all : List Served = left ++ s ∷ [] in
        let long' : length all ≡ m + 1 = pushed_long left s ∙ ap (λ k. k + 1) long in
        let old : (j : ℕ) (d : Served) → j < m → get_or all j d ≡ get_or peaks j d = λ j d h. pushed_old left s j d (omega (arith, long)) ∙ taken_at peaks m j d h in
        let new : (j : ℕ) (d : Served) → j ≡ m → get_or all j d ≡ get_or full n e = λ j d h. pushed_new left s j d (h ∙ sym long) ∙ is_s in
        subst (λ xs. AreBarred full (x + 1) xs) (sym is) record {
          barred = λ j d h.
              elim (cases_lt j m) [
                | inl low ↦
                    let before = barred.barred j d (omega (arith, kept.within)) in
                    subst (λ (t : Served). (t.round < x + 1) × ((b : ℕ) → b < t.due → IsFullBy full t.round b → ⊥)) (sym (old j d low)) (omega (arith, before.0), before.1)
                | inr last ↦
                    subst (λ (t : Served). (t.round < x + 1) × ((b : ℕ) → b < t.due → IsFullBy full t.round b → ⊥)) (sym (new j d (omega (arith, long')))) (omega arith, not_sooner)
              ];
          falls = λ i j d lt h.
              elim (cases_lt j m) [
                | inl low ↦
                    let one = old i d (omega arith) in
                    let two = old j d low in
                    let before = barred.falls i j d lt (omega (arith, kept.within)) in
                    (omega (arith, ap (λ (t : Served). t.round) one, ap (λ (t : Served). t.round) two, before.0), omega (arith, ap (λ (t : Served). t.due) one, ap (λ (t : Served). t.due) two, before.1))
                | inr last ↦
                    let one = old i d (omega (arith, long')) in
                    let two = new j d (omega (arith, long')) in
                    let low : i < m = omega (arith, long') in
                    (omega (arith, ap (λ (t : Served). t.round) one, ap (λ (t : Served). t.round) two, (barred.barred i d (omega (arith, kept.within))).0), omega (arith, ap (λ (t : Served). t.due) one, ap (λ (t : Served). t.due) two, kept.after i d low))
              ];
          clear = λ y b low high small over.
              let own : due ≤ b = let last = new m s refl in omega (arith, over m s (omega (arith, long')) (omega (arith, ap (λ (t : Served). t.round) last)), ap (λ (t : Served). t.due) last) in
              elim (cases_eq y x) [
                | inl same ↦ subst (λ k. IsFullBy full k b) (sym same) (full_here b own)
                | inr other ↦
                    covers y b (omega arith) (omega arith) small own
                    (λ j d h after.
                    let at = old j d h in
                    let here : y ≤ (get_or all j d).round = omega (arith, ap (λ (t : Served). t.round) at) in
                    omega (arith, over j d (omega (arith, long')) here, ap (λ (t : Served). t.due) at))
              ];
        }

    -- the windows after it
    pub tight_window : (windows new : List Window) (w : Window) → AreTightBelow full x windows → due ≡ x → IsTight full w → w.due ≡ x → new ≡ windows ++ w ∷ [] → AreTightBelow full (x + 1) new
    tight_window windows new w so_far is_due is_tight ends is =
        let all : List Window = windows ++ w ∷ [] in
        let long' : length all ≡ length windows + 1 = pushed_long windows w in
        subst (λ xs. AreTightBelow full (x + 1) xs) (sym is) record {
          each = λ i d h.
              elim (cases_lt i (length windows)) [
                | inl low ↦
                    let before = so_far.each i d low in
                    subst (λ (v : Window). IsTight full v × (v.due < x + 1)) (sym (pushed_old windows w i d low)) (before.0, omega (arith, before.1))
                | inr last ↦ subst (λ (v : Window). IsTight full v × (v.due < x + 1)) (sym (pushed_new windows w i d (omega (arith, long')))) (is_tight, omega arith)
              ];
          all = λ b below found.
              elim (cases_eq b x) [
                | inl here ↦ (length windows, omega (arith, long'), λ d. ap (λ (v : Window). v.due) (pushed_new windows w (length windows) d refl) ∙ ends ∙ sym here)
                | inr other ↦
                    let old = so_far.all b (omega arith) found in
                    (old.0, omega (arith, old.1, long'), λ d. ap (λ (v : Window). v.due) (pushed_old windows w old.0 d old.1) ∙ old.2 d)
              ];
          rising = λ i j d lt h.
              elim (cases_lt j (length windows)) [
                | inl low ↦ omega (arith, so_far.rising i j d lt low, ap (λ (v : Window). v.due) (pushed_old windows w i d (omega arith)), ap (λ (v : Window). v.due) (pushed_old windows w j d low))
                | inr last ↦ omega (arith, (so_far.each i d (omega (arith, long'))).1, ap (λ (v : Window). v.due) (pushed_old windows w i d (omega (arith, long'))), ap (λ (v : Window). v.due) (pushed_new windows w j d (omega (arith, long'))))
              ];
        }

    pub tight_peak : (windows : List Window) → AreTightBelow full x windows → x < due → AreTightBelow full (x + 1) windows
    tight_peak windows so_far later =
        record {
          each = λ i d h. let before = so_far.each i d h in (before.0, omega (arith, before.1));
          all = λ b below found.
              elim (cases_eq b x) [
                | inl here ↦ absurd (not_sooner b (omega arith) (subst (λ k. IsFullBy full k b) here found))
                | inr other ↦ so_far.all b (omega arith) found
              ];
          rising = so_far.rising;
        }

  -- once all are passed
  pub all_tight : (n next : ℕ) (windows : List Window) → IsReached full n next → length full ≤ n → AreTightBelow full next windows → AreTight full windows
  all_tight n next windows reached all so_far =
      record {
        each = λ i d h. (so_far.each i d h).0;
        all = λ b found.
            let d : Served = record { round = 0; due = 0 } in
            so_far.all b (omega (arith, (found.2 d).0, reached.past found.0 d (omega (arith, found.1)) found.1)) found;
        rising = so_far.rising;
      }

-- the last of the peaks that are left
left_last : (peaks rest : List Served) (m : ℕ) (e : Served) → rest ≡ take m peaks → m ≤ length peaks → 0 < m → get_or rest (length rest - 1) e ≡ get_or peaks (m - 1) e
left_last peaks rest m e is within some =
    let long : length rest ≡ m = ap (λ xs. length xs) is ∙ taken_long peaks m within in
    ap (λ k. get_or rest (k - 1) e) long ∙ ap (λ xs. get_or xs (m - 1) e) is ∙ taken_at peaks m (m - 1) e (omega arith)

pub begins_none : (peaks rest : List Served) (m start : ℕ) → rest ≡ take m peaks → m ≤ length peaks → (length rest ≡ 0 → start ≡ 0) → m ≡ 0 → start ≡ 0
begins_none peaks rest m start is within none empty =
    none (ap (λ xs. length xs) is ∙ taken_long peaks m within ∙ empty)

pub begins_some : (peaks rest : List Served) (m start : ℕ) → rest ≡ take m peaks → m ≤ length peaks → ((e : Served) → 0 < length rest → start ≡ (get_or rest (length rest - 1) e).round + 1) → (e : Served) → 0 < m → start ≡ (get_or peaks (m - 1) e).round + 1
begins_some peaks rest m start is within some e more =
    let long : length rest ≡ m = ap (λ xs. length xs) is ∙ taken_long peaks m within in
    some e (omega arith) ∙ ap (λ (s : Served). s.round + 1) (left_last peaks rest m e is within more)
