-- The stack of open windows, and what it answers.
use Rattle.std.proofs.Common.{◌≡◌, ◌<◌, ◌≤◌, ℕ, ◌+◌, ◌-◌, cond, nat_le, nat_lt, List, [], ◌∷◌, ◌++◌, length, get_or, take, map, set, Option, Some, None, ◌⊎◌, inl, inr, arith, refl, ap, sym, ◌∙◌, subst, get_or-set_other, get_or-set_same, length-set}
use Rattle.std.specs.List.{All, Contains, zip}
use Rattle.std.specs.List.Sorted.{IsNonDecreasingBy, IsPermutation}
use Rattle.std.proofs.lemmas.List.{get_or_default, get_or-map, length-map}
use Rattle.std.proofs.lemmas.List.Sorted.{All-permutation, Contains-permutation}
use Rattle.std.proofs.lemmas.Bool.{cases_lt, cases_eq, cond-true, cond-false, le-leb, lt-leb, lt-ltb, le-ltb}
use Rattle.edd_commands.specs.declared.Command.{Command}
use Rattle.edd_check.specs.declared.Window.{Window}
use Rattle.edd_oracle.proofs.Pairs.{nobody, pair_at, length_pairs}
use Rattle.edd_verdict.specs.declared.Verdict.{Verdict}
use Rattle.edd_verdict.specs.declared.Verdict.TheVariants.{Arrival, Spare, Full}
use Rattle.edd_verdict.specs.declared.around.Ask.{Ask}
use Rattle.edd_verdict.specs.Filled.{IsAround}
use Rattle.edd_verdict.specs.Verdicts.{IsLate, CanBeOnTime}
use Rattle.edd_verdict.specs.Inside.Open.{EndsRise, EndsFall, IsBeginPlace, AreOpen, IsEntered, IsInnermost, IsAsk, AreAsked, IsJudged, first_verdict_of}
use Rattle.edd_verdict.proofs.Sweeping.{pushed_old, pushed_new, pushed_long, taken_long, taken_at}

-- nothing is open at the end
pub none_open : (windows : List Window) (left : ℕ) (opened : List Window) → opened ≡ [] → left ≡ length windows → AreOpen windows left opened
none_open windows left opened none all =
    subst (λ xs. AreOpen windows left xs) (sym none) record {
      each = λ j e h. absurd (omega arith);
      begins = λ i j e lt h. absurd (omega arith);
      ends = λ i j e lt h. absurd (omega arith);
      all = λ i e low h. absurd (omega arith);
    }

-- one more window opens, and those that begin no sooner close
pub one_opened : (windows : List Window) (left left' m : ℕ) (opened new : List Window) (w : Window) → EndsRise windows → left ≤ length windows → left' + 1 ≡ left → AreOpen windows left opened → ((e : Window) → get_or windows left' e ≡ w) → IsBeginPlace opened w.from m → new ≡ take m opened ++ w ∷ [] → AreOpen windows left' new
one_opened windows left left' m opened new w rising within next so_far is_w at is =
    let kept : List Window = take m opened in
    let all : List Window = kept ++ w ∷ [] in
    let short : length kept ≡ m = taken_long opened m at.within in
    let long : length all ≡ m + 1 = pushed_long kept w ∙ ap (λ k. k + 1) short in
    let old : (j : ℕ) (e : Window) → j < m → get_or all j e ≡ get_or opened j e = λ j e h. pushed_old kept w j e (omega (arith, short)) ∙ taken_at opened m j e h in
    let last : (j : ℕ) (e : Window) → j ≡ m → get_or all j e ≡ w = λ j e h. pushed_new kept w j e (h ∙ sym short) in
    let sooner : (j : ℕ) (e : Window) → j < length opened → w.due < (get_or opened j e).due =
    λ j e h.
    let there = so_far.each j e h in
    omega (arith, rising left' there.0 e (omega (arith, there.1)) there.2, ap (λ (v : Window). v.due) (is_w e), ap (λ (v : Window). v.due) there.3) in
    subst (λ xs. AreOpen windows left' xs) (sym is) record {
      each = λ j e h.
          elim (cases_lt j m) [
            | inl low ↦
                let there = so_far.each j e (omega (arith, at.within)) in
                (there.0, omega (arith, there.1), there.2, old j e low ∙ there.3)
            | inr high ↦ (left', omega arith, omega arith, last j e (omega (arith, long)) ∙ sym (is_w e))
          ];
      begins = λ i j e lt h.
          elim (cases_lt j m) [
            | inl low ↦ omega (arith, so_far.begins i j e lt (omega (arith, at.within)), ap (λ (v : Window). v.from) (old i e (omega arith)), ap (λ (v : Window). v.from) (old j e low))
            | inr high ↦ omega (arith, at.before i e (omega (arith, long)), ap (λ (v : Window). v.from) (old i e (omega (arith, long))), ap (λ (v : Window). v.from) (last j e (omega (arith, long))))
          ];
      ends = λ i j e lt h.
          elim (cases_lt j m) [
            | inl low ↦ omega (arith, so_far.ends i j e lt (omega (arith, at.within)), ap (λ (v : Window). v.due) (old i e (omega arith)), ap (λ (v : Window). v.due) (old j e low))
            | inr high ↦ omega (arith, sooner i e (omega (arith, long, at.within)), ap (λ (v : Window). v.due) (old i e (omega (arith, long))), ap (λ (v : Window). v.due) (last j e (omega (arith, long))))
          ];
      all = λ i e low h.
          elim (cases_eq i left') [
            | inl here ↦
                let same : get_or windows i e ≡ w = ap (λ k. get_or windows k e) here ∙ is_w e in
                (m, omega (arith, long), omega (arith, ap (λ (v : Window). v.from) same, ap (λ (v : Window). v.from) (last m e refl)), omega (arith, ap (λ (v : Window). v.due) same, ap (λ (v : Window). v.due) (last m e refl)))
            | inr other ↦
                let there = so_far.all i e (omega arith) h in
                elim (cases_lt there.0 m) [
                  | inl stays ↦ (there.0, omega (arith, long), omega (arith, there.2, ap (λ (v : Window). v.from) (old there.0 e stays)), omega (arith, there.3, ap (λ (v : Window). v.due) (old there.0 e stays)))
                  | inr gone ↦ (m, omega (arith, long), omega (arith, there.2, at.after there.0 e gone there.1, ap (λ (v : Window). v.from) (last m e refl)), omega (arith, there.3, sooner there.0 e there.1, ap (λ (v : Window). v.due) (last m e refl)))
                ]
          ];
    }

-- once the next one ends before the round
pub entered : (windows : List Window) (left now round : ℕ) → EndsRise windows → now ≤ left → left ≤ length windows → ((i : ℕ) (e : Window) → now ≤ i → i < left → round ≤ (get_or windows i e).due) → ((e : Window) → 0 < now → (get_or windows (now - 1) e).due < round) → IsEntered windows now left round
entered windows left now round rising low within later next =
    record {
      sooner = λ i e h.
          elim (cases_eq i (now - 1)) [
            | inl last ↦ omega (arith, next e (omega arith), ap (λ k. (get_or windows k e).due) last)
            | inr before ↦ omega (arith, next e (omega arith), rising i (now - 1) e (omega arith) (omega arith))
          ];
      later = later;
    }

-- the last that begins by the round
pub innermost_here : (opened : List Window) (round m : ℕ) (w : Window) → EndsFall opened → IsBeginPlace opened (round + 1) m → 0 < m → ((e : Window) → get_or opened (m - 1) e ≡ w) → IsInnermost opened round w
innermost_here opened round m w ends at some is =
    record {
      place = m - 1;
      within = omega (arith, at.within);
      here = is;
      begins = omega (arith, at.before (m - 1) w (omega arith), ap (λ (v : Window). v.from) (is w));
      first = λ j e h begins.
          elim (cases_lt j m) [
            | inr later ↦ absurd (omega (arith, at.after j e later h))
            | inl low ↦
                elim (cases_eq j (m - 1)) [
                  | inl last ↦ omega (arith, ap (λ (v : Window). v.due) (is e), ap (λ k. (get_or opened k e).due) last)
                  | inr before ↦ omega (arith, ends j (m - 1) e (omega arith) (omega (arith, at.within)), ap (λ (v : Window). v.due) (is e))
                ]
          ];
    }

-- ---- those that are asked for

pub record AreAsks (commands : List Command) (rounds : List ℕ) (n : ℕ) (asks : List Ask) : Type 0 where
  pub each : All (IsAsk commands rounds) asks
  pub all : AreAsked commands rounds n asks

pub no_asks : (commands : List Command) (rounds : List ℕ) (asks : List Ask) → asks ≡ [] → AreAsks commands rounds 0 asks
no_asks commands rounds asks none =
    subst (λ xs. AreAsks commands rounds 0 xs) (sym none) record { each = λ i e h. absurd (omega arith); all = λ k h. absurd (omega arith) }

-- the command at place n is asked for
pub more_asks : (commands : List Command) (rounds : List ℕ) (n : ℕ) (asks new : List Ask) (a : Ask) → AreAsks commands rounds n asks → IsAsk commands rounds a → a.place ≡ n → new ≡ asks ++ a ∷ [] → AreAsks commands rounds (n + 1) new
more_asks commands rounds n asks new a so_far is_ask is_n is =
    let all : List Ask = asks ++ a ∷ [] in
    let long : length all ≡ length asks + 1 = pushed_long asks a in
    subst (λ xs. AreAsks commands rounds (n + 1) xs) (sym is) record {
      each = λ i e h.
          elim (cases_lt i (length asks)) [
            | inl low ↦ subst (λ (b : Ask). IsAsk commands rounds b) (sym (pushed_old asks a i e low)) (so_far.each i e low)
            | inr last ↦ subst (λ (b : Ask). IsAsk commands rounds b) (sym (pushed_new asks a i e (omega (arith, long)))) is_ask
          ];
      all = λ k h late can.
          elim (cases_eq k n) [
            | inl here ↦ (length asks, omega (arith, long), λ e. ap (λ (b : Ask). b.place) (pushed_new asks a (length asks) e refl) ∙ is_n ∙ sym here)
            | inr other ↦
                let there = so_far.all k (omega arith) late can in
                (there.0, omega (arith, there.1, long), λ e. ap (λ (b : Ask). b.place) (pushed_old asks a there.0 e there.1) ∙ there.2 e)
          ];
    }

-- it is late, and released by its due round
pub ask_here : (commands : List Command) (rounds : List ℕ) (n : ℕ) (d : Command) → n < length commands → (get_or commands n d).due < get_or rounds n 0 → (get_or commands n d).release ≤ (get_or commands n d).due → IsAsk commands rounds (record { release = (get_or commands n d).release; due = (get_or commands n d).due; place = n })
ask_here commands rounds n d within late can =
    let own : (e : Command) → get_or commands n e ≡ get_or commands n d = λ e. get_or_default commands n e d within in
    record {
      within = within;
      late = λ e. omega (arith, ap (λ (c : Command). c.due) (own e));
      can = λ e. omega (arith, ap (λ (c : Command). c.due) (own e), ap (λ (c : Command). c.release) (own e));
      is_release = λ e. ap (λ (c : Command). c.release) (own e);
      is_due = λ e. ap (λ (c : Command). c.due) (own e);
    }

-- it isn't
pub same_asks : (commands : List Command) (rounds : List ℕ) (n : ℕ) (asks : List Ask) (d : Command) → AreAsks commands rounds n asks → ((get_or rounds n 0 ≤ (get_or commands n d).due) ⊎ ((get_or commands n d).due < (get_or commands n d).release)) → AreAsks commands rounds (n + 1) asks
same_asks commands rounds n asks d so_far none =
    record {
      each = so_far.each;
      all = λ k h late can.
          elim (cases_eq k n) [
            | inr other ↦ so_far.all k (omega arith) late can
            | inl here ↦
                let late' : (get_or commands n d).due < get_or rounds n 0 = subst (λ i. (get_or commands i d).due < get_or rounds i 0) here (late d) in
                let can' : (get_or commands n d).release ≤ (get_or commands n d).due = subst (λ i. (get_or commands i d).release ≤ (get_or commands i d).due) here (can d) in
                elim none [ inl on_time ↦ absurd (omega arith) | inr arrival ↦ absurd (omega arith) ]
          ];
    }

pub asks_in_order : (commands : List Command) (rounds : List ℕ) (n : ℕ) (asks sorted : List Ask) → AreAsks commands rounds n asks → IsPermutation asks sorted → AreAsks commands rounds n sorted
asks_in_order commands rounds n asks sorted are moved =
    record {
      each = All-permutation (IsAsk commands rounds) asks sorted moved are.each;
      all = λ k h late can.
          let there = are.all k h late can in
          let e : Ask = record { release = 0; due = 0; place = 0 } in
          let a : Ask = get_or asks there.0 e in
          let found : Contains sorted a = Contains-permutation asks sorted a moved (there.0, there.1, get_or_default asks there.0 a e there.1) in
          (found.0, found.1, λ d. ap (λ (b : Ask). b.place) (get_or_default sorted found.0 d a found.1 ∙ found.2) ∙ there.2 e);
    }

-- ---- the answers

-- as it is before any window is known
pub first_at : (commands : List Command) (rounds : List ℕ) (verdicts : List (Option Verdict)) (k : ℕ) → length rounds ≡ length commands → verdicts ≡ map (λ p. first_verdict_of p) (zip commands rounds) → k < length commands → get_or verdicts k None ≡ first_verdict_of (get_or commands k nobody, get_or rounds k 0)
first_at commands rounds verdicts k same is within =
    ap (λ xs. get_or xs k None) is
    ∙ get_or-map (λ p. first_verdict_of p) (zip commands rounds) k (nobody, 0) None (omega (arith, length_pairs commands rounds same))
    ∙ ap (λ (p : Command × ℕ). first_verdict_of p) (pair_at commands rounds k (nobody, 0) nobody 0 same within)

-- judged already, or spare so far and still to be asked for
abbrev pub IsPending : List Command → List ℕ → List Window → List Ask → ℕ → ℕ → Option Verdict → Type 0
IsPending commands rounds windows asks next k v =
    IsJudged commands rounds windows k v ⊎ ((v ≡ Some Spare) × ((i : ℕ) × (i < next) × (i < length asks) × ((e : Ask) → (get_or asks i e).place ≡ k)))

-- the answers while the asks from place `next` on are answered, by the windows from place `left` on
pub record ArePending (commands : List Command) (rounds : List ℕ) (windows : List Window) (asks : List Ask) (next left : ℕ) (opened : List Window) (verdicts : List (Option Verdict)) : Type 0 where
  pub one_each : length verdicts ≡ length commands
  pub each : (k : ℕ) → k < length commands → IsPending commands rounds windows asks next k (get_or verdicts k None)
  pub within : next ≤ length asks
  pub left_in : left ≤ length windows
  pub are : AreOpen windows left opened
  pub ready : (i q : ℕ) (e : Window) (a : Ask) → left ≤ i → i < length windows → q < next → (get_or asks q a).due ≤ (get_or windows i e).due

pub pending_first : (commands : List Command) (rounds : List ℕ) (windows : List Window) (asks : List Ask) (opened : List Window) (verdicts : List (Option Verdict)) → length rounds ≡ length commands → verdicts ≡ map (λ p. first_verdict_of p) (zip commands rounds) → AreAsked commands rounds (length commands) asks → opened ≡ [] → ArePending commands rounds windows asks (length asks) (length windows) opened verdicts
pending_first commands rounds windows asks opened verdicts same is asked none =
    record {
      one_each = ap (λ xs. length xs) is ∙ length-map (zip commands rounds) (λ p. first_verdict_of p) ∙ length_pairs commands rounds same;
      each = λ k h.
          let c : Command = get_or commands k nobody in
          let x : ℕ = get_or rounds k 0 in
          let v = first_at commands rounds verdicts k same is h in
          let own : (d : Command) → get_or commands k d ≡ c = λ d. get_or_default commands k d nobody h in
          let P : Option Verdict → Type 0 = λ u. IsPending commands rounds windows asks (length asks) k u in
          elim (cases_lt c.due x) [
            | inr on_time ↦
                let is_none : get_or verdicts k None ≡ None = v ∙ cond-true (nat_le x c.due) None (cond (nat_lt c.due c.release) (Some Arrival) (Some Spare)) (le-leb x c.due on_time) in
                subst P (sym is_none) (inl (λ d. subst (λ (b : Command). x ≤ b.due) (sym (own d)) on_time))
            | inl late ↦
                let late_is : IsLate commands rounds k = λ d. subst (λ (b : Command). b.due < x) (sym (own d)) late in
                let after : get_or verdicts k None ≡ cond (nat_lt c.due c.release) (Some Arrival) (Some Spare) = v ∙ cond-false (nat_le x c.due) None (cond (nat_lt c.due c.release) (Some Arrival) (Some Spare)) (lt-leb x c.due late) in
                elim (cases_lt c.due c.release) [
                  | inl early ↦
                      let is_arrival : get_or verdicts k None ≡ Some Arrival = after ∙ cond-true (nat_lt c.due c.release) (Some Arrival) (Some Spare) (lt-ltb c.due c.release early) in
                      subst P (sym is_arrival) (inl (late_is, λ d. subst (λ (b : Command). b.due < b.release) (sym (own d)) early))
                  | inr timely ↦
                      let is_spare : get_or verdicts k None ≡ Some Spare = after ∙ cond-false (nat_lt c.due c.release) (Some Arrival) (Some Spare) (le-ltb c.due c.release timely) in
                      let there = asked k h late_is (λ d. subst (λ (b : Command). b.release ≤ b.due) (sym (own d)) timely) in
                      inr (is_spare, (there.0, there.1, there.1, there.2))
                ]
          ];
      within = omega arith;
      left_in = omega arith;
      are = none_open windows (length windows) opened none refl;
      ready = λ i q e a low h before. absurd (omega arith);
    }

module _ (commands : List Command) (rounds : List ℕ) (windows : List Window) (asks : List Ask) (asked : All (IsAsk commands rounds) asks) (rising : EndsRise windows) (order : IsNonDecreasingBy (λ a. a.due) asks) where
  module _ (next next' left left' : ℕ) (opened opened' : List Window) (verdicts : List (Option Verdict)) (a : Ask) (so_far : ArePending commands rounds windows asks next left opened verdicts) (step : next' + 1 ≡ next) (is_a : (e : Ask) → get_or asks next' e ≡ a) (are : AreOpen windows left' opened') (entered_is : IsEntered windows left' left a.due) (low : left' ≤ left) where
    in_asks : next' < length asks
    in_asks = omega (arith, so_far.within)

    is_ask : IsAsk commands rounds a
    is_ask = subst (λ (b : Ask). IsAsk commands rounds b) (is_a a) (asked next' a in_asks)

    ready_still : (i q : ℕ) (e : Window) (b : Ask) → left' ≤ i → i < length windows → q < next' → (get_or asks q b).due ≤ (get_or windows i e).due
    ready_still i q e b from h before =
        elim (cases_lt i left) [
          | inl new ↦ omega (arith, order q next' b (omega arith) in_asks, ap (λ (c : Ask). c.due) (is_a b), entered_is.later i e from new)
          | inr old ↦ so_far.ready i q e b old h (omega arith)
        ]

    -- a window around it is open, or lies in an open one on its right
    opened_by : (i : ℕ) (e : Window) → i < length windows → IsAround commands (get_or windows i e) a.place → (j : ℕ) × (j < length opened') × ((get_or opened' j e).from ≤ a.release) × ((get_or opened' j e).due ≤ (get_or windows i e).due)
    opened_by i e h around =
        elim (cases_lt i left') [
          | inl sooner ↦ absurd (omega (arith, entered_is.sooner i e sooner, around.ends nobody, is_ask.is_due nobody))
          | inr from ↦
              let there = are.all i e from h in
              (there.0, there.1, omega (arith, there.2, around.begins nobody, is_ask.is_release nobody), there.3)
        ]

    -- the open windows end no sooner than it is due
    opened_due : (j : ℕ) (e : Window) → j < length opened' → a.due ≤ (get_or opened' j e).due
    opened_due j e h =
        let there = are.each j e h in
        let same : (get_or opened' j e).due ≡ (get_or windows there.0 e).due = ap (λ (v : Window). v.due) there.3 in
        elim (cases_lt there.0 left) [
          | inl new ↦ omega (arith, entered_is.later there.0 e there.1 new)
          | inr old ↦ omega (arith, so_far.ready there.0 next' e a old there.2 (omega arith), ap (λ (c : Ask). c.due) (is_a a))
        ]

    -- no window is around it
    pub pending_none : ((j : ℕ) (e : Window) → j < length opened' → a.release < (get_or opened' j e).from) → ArePending commands rounds windows asks next' left' opened' verdicts
    pending_none none =
        record {
          one_each = so_far.one_each;
          each = λ k h.
              elim (so_far.each k h) [
                | inl judged ↦ inl judged
                | inr waits ↦
                    elim (cases_eq waits.1.0 next') [
                      | inr other ↦ inr (waits.0, (waits.1.0, omega (arith, waits.1.1), waits.1.2, waits.1.3))
                      | inl here ↦
                          let own : a.place ≡ k = ap (λ (c : Ask). c.place) (sym (is_a a)) ∙ ap (λ i. (get_or asks i a).place) (sym here) ∙ waits.1.3 a in
                          let late : IsLate commands rounds k = subst (λ i. IsLate commands rounds i) own is_ask.late in
                          let can : CanBeOnTime commands k = subst (λ i. CanBeOnTime commands i) own is_ask.can in
                          let apart : (i : ℕ) (e : Window) → i < length windows → IsAround commands (get_or windows i e) k → ⊥ =
                          λ i e i_in around.
                          let there = opened_by i e i_in (subst (λ q. IsAround commands (get_or windows i e) q) (sym own) around) in
                          omega (arith, none there.0 e there.1, there.2) in
                          inl (subst (λ u. IsJudged commands rounds windows k u) (sym waits.0) (late, can, apart))
                    ]
              ];
          within = omega (arith, so_far.within);
          left_in = omega (arith, so_far.left_in);
          are = are;
          ready = ready_still;
        }

    -- this one is the first
    pub pending_full : (w : Window) (new : List (Option Verdict)) → IsInnermost opened' a.release w → new ≡ set verdicts a.place (Some (Full w)) → ArePending commands rounds windows asks next' left' opened' new
    pending_full w new inner is =
        let there = are.each inner.place w inner.within in
        let is_w : (e : Window) → get_or windows there.0 e ≡ w = λ e. get_or_default windows there.0 e w there.2 ∙ sym there.3 ∙ inner.here w in
        let full : IsJudged commands rounds windows a.place (Some (Full w)) = (
          is_ask.late,
          is_ask.can,
          record {
            place = there.0;
            within = there.2;
            here = is_w;
            around = record {
              begins = λ d. omega (arith, inner.begins, is_ask.is_release d);
              ends = λ d. omega (arith, opened_due inner.place w inner.within, ap (λ (v : Window). v.due) (inner.here w), is_ask.is_due d);
            };
            first = λ j e h around.
                let by = opened_by j e h around in
                omega (arith, inner.first by.0 e by.1 by.2, by.3);
          },
        ) in
        let in_list : a.place < length verdicts = omega (arith, is_ask.within, so_far.one_each) in
        subst (λ xs. ArePending commands rounds windows asks next' left' opened' xs) (sym is) record {
          one_each = length-set verdicts a.place (Some (Full w)) ∙ so_far.one_each;
          each = λ k h.
              elim (cases_eq k a.place) [
                | inl here ↦
                    inl (subst (λ i. IsJudged commands rounds windows i (get_or (set verdicts a.place (Some (Full w))) i None)) (sym here)
                    (subst (λ u. IsJudged commands rounds windows a.place u) (sym (get_or-set_same verdicts a.place (Some (Full w)) None in_list)) full))
                | inr other ↦
                    let same : get_or (set verdicts a.place (Some (Full w))) k None ≡ get_or verdicts k None = get_or-set_other verdicts a.place k (Some (Full w)) None other in
                    subst (λ u. IsPending commands rounds windows asks next' k u) (sym same)
                    (elim (so_far.each k h) [
                      | inl judged ↦ inl judged
                      | inr waits ↦
                          elim (cases_eq waits.1.0 next') [
                            | inr later ↦ inr (waits.0, (waits.1.0, omega (arith, waits.1.1), waits.1.2, waits.1.3))
                            | inl here ↦ absurd (other (sym (waits.1.3 a) ∙ ap (λ i. (get_or asks i a).place) here ∙ ap (λ (c : Ask). c.place) (is_a a)))
                          ]
                    ])
              ];
          within = omega (arith, so_far.within);
          left_in = omega (arith, so_far.left_in);
          are = are;
          ready = ready_still;
        }
