-- The window in which a command lies, and how many lie in each.
use Rattle.std.proofs.Common.{◌≡◌, ◌<◌, ◌≤◌, ◌+◌, ◌-◌, ◌==◌, ◌&&◌, ℕ, List, length, get_or, set, take, replicate, ◌++◌, Bool, true, false, cond, count_by, sym, refl, [], ◌∙◌, ap, subst, arith, inl, inr, eq-eqb, ne_eqb, nat_le}
use Rattle.std.proofs.lemmas.Bool.{and_from, and_left, and_right, le-leb, lt-leb, cases_eq, cases_lt}
use Rattle.std.proofs.lemmas.List.{get_or_default, get_or-set_same, get_or-set_other, length-take-le, take_all}
use Rattle.std.proofs.lemmas.List.Sums.{sum_by_more, count_by-le-length}
use Rattle.edd_commands.specs.declared.Command.{Command}
use Rattle.edd_check.specs.declared.Window.{Window}
use Rattle.edd_check.specs.OnTime.{can_be_on_time, lies_in, holds, inside_of, IsCover}
use Rattle.edd_check.proofs.Covers.{IsPlaced, cover_rises_to, lies_here}

later_apart : (c : Command) (w : Window) → c.release < w.from → can_be_on_time c && lies_in c w ≡ false
later_apart c w h =
    and_right (can_be_on_time c) (lies_in c w)
    (and_left (holds w c.release) (holds w c.due) (and_left (nat_le w.from c.release) (nat_le c.release w.due) (lt-leb w.from c.release h)))

sooner_apart : (c : Command) (w : Window) → w.due < c.release → can_be_on_time c && lies_in c w ≡ false
sooner_apart c w h =
    and_right (can_be_on_time c) (lies_in c w)
    (and_left (holds w c.release) (holds w c.due) (and_right (nat_le w.from c.release) (nat_le c.release w.due) (lt-leb c.release w.due h)))

short_apart : (c : Command) (w : Window) → w.due < c.due → can_be_on_time c && lies_in c w ≡ false
short_apart c w h =
    and_right (can_be_on_time c) (lies_in c w)
    (and_right (holds w c.release) (holds w c.due) (and_right (nat_le w.from c.due) (nat_le c.due w.due) (lt-leb c.due w.due h)))

-- a command that is released after its due round
pub not_on_time : (c : Command) (w : Window) → c.due < c.release → can_be_on_time c && lies_in c w ≡ false
not_on_time c w h = and_left (can_be_on_time c) (lies_in c w) (lt-leb c.release c.due h)

-- before the last window that begins by its release
before_apart : (c : Command) (cover : List Window) (place k : ℕ) (d : Window) → IsCover cover → IsPlaced c cover place → k < place - 1 → can_be_on_time c && lies_in c (get_or cover k d) ≡ false
before_apart c cover place k d is at low =
    sooner_apart c (get_or cover k d)
    (omega (arith, cover_rises_to cover k (place - 1) d is low (omega (arith, at.within)), at.begun (place - 1) d (omega arith)))

-- a command that lies in the last window that begins by its release lies in no other
pub lies_at : (c : Command) (cover : List Window) (place k : ℕ) (d e : Window) → IsCover cover → IsPlaced c cover place → c.release ≤ c.due → 0 < place → c.due ≤ (get_or cover (place - 1) e).due → k < length cover → can_be_on_time c && lies_in c (get_or cover k d) ≡ (k == (place - 1))
lies_at c cover place k d e is at can some long h =
    let last_in : place - 1 < length cover = omega (arith, at.within) in
    elim (cases_lt k place) [
      | inr past ↦ later_apart c (get_or cover k d) (at.later k d past h) ∙ sym (ne_eqb k (place - 1) (λ e. absurd (omega arith)))
      | inl low ↦
          elim (cases_eq k (place - 1)) [
            | inl last ↦
                let long' : c.due ≤ (get_or cover (place - 1) d).due = subst (λ (w : Window). c.due ≤ w.due) (get_or_default cover (place - 1) e d last_in) long in
                and_from (can_be_on_time c) (lies_in c (get_or cover k d)) (le-leb c.release c.due can)
                (lies_here c (get_or cover k d) can (at.begun k d low) (subst (λ n. c.due ≤ (get_or cover n d).due) (sym last) long'))
                ∙ sym (eq-eqb k (place - 1) last)
            | inr before ↦ before_apart c cover place k d is at (omega arith) ∙ sym (ne_eqb k (place - 1) before)
          ]
    ]

-- a command that doesn't lie there lies in none
pub lies_nowhere : (c : Command) (cover : List Window) (place k : ℕ) (d e : Window) → IsCover cover → IsPlaced c cover place → (0 < place → (get_or cover (place - 1) e).due < c.due) → k < length cover → can_be_on_time c && lies_in c (get_or cover k d) ≡ false
lies_nowhere c cover place k d e is at short h =
    elim (cases_lt k place) [
      | inr past ↦ later_apart c (get_or cover k d) (at.later k d past h)
      | inl low ↦
          let last_in : place - 1 < length cover = omega (arith, at.within) in
          elim (cases_eq k (place - 1)) [
            | inl last ↦
                let short' : (get_or cover (place - 1) d).due < c.due = subst (λ (w : Window). w.due < c.due) (get_or_default cover (place - 1) e d last_in) (short (omega arith)) in
                short_apart c (get_or cover k d) (subst (λ n. (get_or cover n d).due < c.due) (sym last) short')
            | inr before ↦ before_apart c cover place k d is at (omega arith)
          ]
    ]

-- one more command
pub inside_more : (commands : List Command) (w : Window) (i : ℕ) (e : Command) (b : Bool) → i < length commands → can_be_on_time (get_or commands i e) && lies_in (get_or commands i e) w ≡ b → inside_of (take (i + 1) commands) w ≡ inside_of (take i commands) w + cond b 1 0
unfolding inside_of
inside_more commands w i e b h is =
    sum_by_more (λ (c : Command). cond (can_be_on_time c && lies_in c w) 1 0) commands i e h ∙ ap (λ x. count_by (λ (c : Command). can_be_on_time c && lies_in c w) (take i commands) + cond x 1 0) is

pub none_inside : (w : Window) → inside_of [] w ≡ 0
unfolding inside_of
none_inside w = refl

-- the counts after one more command, which lies in the window at a place and in no other
pub counted_in : (commands : List Command) (cover : List Window) (counts : List ℕ) (i place k x : ℕ) (d : Window) (e : Command) → k < length cover → length counts ≡ length cover → place < length cover → i < length commands → x ≡ get_or counts place 0 + 1
    → get_or counts k 0 ≡ inside_of (take i commands) (get_or cover k d) → can_be_on_time (get_or commands i e) && lies_in (get_or commands i e) (get_or cover k d) ≡ (k == place)
    → get_or (set counts place x) k 0 ≡ inside_of (take (i + 1) commands) (get_or cover k d)
counted_in commands cover counts i place k x d e h long within low is old lies =
    elim (cases_eq k place) [
      | inl same ↦
          let more : inside_of (take (i + 1) commands) (get_or cover k d) ≡ inside_of (take i commands) (get_or cover k d) + 1 = inside_more commands (get_or cover k d) i e true low (lies ∙ eq-eqb k place same) in
          let here : get_or (set counts place x) k 0 ≡ x = ap (λ n. get_or (set counts place x) n 0) same ∙ get_or-set_same counts place x 0 (omega arith) in
          let was : get_or counts k 0 ≡ get_or counts place 0 = ap (λ n. get_or counts n 0) same in
          omega (arith, more, here, was, is, old)
      | inr other ↦
          let more : inside_of (take (i + 1) commands) (get_or cover k d) ≡ inside_of (take i commands) (get_or cover k d) + 0 = inside_more commands (get_or cover k d) i e false low (lies ∙ ne_eqb k place other) in
          let here : get_or (set counts place x) k 0 ≡ get_or counts k 0 = get_or-set_other counts place k x 0 other in
          omega (arith, more, here, old)
    ]

-- a command that lies in none
pub counted_out : (commands : List Command) (w : Window) (i n : ℕ) (e : Command) → i < length commands → n ≡ inside_of (take i commands) w → can_be_on_time (get_or commands i e) && lies_in (get_or commands i e) w ≡ false → n ≡ inside_of (take (i + 1) commands) w
counted_out commands w i n e low old lies =
    let more : inside_of (take (i + 1) commands) w ≡ inside_of (take i commands) w + 0 = inside_more commands w i e false low lies in
    omega (arith, more, old)

-- no more commands lie in a window than there are
pub inside_few : (commands : List Command) (w : Window) (i : ℕ) → i ≤ length commands → inside_of (take i commands) w ≤ length commands
unfolding inside_of
inside_few commands w i h =
    let few = count_by-le-length (λ (c : Command). can_be_on_time c && lies_in c w) (take i commands) in
    let long : length (take i commands) ≡ i = length-take-le i commands h in
    omega (arith, few, long)

-- an empty list that is filled up with zeros
pub zeros_of : (n : ℕ) (xs : List ℕ) (m : ℕ) → xs ≡ [] → m ≡ 0 → take n xs ++ replicate (n - m) 0 ≡ replicate n 0
zeros_of n xs m none short =
    let gone : take n xs ≡ [] = take_all n xs (omega (arith, ap length none)) ∙ none in
    let whole : n - m ≡ n = omega arith in
    rw (gone, whole) refl
