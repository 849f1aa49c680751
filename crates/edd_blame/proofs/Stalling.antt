-- Requests that stalled, counted.
use Rattle.std.proofs.Common.{◌≡◌, ◌<◌, ◌≤◌, ℕ, ◌+◌, ◌==◌, Bool, true, false, cond, ◌&&◌, ◌||◌, ◌++◌, length-append, nat_le, nat_lt, List, [], ◌∷◌, length, get_or, set, take, count_by, sum_by, replicate, inl, inr, arith, refl, ap, sym, ◌∙◌, subst, eq-eqb, ne_eqb}
use Rattle.std.proofs.lemmas.Bool.{cases_lt, cases_eq, eqb-true, le-leb, lt-leb, lt-ltb, le-ltb, ltb-true, and_from, and_parts, and_left, and_right}
use Rattle.std.proofs.lemmas.List.{get_or-set_same, get_or-set_other, length-set, length-replicate, get_or-replicate, length-take-le, take_all}
use Rattle.std.proofs.Math.ListN.{get_or-append}
use Rattle.std.proofs.Math.Seq.{get_or-append_seam}
use Rattle.std.proofs.lemmas.List.Elements.{All-push}
use Rattle.std.proofs.lemmas.List.Quantifiers.{all_pairs_push}
use Rattle.std.specs.List.{All, AllPairs}
use Rattle.std.proofs.lemmas.List.Folds.{sum_by-replicate}
use Rattle.std.proofs.lemmas.List.Sums.{sum_by-cons, sum_by-append, sum_by_more, sum_by-set, count_by-le-length}
use Rattle.edd_commands.specs.declared.Command.{Command}
use Rattle.edd_oracle.proofs.Counting.{count_along}
use Rattle.edd_blame.specs.Clock.{times_by, times_within, is_stalled, IsByClock, AreByClock}
use Rattle.edd_blame.specs.Sum.{number_came_late, number_stalled, number_stalled_after, IsStallTime, AreStalls}
use Rattle.edd_blame.specs.Inside.{AreStallCounts}
use Rattle.edd_blame.specs.declared.sum.StallTime.{StallTime}
use Rattle.edd_blame.specs.declared.late.Allowance.{Allowance}
use Rattle.edd_blame.proofs.Clocks.{count_parts, late_parts, late_came, stalled_came}

-- by the rounds
pub stalled_test : (dispatches : List ℕ) (a : Allowance) (c : Command) → IsByClock dispatches a c → (nat_le a.release a.deadline && nat_lt c.due c.release) ≡ is_stalled dispatches a
stalled_test dispatches a c is =
    elim (cases_lt a.deadline a.release) [
      | inl late ↦ and_left (nat_le a.release a.deadline) (nat_lt c.due c.release) (lt-leb a.release a.deadline late) ∙ sym (and_left (nat_le a.release a.deadline) (times_within dispatches a == 0) (lt-leb a.release a.deadline late))
      | inr timely ↦
          elim (cases_eq (times_within dispatches a) 0) [
            | inl none ↦
                and_from (nat_le a.release a.deadline) (nat_lt c.due c.release) (le-leb a.release a.deadline timely) (lt-ltb c.due c.release (stalled_came dispatches a c is (timely, none)))
                ∙ sym (and_from (nat_le a.release a.deadline) (times_within dispatches a == 0) (le-leb a.release a.deadline timely) (eq-eqb (times_within dispatches a) 0 none))
            | inr some ↦
                let due : c.release ≤ c.due =
                elim (cases_lt c.due c.release) [
                  | inl early ↦ elim (late_parts dispatches a c is early) [
                    | inl late ↦ absurd (omega arith)
                    | inr stall ↦ absurd (some stall.1)
                  ]
                  | inr fine ↦ fine
                ] in
                and_right (nat_le a.release a.deadline) (nat_lt c.due c.release) (le-ltb c.due c.release due)
                ∙ sym (and_right (nat_le a.release a.deadline) (times_within dispatches a == 0) (ne_eqb (times_within dispatches a) 0 some))
          ]
    ]

-- a command is due no later than the last dispatch
pub due_few : (dispatches : List ℕ) (a : Allowance) (c : Command) → IsByClock dispatches a c → c.due ≤ length dispatches
unfolding times_by
due_few dispatches a c is = omega (arith, is.1, count_by-le-length (λ x. nat_le x a.deadline) dispatches)

-- one more request
after_more : (dispatches : List ℕ) (allowances : List Allowance) (i n : ℕ) (a : Allowance) (b : Bool) → i < length allowances → (is_stalled dispatches (get_or allowances i a) && times_by dispatches (get_or allowances i a).deadline == n) ≡ b
    → number_stalled_after dispatches (take (i + 1) allowances) n ≡ number_stalled_after dispatches (take i allowances) n + cond b 1 0
unfolding number_stalled_after
after_more dispatches allowances i n a b h is =
    sum_by_more (λ (x : Allowance). cond (is_stalled dispatches x && times_by dispatches x.deadline == n) 1 0) allowances i a h ∙ ap (λ x. count_by (λ (x : Allowance). is_stalled dispatches x && times_by dispatches x.deadline == n) (take i allowances) + cond x 1 0) is

all_more : (dispatches : List ℕ) (allowances : List Allowance) (i : ℕ) (a : Allowance) (b : Bool) → i < length allowances → is_stalled dispatches (get_or allowances i a) ≡ b
    → number_stalled dispatches (take (i + 1) allowances) ≡ number_stalled dispatches (take i allowances) + cond b 1 0
unfolding number_stalled
all_more dispatches allowances i a b h is =
    sum_by_more (λ x. cond (is_stalled dispatches x) 1 0) allowances i a h ∙ ap (λ x. count_by (is_stalled dispatches) (take i allowances) + cond x 1 0) is

-- the counts so far
pub record AreCountedTo (dispatches : List ℕ) (allowances : List Allowance) (i : ℕ) (counts : List ℕ) : Type 0 where
  pub long : length counts ≡ length dispatches + 1
  pub each : (n : ℕ) → n < length counts → get_or counts n 0 ≡ number_stalled_after dispatches (take i allowances) n
  pub all : sum_by (λ n. n) counts ≡ number_stalled dispatches (take i allowances)

none_after : (dispatches : List ℕ) (n : ℕ) → number_stalled_after dispatches [] n ≡ 0
unfolding number_stalled_after
none_after dispatches n = refl

none_stalled : (dispatches : List ℕ) → number_stalled dispatches [] ≡ 0
unfolding number_stalled
none_stalled dispatches = refl

pub counted_none : (dispatches : List ℕ) (allowances : List Allowance) (counts : List ℕ) → counts ≡ replicate (length dispatches + 1) 0 → AreCountedTo dispatches allowances 0 counts
counted_none dispatches allowances counts are = record {
  long = ap length are ∙ length-replicate (length dispatches + 1) 0;
  each = λ n h.
      let long : length counts ≡ length dispatches + 1 = ap length are ∙ length-replicate (length dispatches + 1) 0 in
      ap (λ l. get_or l n 0) are ∙ get_or-replicate (length dispatches + 1) n 0 0 (omega (arith, h, long)) ∙ sym (none_after dispatches n);
  all = ap (λ l. sum_by (λ n. n) l) are ∙ sum_by-replicate (λ n. n) (length dispatches + 1) 0 ∙ omega (arith, none_stalled dispatches);
}

-- a request that didn't stall
pub counted_other : (dispatches : List ℕ) (allowances : List Allowance) (i : ℕ) (a : Allowance) (counts : List ℕ) → i < length allowances → is_stalled dispatches (get_or allowances i a) ≡ false → AreCountedTo dispatches allowances i counts → AreCountedTo dispatches allowances (i + 1) counts
counted_other dispatches allowances i a counts h other old = record {
  long = old.long;
  each = λ n low.
      let more = after_more dispatches allowances i n a false h (and_left (is_stalled dispatches (get_or allowances i a)) (times_by dispatches (get_or allowances i a).deadline == n) other) in
      omega (arith, more, old.each n low);
  all = omega (arith, all_more dispatches allowances i a false h other, old.all);
}

-- one that did, after that many dispatches
pub counted_stall : (dispatches : List ℕ) (allowances : List Allowance) (i n x : ℕ) (a : Allowance) (counts : List ℕ) → i < length allowances → is_stalled dispatches (get_or allowances i a) ≡ true → n ≡ times_by dispatches (get_or allowances i a).deadline → n < length counts → x ≡ get_or counts n 0 + 1
    → AreCountedTo dispatches allowances i counts → AreCountedTo dispatches allowances (i + 1) (set counts n x)
counted_stall dispatches allowances i n x a counts h stalled is within one old =
    let own : Allowance = get_or allowances i a in
    let long : length (set counts n x) ≡ length counts = length-set counts n x in
    record {
      long = long ∙ old.long;
      each = λ m low.
          elim (cases_eq m n) [
            | inl same ↦
                let more = after_more dispatches allowances i m a true h (and_from (is_stalled dispatches own) (times_by dispatches own.deadline == m) stalled (eq-eqb (times_by dispatches own.deadline) m (sym is ∙ sym same))) in
                let here : get_or (set counts n x) m 0 ≡ x = ap (λ k. get_or (set counts n x) k 0) same ∙ get_or-set_same counts n x 0 within in
                let was : get_or counts m 0 ≡ get_or counts n 0 = ap (λ k. get_or counts k 0) same in
                omega (arith, more, here, was, one, old.each m (omega (arith, low, long)))
            | inr apart ↦
                let more = after_more dispatches allowances i m a false h (and_right (is_stalled dispatches own) (times_by dispatches own.deadline == m) (ne_eqb (times_by dispatches own.deadline) m (λ e. apart (sym e ∙ sym is)))) in
                let here : get_or (set counts n x) m 0 ≡ get_or counts m 0 = get_or-set_other counts n m x 0 apart in
                omega (arith, more, here, old.each m (omega (arith, low, long)))
          ];
      all = omega (arith, all_more dispatches allowances i a true h stalled, old.all, sum_by-set (λ k. k) counts n x 0 within, one);
    }

pub counted_all : (dispatches : List ℕ) (allowances : List Allowance) (i : ℕ) (counts : List ℕ) → length allowances ≤ i → AreCountedTo dispatches allowances i counts → AreStallCounts dispatches allowances counts
counted_all dispatches allowances i counts past so_far =
    let whole : take i allowances ≡ allowances = take_all i allowances past in
    record {
      long = so_far.long;
      each = λ n h. so_far.each n h ∙ ap (λ l. number_stalled_after dispatches l n) whole;
      all = so_far.all ∙ ap (λ l. number_stalled dispatches l) whole;
    }

-- a count is no more than there are requests
pub count_few : (dispatches : List ℕ) (allowances : List Allowance) (i n : ℕ) (counts : List ℕ) → i ≤ length allowances → n < length counts → AreCountedTo dispatches allowances i counts → get_or counts n 0 ≤ length allowances
unfolding number_stalled_after
count_few dispatches allowances i n counts h low so_far =
    omega (arith, so_far.each n low, count_by-le-length (λ (a : Allowance). is_stalled dispatches a && times_by dispatches a.deadline == n) (take i allowances), length-take-le i allowances h)

-- the stalls so far
pub record AreStallsTo (dispatches : List ℕ) (allowances : List Allowance) (counts : List ℕ) (n : ℕ) (stalls : List StallTime) : Type 0 where
  pub each : All (IsStallTime dispatches allowances) stalls
  pub rising : AllPairs (λ (s t : StallTime). s.after < t.after) stalls
  pub below : (j : ℕ) (d : StallTime) → j < length stalls → (get_or stalls j d).after < n
  pub all : sum_by (λ (s : StallTime). s.requests) stalls ≡ sum_by (λ k. k) (take n counts)

-- a count of none
pub stalls_same : (dispatches : List ℕ) (allowances : List Allowance) (counts : List ℕ) (n : ℕ) (stalls : List StallTime) → n < length counts → get_or counts n 0 ≡ 0 → AreStallsTo dispatches allowances counts n stalls → AreStallsTo dispatches allowances counts (n + 1) stalls
stalls_same dispatches allowances counts n stalls h none old = record {
  each = old.each;
  rising = old.rising;
  below = λ j d low. omega (arith, old.below j d low);
  all = omega (arith, old.all, sum_by_more (λ k. k) counts n 0 h, none);
}

-- and of some
pub stalls_more : (dispatches : List ℕ) (allowances : List Allowance) (counts : List ℕ) (n : ℕ) (stalls : List StallTime) (s : StallTime) → n < length counts → s.after ≡ n → s.requests ≡ get_or counts n 0 → 0 < s.requests → get_or counts n 0 ≡ number_stalled_after dispatches allowances n
    → AreStallsTo dispatches allowances counts n stalls → AreStallsTo dispatches allowances counts (n + 1) (stalls ++ s ∷ [])
stalls_more dispatches allowances counts n stalls s h after requests some counted old = record {
  each = All-push (IsStallTime dispatches allowances) stalls s old.each (record { requests = requests ∙ counted ∙ ap (λ k. number_stalled_after dispatches allowances k) (sym after); some = some });
  rising = all_pairs_push (λ (x y : StallTime). x.after < y.after) stalls s old.rising (λ k d low. omega (arith, old.below k d low, after));
  below = λ j d low.
      elim (cases_lt j (length stalls)) [
        | inl before ↦ omega (arith, old.below j d before, ap (λ (t : StallTime). t.after) (get_or-append stalls (s ∷ []) d j before))
        | inr past ↦
            let last : j ≡ length stalls = omega (arith, low, length-append stalls (s ∷ [])) in
            omega (arith, ap (λ k. (get_or (stalls ++ s ∷ []) k d).after) last, ap (λ (t : StallTime). t.after) (get_or-append_seam stalls s [] d), after)
      ];
  all = omega (arith, old.all, sum_by_more (λ k. k) counts n 0 h, sum_by-append (λ (t : StallTime). t.requests) stalls (s ∷ []), sum_by-cons (λ (t : StallTime). t.requests) s [], requests);
}

pub stalls_none : (dispatches : List ℕ) (allowances : List Allowance) (counts : List ℕ) (stalls : List StallTime) → stalls ≡ [] → AreStallsTo dispatches allowances counts 0 stalls
stalls_none dispatches allowances counts stalls none =
    subst (λ l. AreStallsTo dispatches allowances counts 0 l) (sym none)
    (record { each = λ i d h. absurd (omega (arith, h)); rising = λ i j d low h. absurd (omega (arith, h)); below = λ j d low. absurd (omega (arith, low)); all = refl })

pub stalls_all : (dispatches : List ℕ) (allowances : List Allowance) (counts : List ℕ) (n : ℕ) (stalls : List StallTime) → length counts ≤ n → sum_by (λ k. k) counts ≡ number_stalled dispatches allowances → AreStallsTo dispatches allowances counts n stalls → AreStalls dispatches allowances stalls
stalls_all dispatches allowances counts n stalls past all so_far = record {
  each = so_far.each;
  rising = so_far.rising;
  all = so_far.all ∙ ap (λ l. sum_by (λ k. k) l) (take_all n counts past) ∙ all;
}

-- a request can't both come late and stall
late_or_stalled : (dispatches : List ℕ) (a : Allowance) → cond (nat_lt a.deadline a.release) 1 0 + cond (is_stalled dispatches a) 1 0 ≡ cond (nat_lt a.deadline a.release || is_stalled dispatches a) 1 0
late_or_stalled dispatches a =
    elim (cases_lt a.deadline a.release) [
      | inl late ↦ rw (lt-ltb a.deadline a.release late, lt-leb a.release a.deadline late) refl
      | inr timely ↦ rw (le-ltb a.deadline a.release timely) (omega arith)
    ]

came_either : (dispatches : List ℕ) (a : Allowance) (c : Command) → IsByClock dispatches a c → c.due < c.release → (nat_lt a.deadline a.release || is_stalled dispatches a) ≡ true
came_either dispatches a c is early =
    elim (late_parts dispatches a c is early) [
      | inl late ↦ rw (lt-ltb a.deadline a.release late) refl
      | inr stall ↦ rw (le-ltb a.deadline a.release stall.0) (and_from (nat_le a.release a.deadline) (times_within dispatches a == 0) (le-leb a.release a.deadline stall.0) (eq-eqb (times_within dispatches a) 0 stall.1))
    ]

either_came : (dispatches : List ℕ) (a : Allowance) (c : Command) → IsByClock dispatches a c → (nat_lt a.deadline a.release || is_stalled dispatches a) ≡ true → c.due < c.release
either_came dispatches a c is either =
    elim (cases_lt a.deadline a.release) [
      | inl late ↦ late_came dispatches a c is late
      | inr timely ↦
          let stalled : is_stalled dispatches a ≡ true = rw (le-ltb a.deadline a.release timely) at either in
          let parts = and_parts (nat_le a.release a.deadline) (times_within dispatches a == 0) stalled in
          stalled_came dispatches a c is (timely, eqb-true (times_within dispatches a) 0 parts.1)
    ]

-- what is released after its due round came late or stalled
pub late_split : (dispatches : List ℕ) (allowances : List Allowance) (commands : List Command) → AreByClock dispatches allowances commands → count_by (λ (c : Command). nat_lt c.due c.release) commands ≡ number_came_late allowances + number_stalled dispatches allowances
unfolding number_came_late number_stalled
late_split dispatches allowances commands is =
    let either : Allowance → Bool = λ a. nat_lt a.deadline a.release || is_stalled dispatches a in
    let parts : count_by (λ (a : Allowance). nat_lt a.deadline a.release) allowances + count_by (is_stalled dispatches) allowances ≡ count_by either allowances =
    count_parts (λ (a : Allowance). nat_lt a.deadline a.release) (is_stalled dispatches) either (λ a. late_or_stalled dispatches a) allowances in
    let one : count_by (λ (c : Command). nat_lt c.due c.release) commands ≤ count_by either allowances =
    count_along (λ (c : Command). nat_lt c.due c.release) either commands allowances is.one_each
    (λ k d e h yes. came_either dispatches (get_or allowances k e) (get_or commands k d) (is.each k e d h) (ltb-true (get_or commands k d).due (get_or commands k d).release yes)) in
    let other : count_by either allowances ≤ count_by (λ (c : Command). nat_lt c.due c.release) commands =
    count_along either (λ (c : Command). nat_lt c.due c.release) allowances commands (sym is.one_each)
    (λ k d e h yes. lt-ltb (get_or commands k e).due (get_or commands k e).release (either_came dispatches (get_or allowances k d) (get_or commands k e) (is.each k d e (omega (arith, h, is.one_each))) yes)) in
    omega (arith, parts, one, other)
