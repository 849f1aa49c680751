-- The rounds before the first round, and once all requests are served.
use Rattle.std.proofs.Common.{◌≡◌, ◌≢◌, ◌<◌, ◌≤◌, ◌∙◌, sym, ap, refl, subst, ℕ, suc, zero, ◌+◌, ◌==◌, arith, cond, List, [], ◌∷◌, length, get_or, count_by, Some, None, inl, inr, replicate}
use Rattle.std.specs.Prelude.{slice_get}
use Rattle.std.proofs.lemmas.Bool.{cases_eq, eq-eqb, ne_eqb, cond-true, cond-false, le-leb}
use Rattle.std.proofs.lemmas.List.Sums.{sum_by-cons}
use Rattle.std.proofs.lemmas.Option.{slice_get_within, get_or_from_slice_get}
use Rattle.std.specs.Ordering.{nat_cmp}
use Rattle.std.specs.FinMap.{get, len, empty, get-empty, len-empty, empty_of_len}
use Rattle.edd_commands.specs.declared.Command.{Command}
use Rattle.edd_commands.specs.Capacity.{fixed, depth_at}
use Rattle.edd_commands.specs.Schedule.{IsLegal, places_at}
use Rattle.blk_sched.specs.Meaning.{Waiting, Pending, Meaning, at_start}
use Rattle.blk_sched.specs.Policies.{Policy}
use Rattle.blk_replay.specs.declared.Arrived.{Arrived}
use Rattle.blk_replay.specs.Replay.{waiting, CanReplay, Standing, standing, PlaysRounds, IsReplay, HaveOwnRounds, commands_from, commands_by_arrival}
use Rattle.blk_replay.proofs.Between.{IsBetween, WasServed, at_place}

abbrev zeros_of : ℕ → List ℕ
zeros_of n = replicate n 0

zeros : (n p : ℕ) → get_or (zeros_of n) p 0 ≡ 0
zeros zero p = refl
zeros (suc n) zero = refl
zeros (suc n) (suc p) = zeros n p

zeros_long : (n : ℕ) → length (zeros_of n) ≡ n
zeros_long zero = refl
zeros_long (suc n) = ap suc (zeros_long n)

no_rounds : (policy : Policy) (requests : List Arrived) (rounds : List ℕ) (start : Standing) → PlaysRounds policy requests rounds 0 start start
unfolding PlaysRounds
no_rounds policy requests rounds start = refl

-- before the first round
pub at_first : (policy : Policy) (requests : List Arrived) (rounds : List ℕ) (m : Meaning) (kept : List ℕ) → CanReplay requests → m ≡ at_start m.front → rounds ≡ replicate (length requests) 0 → IsBetween policy requests (standing m kept) rounds 0 0 (standing m kept)
at_first policy requests rounds m kept can start none =
    let all : (p : ℕ) → get_or rounds p 0 ≡ 0 = λ p. ap (λ (l : List ℕ). get_or l p 0) none ∙ zeros (length requests) p in
    record {
      one_each = ap length none ∙ zeros_long (length requests);
      within = omega arith;
      none_open = ap (λ (x : Meaning). x.open_picks) start;
      front = refl;
      count = let e : len m.pending ≡ 0 = ap (λ (x : Meaning). len x.pending) start ∙ len-empty nat_cmp Waiting in omega arith;
      before = λ p r lt is. absurd (omega arith);
      after = λ p r le is. let e : (get_or requests p r).release ≡ r.release = ap (λ (y : Arrived). y.release) (get_or_from_slice_get requests p r r is) in omega (arith, e, can.some_round p r (slice_get_within requests p r is));
      stands = λ p r lt is. absurd (omega arith);
      not_there = λ p le. ap (λ (x : Meaning). get x.pending p) start ∙ get-empty nat_cmp p;
      no_round = λ p le. all p;
      apart = λ p q same some. absurd (omega (arith, all p));
      played = no_rounds policy requests rounds (standing m kept);
    }

-- after the last round nothing waits
none_waits : (policy : Policy) (requests : List Arrived) (start : Standing) (rounds : List ℕ) (next n : ℕ) (now : Standing) → n ≡ length requests → IsBetween policy requests start rounds next n now → now.meaning.pending ≡ empty
none_waits policy requests start rounds next n now end h = empty_of_len now.meaning.pending (omega (arith, h.count, h.within))

served : (policy : Policy) (requests : List Arrived) (start : Standing) (rounds : List ℕ) (next n : ℕ) (now : Standing) → n ≡ length requests → IsBetween policy requests start rounds next n now → (p : ℕ) (r : Arrived) → slice_get requests p ≡ Some r → WasServed now.meaning.pending rounds n p r
served policy requests start rounds next n now end h p r is =
    elim (h.stands p r (omega (arith, h.count, slice_get_within requests p r is)) is) [
      | inl w ↦
          let no : None ≡ Some (waiting p r) = sym (ap (λ (m : Pending). get m p) (none_waits policy requests start rounds next n now end h) ∙ get-empty nat_cmp p) ∙ w.there in
          absurd (cc)
      | inr s ↦ s
    ]

own_rounds : (policy : Policy) (requests : List Arrived) (start : Standing) (rounds : List ℕ) (next n : ℕ) (now : Standing) → n ≡ length requests → IsBetween policy requests start rounds next n now → HaveOwnRounds rounds
own_rounds policy requests start rounds next n now end h =
    let each : (k : ℕ) → k < length rounds → (0 < get_or rounds k 0) × (get_or rounds k 0 ≤ length rounds) = λ k lt.
    let r = at_place requests k (omega (arith, h.one_each)) in
    let s = served policy requests start rounds next n now end h k r.0 r.1 in
    (s.some_round, omega (arith, s.by_now, h.one_each)) in
    record {
      in_range = each;
      own = λ j k lj lk same. h.apart j k same (each j lj).0;
    }

-- the first round begins
pub tick_start : (m begun : Meaning) → begun ≡ m → m ≡ at_start m.front → begun ≡ at_start begun.front
tick_start m begun same start = same ∙ start ∙ ap (λ (x : Meaning). at_start x.front) (sym same)

pub is_replay : (policy : Policy) (requests : List Arrived) (m begun : Meaning) (kept told : List ℕ) (rounds : List ℕ) (next n : ℕ) (now : Standing)
    → begun ≡ m → policy.told_tick 1 kept told → m ≡ at_start m.front → n ≡ length requests → IsBetween policy requests (standing begun told) rounds next n now → IsReplay policy (standing m kept) requests rounds
is_replay policy requests m begun kept told rounds next n now same tick start end h =
    let pending = none_waits policy requests (standing begun told) rounds next n now end h in
    let picks = h.none_open in
    let front : now.meaning.front ≡ m.front = h.front ∙ ap (λ (x : Meaning). x.front) same in
    let ended : now.meaning ≡ at_start m.front = λ i. record { pending = pending i; open_picks = picks i; front = front i } in
    record {
      one_each = h.one_each;
      own_rounds = own_rounds policy requests (standing begun told) rounds next n now end h;
      begun = told;
      told_first = tick;
      end = now;
      played = subst (λ (x : Meaning). PlaysRounds policy requests rounds (length requests) (standing x told) now) same (subst (λ k. PlaysRounds policy requests rounds k (standing begun told) now) end h.played);
      all_served = ended ∙ sym start;
    }

pub commands_long : (id : ℕ) (rs : List Arrived) → length (commands_from id rs) ≡ length rs
unfolding commands_from
commands_long id [] = refl
commands_long id (r ∷ rs) = ap suc (commands_long (suc id) rs)

pub command_at : (id : ℕ) (rs : List Arrived) (k : ℕ) (r : Arrived) (d : Command) → slice_get rs k ≡ Some r → (get_or (commands_from id rs) k d).release ≡ r.release
unfolding commands_from
command_at id [] k r d is = absurd (cc)
command_at id (x ∷ rs) zero r d is = let e : x ≡ r = cc in ap (λ (y : Arrived). y.release) e
command_at id (x ∷ rs) (suc k) r d is = command_at (suc id) rs k r d is

count_yes : (x y : ℕ) (ys : List ℕ) → y ≡ x → count_by (λ z. z == x) (y ∷ ys) ≡ 1 + count_by (λ z. z == x) ys
count_yes x y ys e = sum_by-cons (λ z. cond (z == x) 1 0) y ys ∙ ap (λ n. n + count_by (λ z. z == x) ys) (cond-true (y == x) 1 0 (eq-eqb y x e))

count_no : (x y : ℕ) (ys : List ℕ) → y ≢ x → count_by (λ z. z == x) (y ∷ ys) ≡ count_by (λ z. z == x) ys
count_no x y ys ne =
    sum_by-cons (λ z. cond (z == x) 1 0) y ys ∙ ap (λ n. n + count_by (λ z. z == x) ys) (cond-false (y == x) 1 0 (ne_eqb y x ne)) ∙ omega arith

count_never : (x : ℕ) (ys : List ℕ) → ((p : ℕ) → p < length ys → get_or ys p 0 ≢ x) → count_by (λ z. z == x) ys ≡ 0
count_never x [] h = refl
count_never x (y ∷ ys) h = count_no x y ys (h 0 (omega arith)) ∙ count_never x ys (λ p lt. h (suc p) (omega arith))

-- what stands at one place at most is counted once at most
pub count_once : (x : ℕ) (ys : List ℕ) → ((p q : ℕ) → p < length ys → q < length ys → get_or ys p 0 ≡ x → get_or ys q 0 ≡ x → p ≡ q) → count_by (λ z. z == x) ys ≤ 1
count_once x [] h = omega arith
count_once x (y ∷ ys) h = elim (cases_eq y x) [
  | inl same ↦ omega (arith, count_yes x y ys same, count_never x ys (λ p lt e. let k : 0 ≡ suc p = h 0 (suc p) (omega arith) (omega arith) same e in absurd (omega arith)))
  | inr other ↦ omega (arith, count_no x y ys other, count_once x ys (λ p q lp lq ep eq. let k : suc p ≡ suc q = h (suc p) (suc q) (omega arith) (omega arith) ep eq in omega arith))
]

pub one_deep : (x : ℕ) → depth_at (fixed 1) x ≡ 1
unfolding depth_at
one_deep x = ap (λ b. cond b 1 0) (le-leb 0 x (omega arith))

pub is_legal : (policy : Policy) (requests : List Arrived) (start : Standing) (rounds : List ℕ) (next n : ℕ) (now : Standing) → n ≡ length requests → IsBetween policy requests start rounds next n now → IsLegal (commands_by_arrival requests) rounds (fixed 1)
unfolding places_at
is_legal policy requests start rounds next n now end h = record {
  one_each = h.one_each ∙ sym (commands_long 0 requests);
  released = λ k d lt.
      let r = at_place requests k (omega (arith, commands_long 0 requests)) in
      let e : (get_or (commands_by_arrival requests) k d).release ≡ r.0.release = command_at 0 requests k r.0 d r.1 in
      omega (arith, e, (served policy requests start rounds next n now end h k r.0 r.1).released);
  within_depth = λ x.
      let once : count_by (λ z. z == x) rounds ≤ 1 = count_once x rounds (λ p q lp lq ep eq.
      let r = at_place requests p (omega (arith, h.one_each)) in
      h.apart p q (ep ∙ sym eq) (served policy requests start rounds next n now end h p r.0 r.1).some_round) in
      omega (arith, once, one_deep x);
}
