-- Where bios stand when software queues were emptied into the core.
use Rattle.std.proofs.Common.{arith, ◌≡◌, ◌≢◌, ◌+◌, ◌<◌, ◌≤◌, ◌==◌, ◌%◌, ◌&&◌, ◌||◌, not, nat_lt, ◌∙◌, ℕ, zero, suc, cond, List, [], ◌∷◌, ◌++◌, Bool, true, false, Option, Some, None, length, refl, sym, ap, subst, inl, inr, append_assoc}
use Rattle.std.specs.Option.{option_map}
use Rattle.std.proofs.lemmas.Option.{slice_get_within}
use Rattle.std.proofs.lemmas.List.{append-nil}
use Rattle.std.proofs.lemmas.List.Concat.{flat_map-append}
use Rattle.std.specs.Prelude.{slice_get, IsPermutation}
use Rattle.std.proofs.Math.Bool.{or-false, and-false, and-true, or_assoc}
use Rattle.std.proofs.Math.Nat.{mod-lt}
use Rattle.std.proofs.lemmas.Bool.{cases_Bool, eqb-true, eq-eqb, ne_eqb, lt-ltb, le-ltb, ltb-true, ltb-false}
use Rattle.std.proofs.lemmas.Bool.Decides.{eqb_tells}
use Rattle.std.proofs.lemmas.List.Sorted.{IsPermutation-refl, IsPermutation-append, IsPermutation-trans}
use Rattle.blk_trace.specs.Happened.{Happened}
use Rattle.blk_trace.specs.Events.{entered}
use Rattle.blk_queues.specs.Queues.{Queue}
use Rattle.blk_core.specs.State.{CoreState}
use Rattle.blk_bio.specs.Bios.{Bio}
use Rattle.blk_sim.specs.Moves.{bios_in, requests_in, served_requests, drained, Drains, DrainInTurn}
use Rattle.blk_sim.specs.Simulation.{Where, Plugged, Staged, Released, is_where}
use Rattle.blk_sim.specs.Simulated.{Placing, picked, is_in, is_bio_at, AreStaged, AreDrained}
use Rattle.blk_sim.specs.Inside.Places.{is_served, RoundsPassed}
use Rattle.blk_sim.proofs.Events.{chain_took}
use Rattle.blk_sched.specs.Policies.{Policy}
use Rattle.blk_sim.proofs.Picking.{picked-same, picked-none, picked-both, IsSplit}

-- tests that agree
pub drained_same : (t u : ℕ → Bool) → ((s : ℕ) → t s ≡ u s) → (book : List Placing) (queues : List Queue) (events : List Happened) → AreDrained t book queues events → AreDrained u book queues events
drained_same t u h book queues events d = record {
  staged = λ s queue at. subst (λ r. IsPermutation (bios_in queue.requests) r) (picked-same (λ p. is_bio_at Staged s p && not (t s)) (λ p. is_bio_at Staged s p && not (u s)) (λ p. ap (λ b. is_bio_at Staged s p && not b) (h s)) book) (d.staged s queue at);
  released = subst (λ r. IsPermutation (entered events) r) (picked-same (λ p. is_in Released p || (is_in Staged p && t p.bio.id.submitter)) (λ p. is_in Released p || (is_in Staged p && u p.bio.id.submitter)) (λ p. ap (λ b. is_in Released p || (is_in Staged p && b)) (h p.bio.id.submitter)) book) d.released;
}

never : (a b : Bool) → (a && not (b || true)) ≡ false
never true true = refl
never true false = refl
never false b = refl

-- one more submitter's staged bios: those that were not taken before are the queue's
split : (w : Where) (a e d : Bool) → (e ≡ true → a ≡ d) → IsSplit (is_where Released w || (is_where Staged w && (a || e))) (is_where Released w || (is_where Staged w && a)) ((is_where Staged w && e) && not d)
split Plugged a e d h = inl (refl, refl)
split Released a e d h = inl (refl, refl)
split Staged true true d h = inl (refl, ap not (sym (h refl)))
split Staged true false d h = inl (refl, refl)
split Staged false true d h = inr (refl, ap not (sym (h refl)))
split Staged false false d h = inl (refl, refl)

below_next : (n s : ℕ) → s ≢ n → nat_lt s n ≡ nat_lt s (n + 1)
below_next n s ne = elim (cases_Bool (nat_lt s n)) [
  | inl t ↦ let lt : s < n = ltb-true s n t in t ∙ sym (lt-ltb s (n + 1) (omega arith))
  | inr f ↦ let le : n ≤ s = ltb-false s n f in let no : s ≢ n = ne in f ∙ sym (le-ltb s (n + 1) (omega arith))
]

below_more : (n s : ℕ) → (b : Bool) → ((s == n) ≡ true → b ≡ true) → ((nat_lt s n && b) || (s == n)) ≡ (nat_lt s (n + 1) && b)
below_more n s b h = elim (eqb_tells s n) [
  | inl a ↦ let lo : nat_lt s n ≡ false = let q : s ≡ n = a.1 in le-ltb s n (omega arith) in let up : nat_lt s (n + 1) ≡ true = let q : s ≡ n = a.1 in lt-ltb s (n + 1) (omega arith) in let yes : b ≡ true = h a.0 in rw (a.0, lo, up, yes) refl
  | inr a ↦ rw (a.0, sym (below_next n s a.1)) (or-false (nat_lt s n && b))
]

pub served_more : (n hw h s : ℕ) → (n % hw) ≡ h → (is_served n hw h s || (s == n)) ≡ is_served (n + 1) hw h s
served_more n hw h s e = below_more n s ((s % hw) == h) (λ t. let q : s ≡ n = eqb-true s n t in eq-eqb (s % hw) h (ap (λ k. k % hw) q ∙ e))

below_same : (n s : ℕ) → (b : Bool) → ((s == n) ≡ true → b ≡ false) → (nat_lt s n && b) ≡ (nat_lt s (n + 1) && b)
below_same n s b h = elim (eqb_tells s n) [
  | inl a ↦ let lo : nat_lt s n ≡ false = let q : s ≡ n = a.1 in le-ltb s n (omega arith) in let no : b ≡ false = h a.0 in rw (lo, no) (sym (and-false (nat_lt s (n + 1))))
  | inr a ↦ rw (sym (below_next n s a.1)) refl
]

pub served_same : (n hw h s : ℕ) → (n % hw) ≢ h → is_served n hw h s ≡ is_served (n + 1) hw h s
served_same n hw h s e = below_same n s ((s % hw) == h) (λ t. let q : s ≡ n = eqb-true s n t in ne_eqb (s % hw) h (λ f. e (ap (λ k. k % hw) (sym q) ∙ f)))

-- the same at lists that are equal
pub drained_at : (t : ℕ → Bool) (book : List Placing) (queues queues' : List Queue) (events events' : List Happened) → queues' ≡ queues → events' ≡ events → AreDrained t book queues events → AreDrained t book queues' events'
drained_at t book queues queues' events events' q e d = subst (λ l. AreDrained t book l events') (sym q) (subst (λ l. AreDrained t book queues l) (sym e) d)

next_point : (a : Bool) (r j : ℕ) → ((a && nat_lt r j) || (a && (r == j))) ≡ (a && nat_lt r (j + 1))
next_point false r j = refl
next_point true r j = ap (λ b. b || (r == j)) (sym (and-true (nat_lt r j))) ∙ below_more j r true (λ _. refl) ∙ and-true (nat_lt r (j + 1))

-- the element at a place before the end
some_at : {X : Type 0} (xs : List X) (k : ℕ) → k < length xs → (x : X) × (slice_get xs k ≡ Some x)
some_at [] k lt = absurd (omega (arith, lt))
some_at (x ∷ xs) zero lt = (x, refl)
some_at (x ∷ xs) (suc k) lt = some_at xs k (omega (arith, lt))

-- no software queue below the first is one that was served
unserved : (n count hw : ℕ) → is_served n count hw n ≡ false
unserved n count hw = ap (λ b. b && ((n % count) == hw)) (le-ltb n n (omega arith))

-- the staged bios of the first n software queues that a hardware queue serves
bios_served : (test : ℕ → Bool) (count hw n : ℕ) (book : List Placing) (queues : List Queue) (es : List Bio) → n ≤ length queues → AreStaged test book queues
    → IsPermutation es (picked (λ p. is_in Released p || (is_in Staged p && test p.bio.id.submitter)) book)
    → IsPermutation (es ++ bios_in (served_requests queues count hw n)) (picked (λ p. is_in Released p || (is_in Staged p && (test p.bio.id.submitter || is_served n count hw p.bio.id.submitter))) book)
unfolding served_requests
bios_served test count hw zero book queues es le staged d =
    subst (λ l. IsPermutation l (picked (λ p. is_in Released p || (is_in Staged p && (test p.bio.id.submitter || is_served 0 count hw p.bio.id.submitter))) book)) (sym (append-nil es))
    (subst (λ r. IsPermutation es r) (picked-same (λ p. is_in Released p || (is_in Staged p && test p.bio.id.submitter)) (λ p. is_in Released p || (is_in Staged p && (test p.bio.id.submitter || is_served 0 count hw p.bio.id.submitter)))
    (λ p. ap (λ b. is_in Released p || (is_in Staged p && b)) (sym (ap (λ b. test p.bio.id.submitter || (b && ((p.bio.id.submitter % count) == hw))) (le-ltb p.bio.id.submitter 0 (omega arith)) ∙ or-false (test p.bio.id.submitter)))) book) d)
bios_served test count hw (suc n) book queues es le staged d = elim (eqb_tells (n % count) hw) [
  | inl a ↦
      let at = some_at queues n (omega (arith, le)) in
      let front : List (List Bio) = served_requests queues count hw n in
      let list : es ++ bios_in (served_requests queues count hw (suc n)) ≡ (es ++ bios_in front) ++ bios_in at.0.requests =
      ap (λ b. es ++ bios_in (front ++ cond b (requests_in (slice_get queues n)) [])) a.0
      ∙ ap (λ o. es ++ bios_in (front ++ requests_in o)) at.1
      ∙ ap (λ l. es ++ l) (flat_map-append (λ (x : List Bio). x) front at.0.requests)
      ∙ sym (append_assoc es (bios_in front) (bios_in at.0.requests)) in
      subst (λ l. IsPermutation l (picked (λ p. is_in Released p || (is_in Staged p && (test p.bio.id.submitter || is_served (suc n) count hw p.bio.id.submitter))) book)) (sym list)
      (subst (λ r. IsPermutation ((es ++ bios_in front) ++ bios_in at.0.requests) r)
      (picked-same (λ p. is_in Released p || (is_in Staged p && ((test p.bio.id.submitter || is_served n count hw p.bio.id.submitter) || (p.bio.id.submitter == n)))) (λ p. is_in Released p || (is_in Staged p && (test p.bio.id.submitter || is_served (suc n) count hw p.bio.id.submitter)))
      (λ p. ap (λ b. is_in Released p || (is_in Staged p && b)) (or_assoc (test p.bio.id.submitter) (is_served n count hw p.bio.id.submitter) (p.bio.id.submitter == n) ∙ ap (λ b. test p.bio.id.submitter || b) (served_more n count hw p.bio.id.submitter a.1 ∙ ap (λ k. is_served k count hw p.bio.id.submitter) (more n)))) book)
      (IsPermutation-trans _ _ _ (IsPermutation-append _ _ _ _ (bios_served test count hw n book queues es (omega (arith, le)) staged d) (staged n at.0 at.1))
      (picked-both (λ p. is_in Released p || (is_in Staged p && ((test p.bio.id.submitter || is_served n count hw p.bio.id.submitter) || (p.bio.id.submitter == n)))) (λ p. is_in Released p || (is_in Staged p && (test p.bio.id.submitter || is_served n count hw p.bio.id.submitter))) (λ p. is_bio_at Staged n p && not (test n))
      (λ p. split p.place (test p.bio.id.submitter || is_served n count hw p.bio.id.submitter) (p.bio.id.submitter == n) (test n) (λ e. ap (λ s. test s || is_served n count hw s) (eqb-true p.bio.id.submitter n e) ∙ ap (λ b. test n || b) (unserved n count hw) ∙ or-false (test n))) book)))
  | inr a ↦
      let list : es ++ bios_in (served_requests queues count hw (suc n)) ≡ es ++ bios_in (served_requests queues count hw n) =
      ap (λ b. es ++ bios_in (served_requests queues count hw n ++ cond b (requests_in (slice_get queues n)) [])) a.0
      ∙ ap (λ l. es ++ bios_in l) (append-nil (served_requests queues count hw n)) in
      subst (λ l. IsPermutation l (picked (λ p. is_in Released p || (is_in Staged p && (test p.bio.id.submitter || is_served (suc n) count hw p.bio.id.submitter))) book)) (sym list)
      (subst (λ r. IsPermutation (es ++ bios_in (served_requests queues count hw n)) r)
      (picked-same (λ p. is_in Released p || (is_in Staged p && (test p.bio.id.submitter || is_served n count hw p.bio.id.submitter))) (λ p. is_in Released p || (is_in Staged p && (test p.bio.id.submitter || is_served (suc n) count hw p.bio.id.submitter)))
      (λ p. ap (λ b. is_in Released p || (is_in Staged p && (test p.bio.id.submitter || b))) (served_same n count hw p.bio.id.submitter a.1 ∙ ap (λ k. is_served k count hw p.bio.id.submitter) (more n))) book)
      (bios_served test count hw n book queues es (omega (arith, le)) staged d))
]
  where
    more : (n : ℕ) → n + 1 ≡ suc n
    more n = omega arith

pub drained_none : (o : Option Queue) (r : Queue) → Some r ≡ option_map drained o → r.requests ≡ []
drained_none None r e = cc e
drained_none (Some q) r e = let same : r ≡ drained q = cc e in ap (λ (x : Queue). x.requests) same

-- a drain of a hardware queue
pub drain_drained : (policy : Policy) (test : ℕ → Bool) (count hw : ℕ) (book : List Placing) (queues queues' : List Queue) (core core' : CoreState) → Drains policy count hw queues core queues' core' → AreDrained test book queues core.events → AreDrained (λ s. test s || is_served (length queues) count hw s) book queues' core'.events
drain_drained policy test count hw book queues queues' core core' h d = record {
  staged = λ s r at. elim (eqb_tells (s % count) hw) [
    | inl a ↦
        let none : r.requests ≡ [] = drained_none (slice_get queues s) r (sym at ∙ h.emptied.served s a.1) in
        let within : s < length queues' = slice_get_within queues' s r at in
        let many = h.emptied.as_many in
        let lt : s < length queues = omega (arith, within, many) in
        let is : is_served (length queues) count hw s ≡ true = ap (λ b. b && ((s % count) == hw)) (lt-ltb s (length queues) lt) ∙ a.0 in
        subst (λ l. IsPermutation l (picked (λ p. is_bio_at Staged s p && not (test s || is_served (length queues) count hw s)) book)) (sym (ap bios_in none))
        (subst (λ l. IsPermutation [] l) (sym (picked-none (λ p. is_bio_at Staged s p && not (test s || is_served (length queues) count hw s)) (λ p. ap (λ b. is_bio_at Staged s p && not (test s || b)) is ∙ never (is_bio_at Staged s p) (test s)) book))
        (IsPermutation-refl []))
    | inr a ↦
        let is : is_served (length queues) count hw s ≡ false = ap (λ b. nat_lt s (length queues) && b) a.0 ∙ and-false (nat_lt s (length queues)) in
        subst (λ l. IsPermutation (bios_in r.requests) l) (picked-same (λ p. is_bio_at Staged s p && not (test s)) (λ p. is_bio_at Staged s p && not (test s || is_served (length queues) count hw s)) (λ p. ap (λ b. is_bio_at Staged s p && not b) (sym (ap (λ b. test s || b) is ∙ or-false (test s)))) book) (d.staged s r (sym (h.emptied.others s a.1) ∙ at))
  ];
  released = subst (λ l. IsPermutation l (picked (λ p. is_in Released p || (is_in Staged p && (test p.bio.id.submitter || is_served (length queues) count hw p.bio.id.submitter))) book)) (sym (chain_took policy hw (served_requests queues count hw (length queues)) core core' h.entered).took)
      (bios_served test count hw (length queues) book queues (entered core.events) (omega arith) d.staged d.released);
}

pub drain_count : (policy : Policy) (count n : ℕ) (q q' : List Queue) (a b : CoreState) → DrainInTurn policy count n q a q' b → length q' ≡ length q
unfolding DrainInTurn
drain_count policy count zero q q' a b h = ap length h.0
drain_count policy count (suc n) q q' a b h = h.3.emptied.as_many ∙ drain_count policy count n q h.0 a h.1 h.2

-- the drains of the hardware queues in turn
pub turn_drained : (policy : Policy) (test : ℕ → Bool) (count n : ℕ) (book : List Placing) (q q' : List Queue) (a b : CoreState) → DrainInTurn policy count n q a q' b → AreDrained test book q a.events → AreDrained (λ s. test s || (nat_lt s (length q) && nat_lt (s % count) n)) book q' b.events
unfolding DrainInTurn
turn_drained policy test count zero book q q' a b h d =
    drained_at (λ s. test s || (nat_lt s (length q) && nat_lt (s % count) 0)) book q q' a.events b.events h.0 (ap (λ (x : CoreState). x.events) h.1)
    (drained_same test (λ s. test s || (nat_lt s (length q) && nat_lt (s % count) 0)) (λ s. sym (ap (λ c. test s || (nat_lt s (length q) && c)) (le-ltb (s % count) 0 (omega arith)) ∙ ap (λ c. test s || c) (and-false (nat_lt s (length q))) ∙ or-false (test s))) book q a.events d)
turn_drained policy test count (suc n) book q q' a b h d =
    let many : length h.0 ≡ length q = drain_count policy count n q h.0 a h.1 h.2 in
    drained_same (λ s. (test s || (nat_lt s (length q) && nat_lt (s % count) n)) || is_served (length h.0) count n s) (λ s. test s || (nat_lt s (length q) && nat_lt (s % count) (suc n)))
    (λ s. or_assoc (test s) (nat_lt s (length q) && nat_lt (s % count) n) (is_served (length h.0) count n s)
    ∙ ap (λ k. test s || ((nat_lt s (length q) && nat_lt (s % count) n) || is_served k count n s)) many
    ∙ ap (λ c. test s || c) (next_point (nat_lt s (length q)) (s % count) n)
    ∙ ap (λ k. test s || (nat_lt s (length q) && nat_lt (s % count) k)) (let e : n + 1 ≡ suc n = omega arith in e)) book q' b.events
    (drain_drained policy (λ s. test s || (nat_lt s (length q) && nat_lt (s % count) n)) count n book h.0 q' h.1 b h.3
    (turn_drained policy test count n book q h.0 a h.1 h.2 d))

pub all_drained : (policy : Policy) (test : ℕ → Bool) (count : ℕ) (book : List Placing) (q q' : List Queue) (a b : CoreState) → 0 < count → DrainInTurn policy count count q a q' b → AreDrained test book q a.events → AreDrained (λ s. test s || nat_lt s (length q)) book q' b.events
all_drained policy test count book q q' a b some h d =
    drained_same (λ s. test s || (nat_lt s (length q) && nat_lt (s % count) count)) (λ s. test s || nat_lt s (length q))
    (λ s. ap (λ c. test s || (nat_lt s (length q) && c)) (lt-ltb (s % count) count (mod-lt s some)) ∙ ap (λ c. test s || c) (and-true (nat_lt s (length q)))) book q' b.events
    (turn_drained policy test count count book q q' a b h d)

-- rounds in which nothing enters
pub drained_passed : (t : ℕ → Bool) (book : List Placing) (queues : List Queue) (n : ℕ) (old new : CoreState) → RoundsPassed n old new → AreDrained t book queues old.events → AreDrained t book queues new.events
drained_passed t book queues n old new p d = record {
  staged = d.staged;
  released = subst (λ l. IsPermutation l (picked (λ p. is_in Released p || (is_in Staged p && t p.bio.id.submitter)) book)) (sym p.entered_same) d.released;
}
