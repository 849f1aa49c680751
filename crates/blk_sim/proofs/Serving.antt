-- The requests of the software queues that a hardware queue serves, and lists after a write.
use Rattle.std.proofs.Common.{arith, ◌≡◌, ◌≢◌, ◌+◌, ◌<◌, ◌≤◌, ◌-◌, ◌%◌, ◌==◌, ◌*◌, ◌/◌, ◌∙◌, ◌++◌, Bool, true, false, ◌∷◌, ℕ, zero, suc, cond, List, [], Some, length, get_or, set, refl, sym, ap, subst, inl, inr, add-one, append_assoc}
use Rattle.std.specs.Prelude.{slice_get}
use Rattle.std.proofs.lemmas.Bool.{cases_eq, cases_lt, eq-eqb, ne_eqb}
use Rattle.std.proofs.lemmas.List.{append-nil, length-set, get_or-set_other, get_or_default}
use Rattle.std.proofs.lemmas.Option.{slice_get_read, slice_get_past, slice_get_within}
use Rattle.std.specs.Option.{option_map}
use Rattle.std.proofs.lemmas.Nat.{div-add-mod', mul-le}
use Rattle.std.proofs.Math.Nat.{lt_of_mul-lt-mul_right}
use Rattle.blk_bio.specs.Bios.{Bio}
use Rattle.blk_queues.specs.Queues.{Queue}
use Rattle.blk_core.specs.State.{CoreState}
use Rattle.blk_sim.specs.declared.refusal.SimReason.{SimReason}
use Rattle.blk_sim.specs.Moves.{EnterInTurn, requests_in, served_requests, drained}
use Rattle.blk_sim.specs.Refusals.{IsMoveRefused}
use Rattle.blk_sim.proofs.Chains.{enter_both}
use Rattle.blk_sched.specs.Policies.{Policy}
use Rattle.std.proofs.lemmas.Grind.{get_or-set_at}

-- the requests of the first software queues
pub served_none : (queues : List Queue) (hw h : ℕ) → served_requests queues hw h 0 ≡ []
unfolding served_requests
served_none queues hw h = refl

served_suc : (queues : List Queue) (hw h n : ℕ) → served_requests queues hw h (n + 1) ≡ served_requests queues hw h n ++ cond ((n % hw) == h) (requests_in (slice_get queues n)) []
unfolding served_requests
served_suc queues hw h n = rw add-one refl

served_next : (queues : List Queue) (hw h n : ℕ) (q : Queue) → slice_get queues n ≡ Some q → (n % hw) ≡ h → served_requests queues hw h (n + 1) ≡ served_requests queues hw h n ++ q.requests
served_next queues hw h n q at e = served_suc queues hw h n
    ∙ ap (λ b. served_requests queues hw h n ++ cond b (requests_in (slice_get queues n)) []) (eq-eqb (n % hw) h e)
    ∙ ap (λ o. served_requests queues hw h n ++ requests_in o) at

served_pass : (queues : List Queue) (hw h n : ℕ) → (n % hw) ≢ h → served_requests queues hw h (n + 1) ≡ served_requests queues hw h n
served_pass queues hw h n ne = served_suc queues hw h n
    ∙ ap (λ b. served_requests queues hw h n ++ cond b (requests_in (slice_get queues n)) []) (ne_eqb (n % hw) h ne)
    ∙ append-nil (served_requests queues hw h n)

-- a queue's requests stand among those that its hardware queue serves
abbrev IsPart : List Queue → ℕ → ℕ → ℕ → ℕ → Queue → Type 0
IsPart queues hw h s n q = (rest : List (List Bio)) × (served_requests queues hw h n ≡ served_requests queues hw h s ++ (q.requests ++ rest))

part_more : (queues : List Queue) (hw h s m : ℕ) (q : Queue) → IsPart queues hw h s m q → IsPart queues hw h s (m + 1) q
part_more queues hw h s m q p =
    let piece : List (List Bio) = cond ((m % hw) == h) (requests_in (slice_get queues m)) [] in
    (p.0 ++ piece, served_suc queues hw h m ∙ ap (λ l. l ++ piece) p.1 ∙ append_assoc (served_requests queues hw h s) (q.requests ++ p.0) piece ∙ ap (λ l. served_requests queues hw h s ++ l) (append_assoc q.requests p.0 piece))

part : (queues : List Queue) (hw h s n : ℕ) (q : Queue) → s < n → slice_get queues s ≡ Some q → (s % hw) ≡ h → IsPart queues hw h s n q
part queues hw h s zero q lt at e = absurd (omega (arith, lt))
part queues hw h s (suc m) q lt at e = elim (cases_eq s m) [
  | inl same ↦ ([], ap (λ k. served_requests queues hw h k) (let k : suc m ≡ s + 1 = omega (arith, same) in k) ∙ served_next queues hw h s q at e ∙ ap (λ l. served_requests queues hw h s ++ l) (sym (append-nil q.requests)))
  | inr other ↦ subst (λ k. IsPart queues hw h s k q) (let k : m + 1 ≡ suc m = omega arith in k) (part_more queues hw h s m q (part queues hw h s m q (omega (arith, lt, other)) at e))
]

-- the loop's step at a software queue that the hardware queue serves, and at another one
pub enter_next : (policy : Policy) (queues : List Queue) (hw h n : ℕ) (q : Queue) (a b c : CoreState) → slice_get queues n ≡ Some q → (n % hw) ≡ h → EnterInTurn policy h (served_requests queues hw h n) a b → EnterInTurn policy h q.requests b c → EnterInTurn policy h (served_requests queues hw h (n + 1)) a c
enter_next policy queues hw h n q a b c at e t u =
    subst (λ l. EnterInTurn policy h l a c) (sym (served_next queues hw h n q at e)) (enter_both policy h (served_requests queues hw h n) q.requests a b c t u)

pub enter_pass : (policy : Policy) (queues : List Queue) (hw h n : ℕ) (a b : CoreState) → (n % hw) ≢ h → EnterInTurn policy h (served_requests queues hw h n) a b → EnterInTurn policy h (served_requests queues hw h (n + 1)) a b
enter_pass policy queues hw h n a b ne t = subst (λ l. EnterInTurn policy h l a b) (sym (served_pass queues hw h n ne)) t

pub move_later : (policy : Policy) (queues : List Queue) (hw h s n : ℕ) (q : Queue) (a b : CoreState) (w : SimReason) → s < n → slice_get queues s ≡ Some q → (s % hw) ≡ h → EnterInTurn policy h (served_requests queues hw h s) a b → IsMoveRefused policy q.requests b h w → IsMoveRefused policy (served_requests queues hw h n) a h w
move_later policy queues hw h s n q a b w lt at e t r =
    let p = part queues hw h s n q lt at e in
    let front : List (List Bio) = served_requests queues hw h s in
    record {
      before = front ++ r.before;
      bios = r.bios;
      after = r.after ++ p.0;
      place = p.1 ∙ ap (λ l. front ++ (l ++ p.0)) r.place ∙ ap (λ l. front ++ l) (append_assoc r.before (r.bios ∷ r.after) p.0) ∙ sym (append_assoc front r.before (r.bios ∷ (r.after ++ p.0)));
      middle = r.middle;
      entered = enter_both policy h front r.before a b r.middle t r.entered;
      refused = r.refused;
    }

-- the software queue behind one that a hardware queue serves that it serves next is `hw` behind it
pub none_between : (hw h s j : ℕ) → (s % hw) ≡ h → s < j → j < s + hw → (j % hw) ≢ h
none_between hw h s j e above below here =
    let low : (s / hw) * hw + s % hw ≡ s = div-add-mod' s hw in
    let high : (j / hw) * hw + j % hw ≡ j = div-add-mod' j hw in
    let more : (s / hw) * hw < (j / hw) * hw = omega (arith, low, high, e, here, above) in
    let next : (s / hw) + 1 ≤ j / hw = let lt = lt_of_mul-lt-mul_right hw more in omega (arith, lt) in
    let far : ((s / hw) + 1) * hw ≤ (j / hw) * hw = mul-le ((s / hw) + 1) hw (j / hw) hw next (omega arith) in
    let split : ((s / hw) + 1) * hw ≡ (s / hw) * hw + hw = omega arith in
    absurd (omega (arith, low, high, e, here, below, far, split))

either_same : {X : Type 0} (b : Bool) (x : X) → cond b x x ≡ x
either_same true x = refl
either_same false x = refl

-- what is passed over holds nothing that enters
pub enter_past : (policy : Policy) (queues : List Queue) (hw h n k : ℕ) (a b : CoreState) → ((j : ℕ) → n ≤ j → j < n + k → (j % hw) ≢ h) → EnterInTurn policy h (served_requests queues hw h n) a b → EnterInTurn policy h (served_requests queues hw h (n + k)) a b
enter_past policy queues hw h n zero a b none t = subst (λ m. EnterInTurn policy h (served_requests queues hw h m) a b) (let e : n ≡ n + zero = omega arith in e) t
enter_past policy queues hw h n (suc k) a b none t =
    subst (λ m. EnterInTurn policy h (served_requests queues hw h m) a b) (let e : (n + k) + 1 ≡ n + suc k = omega arith in e)
    (enter_pass policy queues hw h (n + k) a b (none (n + k) (omega arith) (omega arith))
    (enter_past policy queues hw h n k a b (λ j le lt. none j le (omega (arith, lt))) t))

-- behind the last software queue there is none
served_end : (queues : List Queue) (hw h k : ℕ) → served_requests queues hw h (length queues + k) ≡ served_requests queues hw h (length queues)
served_end queues hw h zero = ap (served_requests queues hw h) (let e : length queues + zero ≡ length queues = omega arith in e)
served_end queues hw h (suc k) =
    ap (served_requests queues hw h) (let e : length queues + suc k ≡ (length queues + k) + 1 = omega arith in e)
    ∙ served_suc queues hw h (length queues + k)
    ∙ ap (λ o. served_requests queues hw h (length queues + k) ++ cond (((length queues + k) % hw) == h) (requests_in o) []) (slice_get_past queues (length queues + k) (omega arith))
    ∙ ap (λ l. served_requests queues hw h (length queues + k) ++ l) (either_same (((length queues + k) % hw) == h) [])
    ∙ append-nil (served_requests queues hw h (length queues + k))
    ∙ served_end queues hw h k

pub served_past : (queues : List Queue) (hw h n : ℕ) → length queues ≤ n → served_requests queues hw h n ≡ served_requests queues hw h (length queues)
served_past queues hw h n le = ap (served_requests queues hw h) (let e : n ≡ length queues + (n - length queues) = omega (arith, le) in e) ∙ served_end queues hw h (n - length queues)

-- what was written stands there
pub get_same : {X : Type 0} (xs : List X) (k : ℕ) (x y : X) → slice_get xs k ≡ Some x → slice_get (set xs k y) k ≡ Some y
get_same xs k x y at =
    let lt : k < length xs = slice_get_within xs k x at in
    let n : length (set xs k y) ≡ length xs = length-set xs k y in
    let lt2 : k < length (set xs k y) = omega (arith, n, lt) in
    slice_get_read (set xs k y) (length (set xs k y)) k y refl lt2 (sym (get_or-set_at xs k k y y refl lt))

-- what a write leaves at another place
pub get_other : {X : Type 0} (xs : List X) (k s : ℕ) (y : X) → s ≢ k → slice_get (set xs k y) s ≡ slice_get xs s
get_other xs k s y ne =
    let n : length (set xs k y) ≡ length xs = length-set xs k y in
    elim (cases_lt s (length xs)) [
      | inl lt ↦
          let lt2 : s < length (set xs k y) = omega (arith, n, lt) in
          let here : slice_get xs s ≡ Some (get_or xs s y) = slice_get_read xs (length xs) s (get_or xs s y) refl lt (get_or_default xs s y (get_or xs s y) lt) in
          let there : slice_get (set xs k y) s ≡ Some (get_or xs s y) = slice_get_read (set xs k y) (length (set xs k y)) s (get_or xs s y) refl lt2 (get_or_default xs s y (get_or xs s y) lt ∙ sym (get_or-set_other xs k s y (get_or xs s y) ne)) in
          there ∙ sym here
      | inr ge ↦ slice_get_past (set xs k y) s (omega (arith, n, ge)) ∙ sym (slice_get_past xs s ge)
    ]

-- past the end nothing stands, drained or not
pub none_past : (queues : List Queue) (t : ℕ) → length queues ≤ t → slice_get queues t ≡ option_map drained (slice_get queues t)
none_past queues t le = let e = slice_get_past queues t le in e ∙ sym (ap (option_map drained) e)
