-- Between two rounds: how each request stands, and that a round keeps it so.
use Rattle.std.proofs.Common.{◌≡◌, ◌≢◌, ◌<◌, ◌≤◌, ◌∙◌, ◌⊎◌, sym, ap, refl, subst, ℕ, suc, zero, ◌+◌, ◌-◌, arith, List, [], ◌∷◌, length, get_or, set, Some, None, inl, inr, length-set}
use Rattle.std.specs.Prelude.{slice_get}
use Rattle.std.proofs.lemmas.Bool.{cases_eq, cases_lt}
use Rattle.std.proofs.lemmas.List.{get_or-set_same, get_or-set_other}
use Rattle.std.proofs.lemmas.Option.{slice_get_within, get_or_from_slice_get}
use Rattle.std.specs.FinMap.{get, remove, len}
use Rattle.blk_sched.specs.Meaning.{Waiting, Pending, Meaning, no_picks}
use Rattle.blk_sched.specs.Policies.{Policy}
use Rattle.blk_replay.specs.declared.Arrived.{Arrived}
use Rattle.blk_replay.specs.Replay.{waiting, once_entered, CanReplay, Standing, standing, with_entered, ServesNext, IsRound, PlaysRounds}
use Rattle.blk_replay.specs.Inside.{HasEntered, IsLater}
use Rattle.blk_replay.proofs.Pending.{get_gone, get_left, len_gone}
use Rattle.blk_replay.proofs.Entering.{entered_all}

-- the request at a place waits
pub record Waits (P : Pending) (rounds : List ℕ) (p : ℕ) (r : Arrived) : Type 0 where
  pub there : get P p ≡ Some (waiting p r)
  pub zero_yet : get_or rounds p 0 ≡ 0

-- or was served in one of the first n rounds
pub record WasServed (P : Pending) (rounds : List ℕ) (n p : ℕ) (r : Arrived) : Type 0 where
  pub gone : get P p ≡ None
  pub some_round : 0 < get_or rounds p 0
  pub by_now : get_or rounds p 0 ≤ n
  pub released : r.release ≤ get_or rounds p 0

-- n rounds are over, and the requests below the place `next` have entered
pub record IsBetween (policy : Policy) (requests : List Arrived) (start : Standing) (rounds : List ℕ) (next n : ℕ) (now : Standing) : Type 0 where
  pub one_each : length rounds ≡ length requests
  pub within : next ≤ length requests
  pub none_open : now.meaning.open_picks ≡ no_picks
  pub front : now.meaning.front ≡ start.meaning.front
  pub count : len now.meaning.pending + n ≡ next
  pub before : (p : ℕ) (r : Arrived) → p < next → slice_get requests p ≡ Some r → r.release ≤ n
  pub after : (p : ℕ) (r : Arrived) → next ≤ p → slice_get requests p ≡ Some r → n < r.release
  pub stands : (p : ℕ) (r : Arrived) → p < next → slice_get requests p ≡ Some r → Waits now.meaning.pending rounds p r ⊎ WasServed now.meaning.pending rounds n p r
  pub not_there : (p : ℕ) → next ≤ p → get now.meaning.pending p ≡ None
  pub no_round : (p : ℕ) → next ≤ p → get_or rounds p 0 ≡ 0
  pub apart : (p q : ℕ) → get_or rounds p 0 ≡ get_or rounds q 0 → 0 < get_or rounds p 0 → p ≡ q
  pub played : PlaysRounds policy requests rounds n start now

-- an element of a list
pub at_place : {X : Type 0} (xs : List X) (p : ℕ) → p < length xs → (x : X) × (slice_get xs p ≡ Some x)
at_place [] p lt = absurd (omega arith)
at_place (x ∷ xs) zero lt = (x, refl)
at_place (x ∷ xs) (suc p) lt = at_place xs p (omega arith)

-- no round is past the last
rounds-le : (policy : Policy) (requests : List Arrived) (start : Standing) (rounds : List ℕ) (next n : ℕ) (now : Standing) → IsBetween policy requests start rounds next n now → (p : ℕ) → get_or rounds p 0 ≤ n
rounds-le policy requests start rounds next n now h p = elim (cases_lt p next) [
  | inl lt ↦
      let r = at_place requests p (omega (arith, h.within)) in
      elim (h.stands p r.0 lt r.1) [ inl w ↦ omega (arith, w.zero_yet) | inr s ↦ s.by_now ]
  | inr le ↦ omega (arith, h.no_round p le)
]

-- what waits once the requests of the next round have entered
pub record IsWaiting (requests : List Arrived) (rounds : List ℕ) (next round id : ℕ) (w : Waiting) : Type 0 where
  pub request : Arrived
  pub stands : slice_get requests id ≡ Some request
  pub is : w ≡ waiting id request
  pub below : id < next
  pub released : request.release ≤ round
  pub zero_yet : get_or rounds id 0 ≡ 0

pub is_waiting : (policy : Policy) (requests : List Arrived) (start : Standing) (rounds : List ℕ) (first next n : ℕ) (now : Standing) (P : Pending) → IsBetween policy requests start rounds first n now → HasEntered requests (n + 1) first next now.meaning.pending P → (id : ℕ) (w : Waiting) → get P id ≡ Some w → IsWaiting requests rounds next (n + 1) id w
is_waiting policy requests start rounds first next n now P h e id w there = elim (cases_lt id first) [
  | inl lt ↦
      let r = at_place requests id (omega (arith, h.within)) in
      elim (h.stands id r.0 lt r.1) [
        | inl x ↦
            let one : Some w ≡ Some (waiting id r.0) = sym there ∙ e.below id lt ∙ x.there in
            record { request = r.0; stands = r.1; is = cc; below = omega (arith, e.from); released = omega (arith, h.before id r.0 lt r.1); zero_yet = x.zero_yet }
        | inr s ↦ let no : Some w ≡ None = sym there ∙ e.below id lt ∙ s.gone in absurd (cc)
      ]
  | inr le ↦ elim (cases_lt id next) [
    | inl lt ↦
        let r = at_place requests id (omega (arith, e.within)) in
        let this = e.these id r.0 le lt r.1 in
        let one : Some w ≡ Some (waiting id r.0) = sym there ∙ this.1 in
        record { request = r.0; stands = r.1; is = cc; below = lt; released = omega (arith, this.0); zero_yet = h.no_round id le }
    | inr past ↦ let no : Some w ≡ None = sym there ∙ e.above id past ∙ h.not_there id le in absurd (cc)
  ]
]

-- releases rise
rising : (requests : List Arrived) → CanReplay requests → (p k : ℕ) (d : Arrived) → p + k < length requests → (get_or requests p d).release ≤ (get_or requests (p + k) d).release
rising requests can p zero d lt = let e : p ≡ p + 0 = omega arith in subst (λ q. (get_or requests p d).release ≤ (get_or requests q d).release) e (omega arith)
rising requests can p (suc k) d lt =
    let e : (p + k) + 1 ≡ p + suc k = omega arith in
    let more : (get_or requests (p + k) d).release ≤ (get_or requests (p + suc k) d).release = subst (λ q. (get_or requests (p + k) d).release ≤ (get_or requests q d).release) e (can.in_order (p + k) d (omega arith)) in
    omega (arith, more, rising requests can p k d (omega arith))

-- behind the first that is not released by now is none that is
all_later : (requests : List Arrived) → CanReplay requests → (next round : ℕ) → IsLater requests round next → ((p : ℕ) (r : Arrived) → next ≤ p → slice_get requests p ≡ Some r → round ≤ r.release) → (p : ℕ) (r : Arrived) → next ≤ p → slice_get requests p ≡ Some r → round < r.release
all_later requests can next round later after p r le is =
    let lt = slice_get_within requests p r is in
    let first = at_place requests next (omega arith) in
    let least : round ≤ first.0.release = after next first.0 (omega arith) first.1 in
    let e : next + (p - next) ≡ p = omega arith in
    let here : (get_or requests next r).release ≡ first.0.release = ap (λ (y : Arrived). y.release) (get_or_from_slice_get requests next first.0 r first.1) in
    let there : (get_or requests (next + (p - next)) r).release ≡ r.release = ap (λ q. (get_or requests q r).release) e ∙ ap (λ (y : Arrived). y.release) (get_or_from_slice_get requests p r r is) in
    let rise : (get_or requests next r).release ≤ (get_or requests (next + (p - next)) r).release = rising requests can next (p - next) r (omega arith) in
    elim (cases_lt round first.0.release) [
      | inl above ↦ omega arith
      | inr not_above ↦ absurd (later first.0 first.1 (omega arith))
    ]

-- more have entered by now than rounds are over
pub some_wait : (policy : Policy) (requests : List Arrived) (start : Standing) (rounds : List ℕ) (first next n : ℕ) (now : Standing) (P : Pending) → CanReplay requests → n < length requests → IsBetween policy requests start rounds first n now → HasEntered requests (n + 1) first next now.meaning.pending P → IsLater requests (n + 1) next → 0 < len P
some_wait policy requests start rounds first next n now P can more h e later = elim (cases_lt n next) [
  | inl lt ↦ omega (arith, e.count, h.count)
  | inr le ↦
      let r = at_place requests next (omega arith) in
      let late : n + 1 < r.0.release = all_later requests can next (n + 1) later (λ p x past is. omega (arith, h.after p x (omega (arith, e.from)) is)) next r.0 (omega arith) r.1 in
      let same : (get_or requests next r.0).release ≡ r.0.release = ap (λ (y : Arrived). y.release) (get_or_from_slice_get requests next r.0 r.0 r.1) in
      absurd (omega (arith, can.in_time next r.0 (omega arith)))
]

-- an answer for a request that has none keeps the rounds that are over
rounds_kept : (policy : Policy) (requests : List Arrived) (rounds : List ℕ) (n : ℕ) (start now : Standing) (id x : ℕ) → get_or rounds id 0 ≡ 0 → PlaysRounds policy requests rounds n start now → PlaysRounds policy requests (set rounds id x) n start now
unfolding PlaysRounds
rounds_kept policy requests rounds zero start now id x none h = h
rounds_kept policy requests rounds (suc n) start now id x none h =
    let last = h.2 in (
      h.0,
      rounds_kept policy requests rounds n start h.0 id x none h.1,
      record {
        served = last.served;
        serves = last.serves;
        answered = get_or-set_other rounds id last.served.id x 0 (λ (same : last.served.id ≡ id). let e : get_or rounds last.served.id 0 ≡ 0 = ap (λ q. get_or rounds q 0) same ∙ none in absurd (omega (arith, e, last.answered))) ∙ last.answered;
      },
    )

-- one round more
rounds_more : (policy : Policy) (requests : List Arrived) (rounds : List ℕ) (n : ℕ) (start now new : Standing) → PlaysRounds policy requests rounds n start now → IsRound policy requests rounds (n + 1) now new → PlaysRounds policy requests rounds (n + 1) start new
unfolding PlaysRounds
rounds_more policy requests rounds n start now new h last =
    let e : suc n ≡ n + 1 = omega arith in
    let parts : PlaysRounds policy requests rounds (suc n) start new = (now, h, subst (λ k. IsRound policy requests rounds k now new) (sym e) last) in
    subst (λ k. PlaysRounds policy requests rounds k start new) e parts

-- a round over, the requests stand as they ought to
pub round_over : (policy : Policy) (requests : List Arrived) (start : Standing) (rounds : List ℕ) (first next n : ℕ) (now : Standing) (middle : Meaning) (kept : List ℕ) (w : Waiting) (new : Standing) → CanReplay requests → IsBetween policy requests start rounds first n now → HasEntered requests (n + 1) first next now.meaning.pending middle.pending → IsLater requests (n + 1) next → middle ≡ record now.meaning { pending = middle.pending } → kept ≡ now.kept → ServesNext policy (n + 1) (standing middle kept) w new → IsBetween policy requests start (set rounds w.id (n + 1)) next (n + 1) new
round_over policy requests start rounds first next n now middle kept w new can h e later rest same_kept s =
    let it : IsWaiting requests rounds next (n + 1) w.id w = is_waiting policy requests start rounds first next n now middle.pending h e w.id w s.waits in
    let pending : new.meaning.pending ≡ remove middle.pending w.id = ap (λ (m : Meaning). m.pending) s.left in
    let inside : w.id < length rounds = omega (arith, it.below, e.within, h.one_each) in
    let here : get_or (set rounds w.id (n + 1)) w.id 0 ≡ n + 1 = get_or-set_same rounds w.id (n + 1) 0 inside in
    let others : (p : ℕ) → p ≢ w.id → get_or (set rounds w.id (n + 1)) p 0 ≡ get_or rounds p 0 = λ p ne. get_or-set_other rounds w.id p (n + 1) 0 ne in
    let gone : get new.meaning.pending w.id ≡ None = ap (λ (m : Pending). get m w.id) pending ∙ get_gone middle.pending w.id in
    let still : (p : ℕ) → p ≢ w.id → get new.meaning.pending p ≡ get middle.pending p = λ p ne. ap (λ (m : Pending). get m p) pending ∙ get_left middle.pending w.id p ne in
    let most : (p : ℕ) → get_or rounds p 0 ≤ n = rounds-le policy requests start rounds first n now h in
    let past : (p : ℕ) → next ≤ p → p ≢ w.id = λ p le same. absurd (omega (arith, it.below)) in
    let all : middle.pending ≡ once_entered (n + 1) 0 requests now.meaning.pending = e.is ∙ entered_all (n + 1) 0 next requests now.meaning.pending (λ p le r is same. absurd (omega (arith, all_later requests can next (n + 1) later (λ q x past is. omega (arith, h.after q x (omega (arith, e.from)) is)) p r le is))) in
    let stood : standing middle kept ≡ with_entered requests (n + 1) now = λ i. record { meaning = (rest ∙ ap (λ (P : Pending). record now.meaning { pending = P }) all) i; kept = same_kept i } in
    record {
      one_each = length-set rounds w.id (n + 1) ∙ h.one_each;
      within = e.within;
      none_open = ap (λ (m : Meaning). m.open_picks) s.left ∙ ap (λ (m : Meaning). m.open_picks) rest ∙ h.none_open;
      front = ap (λ (m : Meaning). m.front) s.left ∙ ap (λ (m : Meaning). m.front) rest ∙ h.front;
      count =
          let less : len new.meaning.pending + 1 ≡ len middle.pending = ap (λ (m : Pending). len m + 1) pending ∙ len_gone middle.pending w.id w s.waits in
          omega (arith, less, e.count, h.count);
      before = λ p r lt is. elim (cases_lt p first) [
        | inl old ↦ omega (arith, h.before p r old is)
        | inr le ↦ omega (arith, (e.these p r le lt is).0)
      ];
      after = λ p r le is. all_later requests can next (n + 1) later (λ q x past is. omega (arith, h.after q x (omega (arith, e.from)) is)) p r le is;
      stands = λ p r lt is. elim (cases_eq p w.id) [
        | inl same ↦
            let one : r ≡ it.request = let e : slice_get requests p ≡ slice_get requests w.id = ap (slice_get requests) same in let f = it.stands in cc in
            let at : get_or (set rounds w.id (n + 1)) p 0 ≡ n + 1 = ap (λ q. get_or (set rounds w.id (n + 1)) q 0) same ∙ here in
            let released : r.release ≡ it.request.release = ap (λ (y : Arrived). y.release) one in
            inr (record { gone = ap (get new.meaning.pending) same ∙ gone; some_round = omega arith; by_now = omega arith; released = omega (arith, it.released) })
        | inr other ↦ elim (cases_lt p first) [
          | inl old ↦ elim (h.stands p r old is) [
            | inl x ↦ inl (record { there = still p other ∙ e.below p old ∙ x.there; zero_yet = others p other ∙ x.zero_yet })
            | inr x ↦ inr (record {
              gone = still p other ∙ e.below p old ∙ x.gone;
              some_round = omega (arith, others p other, x.some_round);
              by_now = omega (arith, others p other, x.by_now);
              released = omega (arith, others p other, x.released);
            })
          ]
          | inr le ↦ inl (record { there = still p other ∙ (e.these p r le lt is).1; zero_yet = others p other ∙ h.no_round p le })
        ]
      ];
      not_there = λ p le. still p (past p le) ∙ e.above p le ∙ h.not_there p (omega (arith, e.from));
      no_round = λ p le. others p (past p le) ∙ h.no_round p (omega (arith, e.from));
      apart = λ p q same some. elim (cases_eq p w.id) [
        | inl a ↦ elim (cases_eq q w.id) [
          | inl b ↦ a ∙ sym b
          | inr b ↦
              let x : get_or (set rounds w.id (n + 1)) p 0 ≡ n + 1 = ap (λ k. get_or (set rounds w.id (n + 1)) k 0) a ∙ here in
              absurd (omega (arith, x, same, others q b, most q))
        ]
        | inr a ↦ elim (cases_eq q w.id) [
          | inl b ↦
              let x : get_or (set rounds w.id (n + 1)) q 0 ≡ n + 1 = ap (λ k. get_or (set rounds w.id (n + 1)) k 0) b ∙ here in
              absurd (omega (arith, x, same, others p a, most p))
          | inr b ↦ h.apart p q (sym (others p a) ∙ same ∙ others q b) (omega (arith, others p a, some))
        ]
      ];
      played = rounds_more policy requests (set rounds w.id (n + 1)) n start now new
          (rounds_kept policy requests rounds n start now w.id (n + 1) it.zero_yet h.played)
          (record { served = w; serves = subst (λ (x : Standing). ServesNext policy (n + 1) x w new) stood s; answered = here });
    }
