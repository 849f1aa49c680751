-- The requests of a capture on their way into a scheduler: they can be replayed, and their rounds are a legal schedule of their commands.
use Rattle.std.proofs.Common.{◌≡◌, ◌<◌, ◌≤◌, ◌∙◌, sym, ap, refl, subst, ℕ, suc, ◌+◌, ◌-◌, ◌==◌, arith, cond, Bool, true, false, List, [], ◌∷◌, length, get_or, count_by, map, inl, inr}
use Rattle.std.specs.Prelude.{All, nat_lt, nat_le, min, ◌↔◌}
use Rattle.std.specs.List.Sorted.{IsNonDecreasingBy}
use Rattle.std.specs.Ordering.{nat_cmp, is_lt}
use Rattle.std.specs.declared.cmp.Ordering.TheVariants.{Less, Equal, Greater}
use Rattle.std.specs.Cmp.{nat_cmp_total}
use Rattle.std.proofs.lemmas.Bool.{cases_lt, cases_eq, lt-ltb, le-ltb, lt-leb, le-leb, ltb-true, eq-eqb, ne_eqb}
use Rattle.std.proofs.lemmas.List.{get_or-map, length-map, get_or_default}
use Rattle.std.proofs.lemmas.List.Elements.{Contains-get_or}
use Rattle.std.proofs.lemmas.List.Sorted.{All-permutation, Contains-permutation, sum_by-IsPermutation, IsPermutation-map, length_permutation, sorted_far, ranks_by}
use Rattle.std.proofs.lemmas.List.Sums.{sum_by-cons, count_by-le-length}
use Rattle.std.proofs.lemmas.Map.Keys.{IsDistinct-from_apart, IsDistinct-IsPermutation, apart_from_distinct}
use Rattle.std.proofs.lemmas.Option.{get_or_from_slice_get}
use Rattle.edd_commands.specs.declared.Command.{Command}
use Rattle.edd_commands.specs.declared.TheConstants.{MAX_COMMANDS, MAX_ROUNDS}
use Rattle.edd_commands.specs.Capacity.{fixed}
use Rattle.edd_commands.specs.Schedule.{IsLegal, places_at}
use Rattle.blk_capture.specs.Counting.{AreInRounds, AreServed, dispatched_before, dispatched_by}
use Rattle.blk_capture.specs.Requests.{times_of, AreTimed}
use Rattle.blk_capture.specs.declared.counting.TimedRequest.{TimedRequest}
use Rattle.blk_capture.specs.declared.record.TheConstants.{MAX_TIME}
use Rattle.blk_capture.specs.declared.requests.CapturedRequest.{CapturedRequest}
use Rattle.blk_capture.proofs.Rounds.{count_at_most, count_at_least, by_few}
use Rattle.blk_capture.proofs.Settling.{map_served}
use Rattle.blk_replay.specs.declared.Arrived.{Arrived}
use Rattle.blk_replay.specs.declared.requests.DueBy.{DueBy}
use Rattle.blk_replay.specs.declared.requests.DueBy.TheVariants.{Deadline, Fifo}
use Rattle.blk_replay.specs.declared.requests.Entrant.{Entrant}
use Rattle.blk_replay.specs.Replay.{CanReplay, HaveOwnRounds, commands_by_arrival}
use Rattle.blk_replay.specs.Requests.{went_before, expire_by, due_round, ArePlaces, AreArriving, AreByRelease, AreApart, ArePut, AreRounds, AreLateByTheClock}
use Rattle.blk_replay.proofs.Between.{at_place}
use Rattle.blk_replay.proofs.Legal.{commands_long, command_at, count_once, one_deep}

-- ---- counts

-- two lists of which the same places pass
count_same : {X Y : Type 0} (p : X → Bool) (r : Y → Bool) (xs : List X) (ys : List Y) → length xs ≡ length ys → ((k : ℕ) (d : X) (e : Y) → k < length xs → p (get_or xs k d) ≡ r (get_or ys k e)) → count_by p xs ≡ count_by r ys
count_same p r [] [] e h = refl
count_same p r [] (y ∷ ys) e h = absurd (omega (arith, e))
count_same p r (x ∷ xs) [] e h = absurd (omega (arith, e))
count_same p r (x ∷ xs) (y ∷ ys) e h =
    let n : ℕ = cond (p x) 1 0 in
    let m : ℕ = cond (r y) 1 0 in
    let one : n ≡ m = ap (λ b. let k : ℕ = cond b 1 0 in k) (h 0 x y (omega arith)) in
    let rest : count_by p xs ≡ count_by r ys = count_same p r xs ys (omega (arith, e)) (λ k d f lt. h (suc k) d f (omega (arith, lt))) in
    omega (arith, one, rest, sum_by-cons (λ z. cond (p z) 1 0) x xs, sum_by-cons (λ z. cond (r z) 1 0) y ys)

less_or_same : (a b : Bool) → (a ≡ true → b ≡ true) → cond a 1 0 ≤ cond b 1 0
less_or_same false true h = omega arith
less_or_same false false h = omega arith
less_or_same true true h = omega arith
less_or_same true false h = let e : false ≡ true = h refl in absurd (cc)

-- what passes one test passes another
count_more : {X : Type 0} (p r : X → Bool) (xs : List X) → ((x : X) → p x ≡ true → r x ≡ true) → count_by p xs ≤ count_by r xs
count_more p r [] h = omega arith
count_more p r (x ∷ xs) h =
    omega (arith, less_or_same (p x) (r x) (h x), count_more p r xs h, sum_by-cons (λ z. cond (p z) 1 0) x xs, sum_by-cons (λ z. cond (r z) 1 0) x xs)

before_more : (timed : List TimedRequest) (t u : ℕ) → t ≤ u → dispatched_before timed t ≤ dispatched_before timed u
unfolding dispatched_before
before_more timed t u le =
    count_more (λ r. nat_lt r.dispatch t) (λ r. nat_lt r.dispatch u) timed (λ r e. let lt : r.dispatch < t = ltb-true _ _ e in lt-ltb r.dispatch u (omega arith))

went_few : (requests : List CapturedRequest) (time : ℕ) → went_before requests time ≤ length requests
unfolding went_before
went_few requests time = count_by-le-length (λ q. nat_lt q.dispatched time) requests

-- by a time fewer went out than a round's number just where that went out after it
pub late_by : (timed : List TimedRequest) (t m : ℕ) (d : TimedRequest) → AreServed timed → m < length timed → (dispatched_by timed t < m + 1) ↔ (t < (get_or timed m d).dispatch)
unfolding dispatched_by
late_by timed t m d served here =
    let by : TimedRequest → Bool = λ r. nat_le r.dispatch t in
    let same : (e : TimedRequest) → (get_or timed m e).dispatch ≡ (get_or timed m d).dispatch = λ e. ap (λ (r : TimedRequest). r.dispatch) (get_or_default timed m e d here) in (
      λ late.
          elim (cases_lt t (get_or timed m d).dispatch) [
            | inl after ↦ after
            | inr within ↦
                let all : m + 1 ≤ count_by by timed =
                count_at_least by timed (m + 1) (omega arith)
                (λ j e low.
                let up : (get_or timed j e).dispatch ≤ (get_or timed m e).dispatch = served.rising j m e (omega arith) here in
                le-leb (get_or timed j e).dispatch t (omega (arith, up, same e, within))) in
                absurd (omega (arith, late, all))
          ],
      λ after.
          let few : count_by by timed ≤ m =
          count_at_most by timed m
          (λ j e low high.
          let up : (get_or timed m e).dispatch ≤ (get_or timed j e).dispatch = served.rising m j e low high in
          lt-leb (get_or timed j e).dispatch t (omega (arith, up, same e, after))) in
          omega (arith, few),
    )

-- ---- each on its way

-- an entrant as it ought to be
pub record IsOnItsWay (requests : List CapturedRequest) (e : Entrant) : Type 0 where
  pub in_list : e.place < length requests
  pub its : (q : CapturedRequest) → e.released ≡ (get_or requests e.place q).released

due_in_range : (requests : List CapturedRequest) (q : CapturedRequest) (due : ℕ) (by : DueBy) → length requests ≤ MAX_COMMANDS → due ≤ length requests → due_round requests q due by < MAX_ROUNDS
due_in_range requests q due Deadline few small = omega (arith, few, small)
due_in_range requests q due (Fifo read write) few small = omega (arith, few, went_few requests (min (q.entry + expire_by read write q.dir) MAX_TIME))

-- tests of numbers
is_less : (x y : ℕ) → x < y → is_lt (nat_cmp x y) ≡ true
is_less x y lt = ap (λ b. is_lt (cond b Less (cond (x == y) Equal Greater))) (lt-ltb x y lt)

flips : (x y : ℕ) → (x == y) ≡ (y == x)
flips x y = elim (cases_eq x y) [
  | inl same ↦ eq-eqb x y same ∙ sym (eq-eqb y x (sym same))
  | inr other ↦ ne_eqb x y other ∙ sym (ne_eqb y x (λ e. other (sym e)))
]

differ_not : (x y : ℕ) → x < y → (x == y) ≡ false
differ_not x y lt = ne_eqb x y (λ (e : x ≡ y). absurd (omega (arith, e, lt)))

same_not : (x y : ℕ) → x ≡ y → (x == y) ≡ false → ⊥
same_not x y e never = let wrong : true ≡ false = sym (eq-eqb x y e) ∙ never in absurd (cc)

module _ (requests : List CapturedRequest) (placed entrants : List Entrant) (are : ArePlaces requests placed) (sorted : AreByRelease placed entrants) where
  pub long : length entrants ≡ length requests
  long = length_permutation placed entrants sorted.same ∙ are.each

  on_their_way : All (IsOnItsWay requests) placed
  on_their_way k e lt =
      let here : k < length requests = omega (arith, lt, are.each) in
      let q = at_place requests k here in
      subst (IsOnItsWay requests) (sym (are.are k e q.0 here))
      (record { in_list = here; its = λ d. ap (λ (x : CapturedRequest). x.released) (get_or_default requests k q.0 d here) })

  each : All (IsOnItsWay requests) entrants
  each = All-permutation (IsOnItsWay requests) placed entrants sorted.same on_their_way

  pub within : All (λ (e : Entrant). e.place < length requests) entrants
  within k e lt = (each k e lt).in_list

  rising : IsNonDecreasingBy (λ (e : Entrant). e.released) entrants
  rising i j d le lt =
      let far : is_lt (nat_cmp (get_or entrants j d).released (get_or entrants i d).released) ≡ false = sorted_far (λ (x y : Entrant). is_lt (nat_cmp x.released y.released)) (ranks_by nat_cmp_total (λ (e : Entrant). e.released)) entrants sorted.sorted i j d le lt in
      elim (cases_lt (get_or entrants j d).released (get_or entrants i d).released) [
        | inl less ↦
            let yes : is_lt (nat_cmp (get_or entrants j d).released (get_or entrants i d).released) ≡ true = is_less _ _ less in
            let wrong : true ≡ false = sym yes ∙ far in
            absurd (cc)
        | inr more ↦ more
      ]

  -- no two have one place
  place_of_placed : (k : ℕ) (d : ℕ) → k < length placed → get_or (map (λ (x : Entrant). x.place) placed) k d ≡ k
  place_of_placed k d lt =
      let here : k < length requests = omega (arith, lt, are.each) in
      let e = at_place placed k lt in
      let q = at_place requests k here in
      get_or-map (λ (x : Entrant). x.place) placed k e.0 d lt ∙ ap (λ (x : Entrant). x.place) (are.are k e.0 q.0 here)

  pub apart : AreApart entrants
  apart j k d lj lk same =
      let differ = IsDistinct-IsPermutation (λ (x y : ℕ). x == y) flips (map (λ (x : Entrant). x.place) placed) (map (λ (x : Entrant). x.place) entrants) (IsPermutation-map (λ (x : Entrant). x.place) placed entrants sorted.same)
      (IsDistinct-from_apart (λ (x y : ℕ). x == y) (map (λ (x : Entrant). x.place) placed)
      (λ i m e lt below.
      let some : m < length placed = omega (arith, below, length-map placed (λ (x : Entrant). x.place)) in
      let a : get_or (map (λ (x : Entrant). x.place) placed) i e ≡ i = place_of_placed i e (omega arith) in
      let b : get_or (map (λ (x : Entrant). x.place) placed) m e ≡ m = place_of_placed m e some in
      differ_not (get_or (map (λ (x : Entrant). x.place) placed) i e) (get_or (map (λ (x : Entrant). x.place) placed) m e) (omega (arith, a, b, lt)))) in
      let at : (i : ℕ) → i < length entrants → get_or (map (λ (x : Entrant). x.place) entrants) i 0 ≡ (get_or entrants i d).place = λ i li. get_or-map (λ (x : Entrant). x.place) entrants i d 0 li in
      let many = length-map entrants (λ (x : Entrant). x.place) in
      elim (cases_lt j k) [
        | inl less ↦ absurd (same_not _ _ (at j lj ∙ same ∙ sym (at k lk)) (apart_from_distinct (λ (x y : ℕ). x == y) (map (λ (x : Entrant). x.place) entrants) j k 0 differ less (omega (arith, lk, many))))
        | inr le ↦ elim (cases_lt k j) [
          | inl less ↦ absurd (same_not _ _ (at k lk ∙ sym same ∙ sym (at j lj)) (apart_from_distinct (λ (x y : ℕ). x == y) (map (λ (x : Entrant). x.place) entrants) k j 0 differ less (omega (arith, lj, many))))
          | inr more ↦ omega arith
        ]
      ]

  -- each request is on its way at some place
  pub somewhere : (p : ℕ) → p < length requests → (k : ℕ) × (k < length entrants) × ((d : Entrant) → (get_or entrants k d).place ≡ p)
  somewhere p lt =
      let here : p < length placed = omega (arith, lt, are.each) in
      let e = at_place placed p here in
      let q = at_place requests p lt in
      let there = Contains-permutation placed entrants (get_or placed p e.0) sorted.same (Contains-get_or placed p e.0 here) in (
        there.0,
        there.1,
        λ d. ap (λ (x : Entrant). x.place) (get_or_default entrants there.0 d (get_or placed p e.0) there.1 ∙ there.2 ∙ are.are p e.0 q.0 lt),
      )

-- ---- as they enter

module _ (requests : List CapturedRequest) (commands : List Command) (rounds : List ℕ) (by : DueBy) (placed entrants : List Entrant) (arrived : List Arrived) (timed : AreTimed requests) (few : length requests ≤ MAX_COMMANDS) (counted : AreInRounds (map times_of requests) commands rounds) (are : ArePlaces requests placed) (sorted : AreByRelease placed entrants) (arriving : AreArriving requests commands by entrants arrived) where
  many : length arrived ≡ length requests
  many = arriving.each ∙ long requests placed entrants are sorted

  -- the entrant at a place, its request, and how it enters
  record IsEntering (k : ℕ) (d : Arrived) : Type 0 where
    entrant : Entrant
    request : CapturedRequest
    here : k < length entrants
    place_in : (get_or entrants k entrant).place < length requests
    released : (get_or entrants k entrant).released ≡ (get_or requests (get_or entrants k entrant).place request).released
    release : (get_or arrived k d).release ≡ dispatched_before (map times_of requests) (get_or entrants k entrant).released + 1
    due : (get_or arrived k d).due < MAX_ROUNDS

  entering : (k : ℕ) (d : Arrived) → k < length arrived → IsEntering k d
  entering k d lt =
      let here : k < length entrants = omega (arith, lt, arriving.each) in
      let e = at_place entrants k here in
      let p : ℕ = (get_or entrants k e.0).place in
      let its = each requests placed entrants are sorted k e.0 here in
      let q = at_place requests p its.in_list in
      let c : Command = record { id = 0; release = 0; due = 0 } in
      let timed_here : p < length (map times_of requests) = omega (arith, its.in_list, length-map requests times_of) in
      let command = counted.commands_are p (times_of q.0) c timed_here in
      let times : get_or (map times_of requests) p (times_of q.0) ≡ times_of (get_or requests p q.0) = get_or-map times_of requests p q.0 (times_of q.0) its.in_list in
      let release : (get_or commands p c).release ≡ dispatched_before (map times_of requests) (get_or requests p q.0).released + 1 =
      ap (λ (x : Command). x.release) command ∙ ap (λ (t : TimedRequest). dispatched_before (map times_of requests) t.release + 1) times in
      let due : (get_or commands p c).due ≡ dispatched_by (map times_of requests) (get_or (map times_of requests) p (times_of q.0)).deadline = ap (λ (x : Command). x.due) command in
      let is = arriving.are k d e.0 q.0 c here in
      record {
        entrant = e.0;
        request = q.0;
        here = here;
        place_in = its.in_list;
        released = its.its q.0;
        release = ap (λ (a : Arrived). a.release) is ∙ release ∙ ap (λ t. dispatched_before (map times_of requests) t + 1) (sym (its.its q.0));
        due = subst (λ (a : Arrived). a.due < MAX_ROUNDS) (sym is)
            (due_in_range requests (get_or requests p q.0) (get_or commands p c).due by few (omega (arith, due, by_few (map times_of requests) (get_or (map times_of requests) p (times_of q.0)).deadline, length-map requests times_of)));
      }

  -- by the release of the one at place k no more than k have gone out
  few_went : (k : ℕ) (d : Entrant) → k < length entrants → dispatched_before (map times_of requests) (get_or entrants k d).released ≤ k
  unfolding dispatched_before
  few_went k d lt =
      let t = (get_or entrants k d).released in
      let some = at_place requests (get_or entrants k d).place (each requests placed entrants are sorted k d lt).in_list in
      let went : Entrant → Bool = λ (e : Entrant). nat_lt (get_or requests e.place some.0).dispatched t in
      let same : count_by (λ (r : TimedRequest). nat_lt r.dispatch t) (map times_of requests) ≡ count_by went placed =
      count_same (λ (r : TimedRequest). nat_lt r.dispatch t) went (map times_of requests) placed (length-map requests times_of ∙ sym are.each)
      (λ j r e low.
      let here : j < length requests = omega (arith, low, length-map requests times_of) in
      ap (λ (x : TimedRequest). nat_lt x.dispatch t) (get_or-map times_of requests j some.0 r here) ∙ sym (ap went (are.are j e some.0 here))) in
      let moved : count_by went entrants ≡ count_by went placed = sum_by-IsPermutation (λ (e : Entrant). cond (went e) 1 0) placed entrants sorted.same in
      let most : count_by went entrants ≤ k = count_at_most went entrants k
      (λ j e low high.
      let up : (get_or entrants k e).released ≤ (get_or entrants j e).released = rising requests placed entrants are sorted k j e low high in
      let at : (get_or entrants k e).released ≡ t = ap (λ (x : Entrant). x.released) (get_or_default entrants k e d lt) in
      let its = each requests placed entrants are sorted j e high in
      le-ltb (get_or requests (get_or entrants j e).place some.0).dispatched t (omega (arith, up, at, its.its some.0, timed.came_in (get_or entrants j e).place some.0 its.in_list))) in
      omega (arith, same, moved, most)

  pub can_replay : CanReplay arrived
  can_replay = record {
    few = omega (arith, few, many);
    in_range = λ k d lt. (entering k d lt).due;
    some_round = λ k d lt. omega (arith, (entering k d lt).release);
    in_order = λ k d lt.
        let a = entering k d (omega (arith, lt)) in
        let b = entering (k + 1) d lt in
        let up = before_more (map times_of requests) (get_or entrants k b.entrant).released (get_or entrants (k + 1) b.entrant).released (rising requests placed entrants are sorted k (k + 1) b.entrant (omega arith) b.here) in
        let same : (get_or entrants k a.entrant).released ≡ (get_or entrants k b.entrant).released = ap (λ (x : Entrant). x.released) (get_or_default entrants k a.entrant b.entrant a.here) in
        let low : (get_or arrived k d).release ≡ dispatched_before (map times_of requests) (get_or entrants k b.entrant).released + 1 = a.release ∙ ap (λ t. dispatched_before (map times_of requests) t + 1) same in
        omega (arith, low, up, b.release);
    in_time = λ k d lt.
        let a = entering k d lt in
        omega (arith, a.release, few_went k a.entrant a.here);
  }

  pub legal : (own put : List ℕ) → IsLegal (commands_by_arrival arrived) own (fixed 1) → HaveOwnRounds own → length own ≡ length arrived → ArePut entrants own put → IsLegal commands put (fixed 1)
  unfolding places_at
  legal own put h rounds_own same at =
      let each_one : length commands ≡ length requests = counted.a_command ∙ length-map requests times_of in
      let at_its : (p : ℕ) → p < length requests → (k : ℕ) × (k < length entrants) × ((d : Entrant) → (get_or entrants k d).place ≡ p) = somewhere requests placed entrants are sorted in
      let round : (p : ℕ) (lt : p < length requests) → get_or put p 0 ≡ get_or own (at_its p lt).0 0 = λ p lt.
      let s = at_its p lt in
      let e = at_place entrants s.0 s.1 in
      ap (λ k. get_or put k 0) (sym (s.2 e.0)) ∙ at.put s.0 e.0 s.1 in
      record {
        one_each = at.each ∙ long requests placed entrants are sorted ∙ sym each_one;
        released = λ p d lt.
            let here : p < length requests = omega (arith, lt, each_one) in
            let s = at_its p here in
            let e = at_place entrants s.0 s.1 in
            let q = at_place requests p here in
            let a = at_place arrived s.0 (omega (arith, s.1, arriving.each)) in
            let is : a.0.release ≡ (get_or commands p d).release = ap (λ (x : Arrived). x.release) (sym (get_or_from_slice_get arrived s.0 a.0 a.0 a.1) ∙ arriving.are s.0 a.0 e.0 q.0 d s.1) ∙ ap (λ k. (get_or commands k d).release) (s.2 e.0) in
            let own_command : (get_or (commands_by_arrival arrived) s.0 d).release ≡ a.0.release = command_at 0 arrived s.0 a.0 d a.1 in
            let low = h.released s.0 d (omega (arith, s.1, commands_long 0 arrived, arriving.each)) in
            omega (arith, is, own_command, low, round p here);
        within_depth = λ x.
            let once : count_by (λ z. z == x) put ≤ 1 = count_once x put (λ p q lp lq ep eq.
            let hp : p < length requests = omega (arith, lp, at.each, long requests placed entrants are sorted) in
            let hq : q < length requests = omega (arith, lq, at.each, long requests placed entrants are sorted) in
            let s = at_its p hp in
            let t = at_its q hq in
            let e = at_place entrants s.0 s.1 in
            let one : s.0 ≡ t.0 = rounds_own.own s.0 t.0 (omega (arith, s.1, same, arriving.each)) (omega (arith, t.1, same, arriving.each)) (sym (round p hp) ∙ ep ∙ sym eq ∙ round q hq) in
            sym (s.2 e.0) ∙ ap (λ k. (get_or entrants k e.0).place) one ∙ t.2 e.0) in
            omega (arith, once, one_deep x);
      }

  pub in_range : (own put : List ℕ) → HaveOwnRounds own → length own ≡ length arrived → ArePut entrants own put → AreRounds (length requests) put
  in_range own put rounds_own same at p d lt =
      let here : p < length requests = omega (arith, lt, at.each, long requests placed entrants are sorted) in
      let s = somewhere requests placed entrants are sorted p here in
      let e = at_place entrants s.0 s.1 in
      let round : get_or put p 0 ≡ get_or own s.0 0 = ap (λ k. get_or put k 0) (sym (s.2 e.0)) ∙ at.put s.0 e.0 s.1 in
      let its : get_or put p d ≡ get_or put p 0 = get_or_default put p d 0 lt in
      let range = rounds_own.in_range s.0 (omega (arith, s.1, same, arriving.each)) in
      (omega (arith, its, round, range.0), omega (arith, its, round, range.1, same, many))

  pub late : (put : List ℕ) → length put ≡ length requests → AreRounds (length requests) put → AreLateByTheClock requests commands put
  late put each_one range k d e here =
      let timed_here : k < length (map times_of requests) = omega (arith, here, length-map requests times_of) in
      let round : ℕ = get_or put k 0 in
      let inside = range k 0 (omega (arith, here, each_one)) in
      let m : ℕ = round - 1 in
      let some : m < length requests = omega (arith, inside.0, inside.1) in
      let next : m + 1 ≡ round = omega (arith, inside.0) in
      let command = counted.commands_are k (times_of d) e timed_here in
      let times : get_or (map times_of requests) k (times_of d) ≡ times_of (get_or requests k d) = get_or-map times_of requests k d (times_of d) here in
      let due : (get_or commands k e).due ≡ dispatched_by (map times_of requests) (get_or requests k d).deadline = ap (λ (x : Command). x.due) command ∙ ap (λ (t : TimedRequest). dispatched_by (map times_of requests) t.deadline) times in
      let went : (get_or (map times_of requests) m (times_of d)).dispatch ≡ (get_or requests m d).dispatched = ap (λ (t : TimedRequest). t.dispatch) (get_or-map times_of requests m d (times_of d) some) in
      let it = late_by (map times_of requests) (get_or requests k d).deadline m (times_of d) (map_served requests timed) (omega (arith, some, length-map requests times_of)) in (
        λ h. let l = it.0 (omega (arith, h, due, next)) in omega (arith, l, went),
        λ h. let l = it.1 (omega (arith, h, went)) in omega (arith, l, due, next),
      )
