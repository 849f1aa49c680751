use Rattle.std.specs.Prelude.{ℕ, ◌≡◌, ◌≤◌, ◌<◌, ◌+◌, ◌-◌, ◌↔◌, List, [], ◌∷◌, length, count_by, nat_lt, nat_le, ◌==◌, zero, suc, Bool, true, false, cond, slice_index, slice_index_or}
use Rattle.std.proofs.Common.{get_or, refl, sym, ap, ◌∙◌, inl, inr, arith}
use Rattle.std.specs.List.Sorted.{IsPartitionPoint}
use Rattle.std.proofs.lemmas.Bool.{cases_lt, cases_eq, eq-eqb, ne_eqb, cond-true, cond-false, le-ltb, le-leb, lt-leb}
use Rattle.std.proofs.lemmas.List.{get_or_default}
use Rattle.std.proofs.lemmas.List.Sums.{sum_by-cons, count_by-le-length}
use Rattle.edd_commands.specs.Capacity.{depth_at, fixed}
use Rattle.edd_commands.specs.declared.TheConstants.{MAX_COMMANDS}
use Rattle.edd_commands.specs.Schedule.{IsLegal, RoundsInRange, places_at}
use Rattle.edd_commands.specs.declared.Command.{Command}
use Rattle.edd_commands.proofs.InForce.{depth_fixed}
use Rattle.blk_capture.specs.Counting.{AreServed, AreSolvable, AreInRounds, AreLateByClock, dispatched_before, dispatched_by, command_at}
use Rattle.blk_capture.specs.declared.counting.TimedRequest.{TimedRequest}

-- a count over one element more
count_yes : {X : Type 0} (p : X → Bool) (x : X) (xs : List X) → p x ≡ true → count_by p (x ∷ xs) ≡ 1 + count_by p xs
count_yes p x xs e = sum_by-cons (λ y. cond (p y) 1 0) x xs ∙ ap (λ n. n + count_by p xs) (cond-true (p x) 1 0 e)

count_no : {X : Type 0} (p : X → Bool) (x : X) (xs : List X) → p x ≡ false → count_by p (x ∷ xs) ≡ count_by p xs
count_no p x xs e =
    sum_by-cons (λ y. cond (p y) 1 0) x xs ∙ ap (λ n. n + count_by p xs) (cond-false (p x) 1 0 e) ∙ omega arith

one_at_most : (b : Bool) → cond b 1 0 ≤ 1
one_at_most true = omega arith
one_at_most false = omega arith

-- what passes at just the first n places is counted n times
pub count_first : {X : Type 0} (p : X → Bool) (xs : List X) (n : ℕ) → n ≤ length xs → ((k : ℕ) (d : X) → k < n → p (get_or xs k d) ≡ true) → ((k : ℕ) (d : X) → n ≤ k → k < length xs → p (get_or xs k d) ≡ false) → count_by p xs ≡ n
count_first p [] n within passing failing = omega arith
count_first p (x ∷ xs) zero within passing failing =
    count_no p x xs (failing 0 x (omega arith) (omega arith))
    ∙ count_first p xs 0 (omega arith) (λ k d h. absurd (omega (arith, h))) (λ k d low high. failing (suc k) d (omega arith) (omega (arith, high)))
count_first p (x ∷ xs) (suc n) within passing failing =
    let rest : count_by p xs ≡ n = count_first p xs n (omega arith) (λ k d h. passing (suc k) d (omega (arith, h))) (λ k d low high. failing (suc k) d (omega (arith, low)) (omega (arith, high))) in
    omega (arith, rest, count_yes p x xs (passing 0 x (omega arith)))

pub count_parted : {X : Type 0} (p : X → Bool) (xs : List X) (n : ℕ) → n ≤ length xs → IsPartitionPoint (λ x. p x ≡ true) (λ x. p x ≡ false) xs n → n ≡ count_by p xs
count_parted p xs n within parted =
    sym (count_first p xs n within (λ k d h. parted.0 k d (omega arith) h) (λ k d low high. parted.1 k d low high))

-- of what passes at each of the first n places at least n are counted
pub count_at_least : {X : Type 0} (p : X → Bool) (xs : List X) (n : ℕ) → n ≤ length xs → ((k : ℕ) (d : X) → k < n → p (get_or xs k d) ≡ true) → n ≤ count_by p xs
count_at_least p [] n within passing = omega arith
count_at_least p (x ∷ xs) zero within passing = omega arith
count_at_least p (x ∷ xs) (suc n) within passing =
    let rest : n ≤ count_by p xs = count_at_least p xs n (omega arith) (λ k d h. passing (suc k) d (omega (arith, h))) in
    omega (arith, rest, count_yes p x xs (passing 0 x (omega arith)))

-- of what fails from place n on at most n are counted
pub count_at_most : {X : Type 0} (p : X → Bool) (xs : List X) (n : ℕ) → ((k : ℕ) (d : X) → n ≤ k → k < length xs → p (get_or xs k d) ≡ false) → count_by p xs ≤ n
count_at_most p [] n failing = omega arith
count_at_most p (x ∷ xs) zero failing =
    let rest : count_by p xs ≤ 0 = count_at_most p xs 0 (λ k d low high. failing (suc k) d (omega arith) (omega (arith, high))) in
    omega (arith, rest, count_no p x xs (failing 0 x (omega arith) (omega arith)))
count_at_most p (x ∷ xs) (suc n) failing =
    let rest : count_by p xs ≤ n = count_at_most p xs n (λ k d low high. failing (suc k) d (omega (arith, low)) (omega (arith, high))) in
    omega (arith, rest, sum_by-cons (λ y. cond (p y) 1 0) x xs, one_at_most (p x))

-- numbers that rise by one from m on: each stands once at most
pub one_place : (rounds : List ℕ) (m : ℕ) → ((k : ℕ) → k < length rounds → get_or rounds k 0 ≡ k + m) → (x : ℕ) → (count_by (λ y. y == x) rounds ≤ 1) × (x < m → count_by (λ y. y == x) rounds ≡ 0)
one_place [] m are x = (omega arith, λ h. refl)
one_place (y ∷ ys) m are x =
    let first : y ≡ 0 + m = are 0 (omega arith) in
    let rest : (count_by (λ z. z == x) ys ≤ 1) × (x < m + 1 → count_by (λ z. z == x) ys ≡ 0) =
    one_place ys (m + 1) (λ k h. let e : get_or ys k 0 ≡ suc k + m = are (suc k) (omega (arith, h)) in omega (arith, e)) x in
    elim (cases_eq y x) [
      | inl same ↦
          let none : count_by (λ z. z == x) ys ≡ 0 = rest.1 (omega arith) in
          let one = count_yes (λ z. z == x) y ys (eq-eqb y x same) in
          (omega (arith, one, none), λ h. absurd (omega (arith, h)))
      | inr other ↦
          let same = count_no (λ z. z == x) y ys (ne_eqb y x other) in
          (omega (arith, same, rest.0), λ h. same ∙ rest.1 (omega (arith, h)))
    ]

-- the release of a request at place k is no later than k + 1
pub released : (requests : List TimedRequest) (k : ℕ) (d : TimedRequest) → AreServed requests → k < length requests → dispatched_before requests (get_or requests k d).release ≤ k
unfolding dispatched_before
released requests k d served here =
    count_at_most (λ r. nat_lt r.dispatch (get_or requests k d).release) requests k
    (λ j e low high.
    let came : (get_or requests k d).release ≤ (get_or requests k d).dispatch = served.released k d here in
    let up : (get_or requests k e).dispatch ≤ (get_or requests j e).dispatch = served.rising k j e low high in
    let same : (get_or requests k e).dispatch ≡ (get_or requests k d).dispatch = ap (λ (r : TimedRequest). r.dispatch) (get_or_default requests k e d here) in
    le-ltb (get_or requests j e).dispatch (get_or requests k d).release (omega (arith, came, up, same)))

-- due before its round just where it went out after its deadline
pub late_at : (requests : List TimedRequest) (k : ℕ) (d : TimedRequest) → AreServed requests → k < length requests → (dispatched_by requests (get_or requests k d).deadline < k + 1) ↔ ((get_or requests k d).deadline < (get_or requests k d).dispatch)
unfolding dispatched_by
late_at requests k d served here =
    let by : TimedRequest → Bool = λ r. nat_le r.dispatch (get_or requests k d).deadline in
    let same : (e : TimedRequest) → (get_or requests k e).dispatch ≡ (get_or requests k d).dispatch = λ e. ap (λ (r : TimedRequest). r.dispatch) (get_or_default requests k e d here) in (
      λ late.
          elim (cases_lt (get_or requests k d).deadline (get_or requests k d).dispatch) [
            | inl after ↦ after
            | inr within ↦
                let all : k + 1 ≤ count_by by requests =
                count_at_least by requests (k + 1) (omega arith)
                (λ j e low.
                let up : (get_or requests j e).dispatch ≤ (get_or requests k e).dispatch = served.rising j k e (omega arith) here in
                le-leb (get_or requests j e).dispatch (get_or requests k d).deadline (omega (arith, up, same e, within))) in
                absurd (omega (arith, late, all))
          ],
      λ after.
          let few : count_by by requests ≤ k =
          count_at_most by requests k
          (λ j e low high.
          let up : (get_or requests k e).dispatch ≤ (get_or requests j e).dispatch = served.rising k j e low high in
          lt-leb (get_or requests j e).dispatch (get_or requests k d).deadline (omega (arith, up, same e, after))) in
          omega (arith, few),
    )

pub all_late_by_clock : (requests : List TimedRequest) (commands : List Command) (rounds : List ℕ) → AreServed requests → AreInRounds requests commands rounds → AreLateByClock requests commands rounds
all_late_by_clock requests commands rounds served counted k d e here =
    let here_late = late_at requests k d served here in
    let due : (get_or commands k e).due ≡ dispatched_by requests (get_or requests k d).deadline = ap (λ (c : Command). c.due) (counted.commands_are k d e here) in
    let round : get_or rounds k 0 ≡ k + 1 = counted.rounds_are k here in
    (λ late. here_late.0 (omega (arith, late, due, round)), λ after. let late = here_late.1 after in omega (arith, late, due, round))

pub all_legal : (requests : List TimedRequest) (commands : List Command) (rounds : List ℕ) → AreServed requests → AreInRounds requests commands rounds → IsLegal commands rounds (fixed 1)
unfolding places_at
all_legal requests commands rounds served counted = record {
  one_each = counted.a_round ∙ sym counted.a_command;
  released =
      λ k e h.
      let here : k < length requests = omega (arith, h, counted.a_command) in
      let d : TimedRequest = record { release = 0; deadline = 0; dispatch = 0 } in
      let release : (get_or commands k e).release ≡ dispatched_before requests (get_or requests k d).release + 1 = ap (λ (c : Command). c.release) (counted.commands_are k d e here) in
      let round : get_or rounds k 0 ≡ k + 1 = counted.rounds_are k here in
      let low : dispatched_before requests (get_or requests k d).release ≤ k = released requests k d served here in
      omega (arith, release, round, low);
  within_depth =
      λ x.
      let one : count_by (λ y. y == x) rounds ≤ 1 = (one_place rounds 1 (λ k h. counted.rounds_are k (omega (arith, h, counted.a_round))) x).0 in
      let carries : depth_at (fixed 1) x ≡ 1 = depth_fixed 1 x in
      omega (arith, one, carries);
}

pub before_few : (requests : List TimedRequest) (time : ℕ) → dispatched_before requests time ≤ length requests
unfolding dispatched_before
before_few requests time = count_by-le-length (λ r. nat_lt r.dispatch time) requests

pub by_few : (requests : List TimedRequest) (time : ℕ) → dispatched_by requests time ≤ length requests
unfolding dispatched_by
by_few requests time = count_by-le-length (λ r. nat_le r.dispatch time) requests

pub all_solvable : (requests : List TimedRequest) (commands : List Command) (rounds : List ℕ) → length requests ≤ MAX_COMMANDS → AreInRounds requests commands rounds → AreSolvable commands
all_solvable requests commands rounds few counted = λ k e h.
    let here : k < length requests = omega (arith, h, counted.a_command) in
    let d : TimedRequest = record { release = 0; deadline = 0; dispatch = 0 } in
    let release : (get_or commands k e).release ≡ dispatched_before requests (get_or requests k d).release + 1 = ap (λ (c : Command). c.release) (counted.commands_are k d e here) in
    let due : (get_or commands k e).due ≡ dispatched_by requests (get_or requests k d).deadline = ap (λ (c : Command). c.due) (counted.commands_are k d e here) in
    (omega (arith, release, few, before_few requests (get_or requests k d).release), omega (arith, due, few, by_few requests (get_or requests k d).deadline))

pub all_in_range : (requests : List TimedRequest) (commands : List Command) (rounds : List ℕ) → length requests ≤ MAX_COMMANDS → AreInRounds requests commands rounds → RoundsInRange rounds
all_in_range requests commands rounds few counted = λ k e h.
    let here : k < length requests = omega (arith, h, counted.a_round) in
    let round : get_or rounds k 0 ≡ k + 1 = counted.rounds_are k here in
    let same : get_or rounds k e ≡ get_or rounds k 0 = get_or_default rounds k e 0 h in
    omega (arith, round, same, few)

-- a loop that has come to place i
pub record IsCountedTo (requests : List TimedRequest) (commands : List Command) (rounds : List ℕ) (i : ℕ) : Type 0 where
  pub a_command : length commands ≡ i
  pub a_round : length rounds ≡ i
  pub commands_are : (k : ℕ) (d : TimedRequest) (e : Command) → k < i → slice_index_or commands k e ≡ command_at requests k (slice_index_or requests k d)
  pub rounds_are : (k : ℕ) → k < i → slice_index rounds k ≡ k + 1

-- the first n are served, and `last` is when the last of them went out
pub record IsServedTo (requests : List TimedRequest) (n last : ℕ) : Type 0 where
  pub rising : (i j : ℕ) (d : TimedRequest) → i ≤ j → j < n → (get_or requests i d).dispatch ≤ (get_or requests j d).dispatch
  pub released : (k : ℕ) (d : TimedRequest) → k < n → (get_or requests k d).release ≤ (get_or requests k d).dispatch
  pub above : (k : ℕ) (d : TimedRequest) → k < n → (get_or requests k d).dispatch ≤ last
  pub none : n ≡ 0 → last ≡ 0
  pub some : (d : TimedRequest) → 0 < n → last ≡ (get_or requests (n - 1) d).dispatch

pub counted_all : (requests : List TimedRequest) (commands : List Command) (rounds : List ℕ) (i : ℕ) → IsCountedTo requests commands rounds i → i ≡ length requests → AreInRounds requests commands rounds
counted_all requests commands rounds i so_far all = record {
  a_command = so_far.a_command ∙ all;
  a_round = so_far.a_round ∙ all;
  commands_are = λ k d e h. so_far.commands_are k d e (omega (arith, h, all));
  rounds_are = λ k h. so_far.rounds_are k (omega (arith, h, all));
}
