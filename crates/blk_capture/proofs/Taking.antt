use Rattle.std.proofs.Common.{ℕ, ◌≡◌, ◌≢◌, ◌<◌, ◌≤◌, ◌+◌, ◌-◌, ◌++◌, ◌∙◌, List, [], ◌∷◌, length, get_or, set, replicate, count_by, is_some, nat_le, Bool, true, false, cond, zero, suc, refl, Option, None, Some, inl, inr, arith, ap, sym, subst}
use Rattle.std.specs.List.{All}
use Rattle.std.specs.List.Sorted.{IsNonDecreasingBy}
use Rattle.std.proofs.lemmas.Bool.{cases_lt, leb-true}
use Rattle.std.proofs.lemmas.List.{get_or_append_left, get_or_push, get_or-set_same, get_or-set_other, get_or_default, length_push, length-replicate, length-set}
use Rattle.std.proofs.lemmas.List.Sums.{sum_by-set, sum_by-cons}
use Rattle.std.proofs.lemmas.List.Sorted.{IsNonDecreasingBy-push}
use Rattle.std.proofs.lemmas.List.Elements.{All-replicate, All-set, All-weaker}
use Rattle.std.specs.Prelude.{IfSome}
use Rattle.blk_capture.specs.Requests.{released_by, deadline_of}
use Rattle.blk_capture.specs.Settled.{captured, completed_after, entry_at}
use Rattle.blk_capture.specs.declared.opened.Opened.{Opened}
use Rattle.blk_capture.specs.Inside.Taken.{IsOwn, IsRequestOf, ArePlaced, Puts, AreWithin}
use Rattle.blk_capture.specs.declared.clock.Dispatch.{Dispatch}
use Rattle.blk_capture.specs.declared.requests.MergeRoot.{MergeRoot}
use Rattle.blk_capture.specs.declared.requests.Options.{Options}
use Rattle.blk_capture.specs.declared.requests.CapturedRequest.{CapturedRequest}
use Rattle.blk_capture.specs.declared.requests.Taken.{Taken}

-- what is taken of the first n dispatches
pub record IsTakenTo (P : CapturedRequest → Type 0) (lives : List MergeRoot) (openers : List ℕ) (dispatches : List Dispatch) (places : List (Option ℕ)) (requests : List CapturedRequest) (n : ℕ) : Type 0 where
  pub placed : ArePlaced lives openers places requests
  pub rising : IsNonDecreasingBy (λ q. q.dispatched) requests
  pub came_in : All (λ q. q.released ≤ q.dispatched) requests
  pub came_back : All (λ q. IfSome q.completed (λ t. q.dispatched ≤ t)) requests
  pub untallied : All (λ q. q.bios ≡ 0) requests
  pub due : All P requests
  pub each : length places ≡ length lives
  pub many : count_by is_some places ≡ length requests
  pub within : AreWithin (length requests) places
  pub below : (k j : ℕ) (d : CapturedRequest) (e : Dispatch) → k < length requests → n ≤ j → j < length dispatches → (get_or requests k d).dispatched ≤ (get_or dispatches j e).time

abbrev one_if : Option ℕ → ℕ
one_if p = cond (is_some p) 1 0

no_place : (n : ℕ) → count_by is_some (replicate {A = Option ℕ} n None) ≡ 0
no_place zero = refl
no_place (suc n) = sum_by-cons one_if None (replicate n None) ∙ omega (arith, no_place n)

pub taken_none : (P : CapturedRequest → Type 0) (lives : List MergeRoot) (openers : List ℕ) (dispatches : List Dispatch) (places : List (Option ℕ)) (requests : List CapturedRequest) → requests ≡ [] → places ≡ replicate (length lives) None → IsTakenTo P lives openers dispatches places requests 0
taken_none P lives openers dispatches places requests none blank =
    let empty : length requests ≡ 0 = ap length none in
    record {
      placed = λ k h. absurd (omega (arith, h, empty));
      rising = λ i j d low h. absurd (omega (arith, h, empty));
      came_in = λ k d h. absurd (omega (arith, h, empty));
      came_back = λ k d h. absurd (omega (arith, h, empty));
      untallied = λ k d h. absurd (omega (arith, h, empty));
      due = λ k d h. absurd (omega (arith, h, empty));
      each = ap length blank ∙ length-replicate (length lives) None;
      many = ap (λ ps. count_by is_some ps) blank ∙ no_place (length lives) ∙ sym empty;
      within = subst (AreWithin (length requests)) (sym blank) (All-replicate (λ p. IfSome p (λ k. k < length requests)) (length lives) None tt);
      below = λ k j d e h. absurd (omega (arith, h, empty));
    }

pub taken_same : (P : CapturedRequest → Type 0) (lives : List MergeRoot) (openers : List ℕ) (dispatches : List Dispatch) (places : List (Option ℕ)) (requests : List CapturedRequest) (n : ℕ) → IsTakenTo P lives openers dispatches places requests n → IsTakenTo P lives openers dispatches places requests (n + 1)
taken_same P lives openers dispatches places requests n old = record {
  placed = old.placed;
  rising = old.rising;
  came_in = old.came_in;
  came_back = old.came_back;
  untallied = old.untallied;
  due = old.due;
  each = old.each;
  many = old.many;
  within = old.within;
  below = λ k j d e h low here. old.below k j d e h (omega (arith, low)) here;
}

all_more : {X : Type 0} (P : X → Type 0) (xs : List X) (y : X) → All P xs → P y → All P (xs ++ y ∷ [])
all_more P xs y all one k d h =
    let n : length (xs ++ y ∷ []) ≡ length xs + 1 = length_push xs y in
    elim (cases_lt k (length xs)) [
      | inl before ↦ subst P (sym (get_or_append_left xs (y ∷ []) d k before)) (all k d before)
      | inr past ↦ subst P (sym (get_or_push xs y d k (omega (arith, past, h, n)))) one
    ]

-- one more place among one more
below_more : (n : ℕ) (p : Option ℕ) → IfSome p (λ k. k < n) → IfSome p (λ k. k < n + 1)
below_more n None h = tt
below_more n (Some k) h = omega (arith, h)

within_more : (n : ℕ) (places : List (Option ℕ)) (r : ℕ) → AreWithin n places → AreWithin (n + 1) (set places r (Some n))
within_more n places r old =
    All-set (λ p. IfSome p (λ k. k < n + 1)) places r (Some n) (omega arith) (All-weaker (λ p. IfSome p (λ k. k < n)) (λ p. IfSome p (λ k. k < n + 1)) (below_more n) places old)

some_is_none : (k : ℕ) → Some k ≡ None → ⊥
some_is_none k e = cc

placed_more : (lives : List MergeRoot) (openers : List ℕ) (places : List (Option ℕ)) (requests : List CapturedRequest) (x : Dispatch) (q : CapturedRequest)
    → ArePlaced lives openers places requests → IsOwn lives x.request → IsRequestOf openers x q → x.request < length places → get_or places x.request None ≡ None
    → ArePlaced lives openers (set places x.request (Some (length requests))) (requests ++ q ∷ [])
placed_more lives openers places requests x q placed own of there free k h =
    let n : length (requests ++ q ∷ []) ≡ length requests + 1 = length_push requests q in
    elim (cases_lt k (length requests)) [
      | inl before ↦
          let old = placed k before in
          let other : old.0 ≢ x.request = λ e. some_is_none k (sym old.1.place ∙ ap (λ r. get_or places r None) e ∙ free) in (
            old.0,
            record {
              own = old.1.own;
              opened = old.1.opened;
              opener = λ d. ap (λ (p : CapturedRequest). p.bio) (get_or_append_left requests (q ∷ []) d k before) ∙ old.1.opener d;
              place = get_or-set_other places x.request old.0 (Some (length requests)) None other ∙ old.1.place;
            },
          )
      | inr past ↦
          let last : length requests ≡ k = omega (arith, past, h, n) in (
            x.request,
            record {
              own = own;
              opened = of.opened;
              opener = λ d. ap (λ (p : CapturedRequest). p.bio) (get_or_push requests q d k last) ∙ of.opener;
              place = get_or-set_same places x.request (Some (length requests)) None there ∙ ap (λ j. Some j) last;
            },
          )
    ]

-- one more that is put in
pub taken_more : (P : CapturedRequest → Type 0) (lives : List MergeRoot) (openers : List ℕ) (dispatches : List Dispatch) (places : List (Option ℕ)) (requests : List CapturedRequest) (n : ℕ) (x : Dispatch) (q : CapturedRequest)
    → IsTakenTo P lives openers dispatches places requests n → IsOwn lives x.request → IsRequestOf openers x q → P q → x.request < length places → get_or places x.request None ≡ None
    → IsNonDecreasingBy (λ y. y.time) dispatches → n < length dispatches → x.time ≡ (get_or dispatches n x).time
    → IsTakenTo P lives openers dispatches (set places x.request (Some (length requests))) (requests ++ q ∷ []) (n + 1)
taken_more P lives openers dispatches places requests n x q old own of is_due there free up here is = record {
  placed = placed_more lives openers places requests x q old.placed own of there free;
  rising =
      IsNonDecreasingBy-push (λ (p : CapturedRequest). p.dispatched) requests q old.rising
      (λ d some.
      let low : (get_or requests (length requests - 1) d).dispatched ≤ (get_or dispatches n x).time = old.below (length requests - 1) n d x (omega arith) (omega arith) here in
      omega (arith, low, is, of.timed));
  came_in = all_more (λ (p : CapturedRequest). p.released ≤ p.dispatched) requests q old.came_in (omega (arith, of.timed, of.came_in));
  came_back = all_more (λ (p : CapturedRequest). IfSome p.completed (λ t. p.dispatched ≤ t)) requests q old.came_back (subst (λ n. IfSome q.completed (λ t. n ≤ t)) (sym of.timed) of.came_back);
  untallied = all_more (λ (p : CapturedRequest). p.bios ≡ 0) requests q old.untallied of.none;
  due = all_more P requests q old.due is_due;
  each = length-set places x.request (Some (length requests)) ∙ old.each;
  many =
      let set_one = sum_by-set one_if places x.request (Some (length requests)) None there in
      let was : one_if (get_or places x.request None) ≡ 0 = ap one_if free in
      omega (arith, set_one, was, old.many, length_push requests q);
  within = subst (λ n. AreWithin n (set places x.request (Some (length requests)))) (sym (length_push requests q)) (within_more (length requests) places x.request old.within);
  below =
      λ k j d e h low in_list.
      let n_more : length (requests ++ q ∷ []) ≡ length requests + 1 = length_push requests q in
      elim (cases_lt k (length requests)) [
        | inl before ↦
            let same : (get_or (requests ++ q ∷ []) k d).dispatched ≡ (get_or requests k d).dispatched = ap (λ (p : CapturedRequest). p.dispatched) (get_or_append_left requests (q ∷ []) d k before) in
            let under : (get_or requests k d).dispatched ≤ (get_or dispatches j e).time = old.below k j d e before (omega (arith, low)) in_list in
            omega (arith, same, under)
        | inr past ↦
            let same : (get_or (requests ++ q ∷ []) k d).dispatched ≡ q.dispatched = ap (λ (p : CapturedRequest). p.dispatched) (get_or_push requests q d k (omega (arith, past, h, n_more))) in
            let later : (get_or dispatches n e).time ≤ (get_or dispatches j e).time = up n j e (omega (arith, low)) in_list in
            let at : (get_or dispatches n x).time ≡ (get_or dispatches n e).time = ap (λ (y : Dispatch). y.time) (get_or_default dispatches n x e here) in
            omega (arith, same, later, at, is, of.timed)
      ];
}

pub taken_put : {A : Type 0} (P : CapturedRequest → Type 0) (lives : List MergeRoot) (openers : List ℕ) (dispatches : List Dispatch) (old new : Taken A) (n : ℕ) (x : Dispatch) (q : CapturedRequest)
    → IsTakenTo P lives openers dispatches old.places.items old.requests.items n → IsOwn lives x.request → IsRequestOf openers x q → P q → Puts x.request q old new → x.request < length old.places.items → get_or old.places.items x.request None ≡ None
    → IsNonDecreasingBy (λ y. y.time) dispatches → n < length dispatches → x ≡ get_or dispatches n x
    → IsTakenTo P lives openers dispatches new.places.items new.requests.items (n + 1)
taken_put P lives openers dispatches old new n x q is own of is_due put there free up here at =
    subst (λ ps. IsTakenTo P lives openers dispatches ps new.requests.items (n + 1)) (sym put.places)
    (subst (λ qs. IsTakenTo P lives openers dispatches (set old.places.items x.request (Some (length old.requests.items))) qs (n + 1)) (sym put.requests)
    (taken_more P lives openers dispatches old.places.items old.requests.items n x q is own of is_due there free up here (ap (λ (y : Dispatch). y.time) at)))

-- the request as it is told
pub request_is : (o : Options) (q : Opened) (time sectors bio opener entry released deadline : ℕ) (completed : Option ℕ) → sectors ≡ q.range.end - q.range.first → bio ≡ opener → entry ≡ entry_at o q → released ≡ released_by entry q.merged → deadline ≡ deadline_of o q.range.dir entry q.earlier → completed ≡ completed_after time q.completed
    → (let r : CapturedRequest = record { dir = q.range.dir; first = q.range.first; sectors = sectors; bios = 0; bio = bio; pid = q.pid; cpu = q.cpu; queued = q.queued; got = q.got; inserted = q.inserted; merged = q.merged; entry = entry; released = released; earlier = q.earlier; deadline = deadline; dispatched = time; completed = completed } in r) ≡ captured o opener time q
request_is o q time sectors bio opener entry released deadline completed a b c d e f = cc

-- a completion that is told is no sooner
later_if : (time t : ℕ) (b : Bool) → b ≡ nat_le time t → IfSome (cond b (Some t) None) (λ k. time ≤ k)
later_if time t true e = leb-true time t (sym e)
later_if time t false e = tt

pub back_later : (time : ℕ) (c : Option ℕ) → IfSome (completed_after time c) (λ k. time ≤ k)
back_later time None = tt
back_later time (Some t) = later_if time t (nat_le time t) refl
