-- How long at least one request waited, from the last request to the first.
use Rattle.std.proofs.Common.{◌≡◌, ◌≤◌, ◌<◌, ◌+◌, ◌-◌, ◌∙◌, ℕ, zero, suc, Bool, true, false, List, [], ◌∷◌, All, cond, count_by, nat_lt, nat_le, length, get_or, drop, inl, inr, refl, sym, ap, arith}
use Rattle.std.specs.Prelude.{◌&&◌, ◌||◌, min}
use Rattle.std.specs.List.{range_with_len}
use Rattle.std.specs.Option.{option_map_or}
use Rattle.std.proofs.lemmas.Bool.{cases_lt, lt-ltb, le-ltb, lt-leb, le-leb}
use Rattle.std.proofs.lemmas.List.{drop_more, get_or-drop, get_or_default, length-drop}
use Rattle.std.proofs.lemmas.List.Sums.{sum_by-cons}
use Rattle.std.proofs.lemmas.Option.{slice_get-get_or}
use Rattle.std.proofs.Math.Nat.{min-le_left, min-le_right, le-min}
use Rattle.edd_blame.proofs.Clocks.{count_parts}
use Rattle.blk_capture.specs.Requests.{AreTimed}
use Rattle.blk_capture.specs.declared.requests.CapturedRequest.{CapturedRequest}
use Rattle.blk_blame.specs.Waited.{some_waits, last_dispatch, waited_of}

abbrev within : ℕ → ℕ → ℕ → Bool
within a b t = nat_le a t && nat_lt t b

-- how many times of a range lie between two, where it begins after the first, and where it begins before
count_from : (a b s n : ℕ) → a ≤ s → b ≤ s + n → count_by (within a b) (range_with_len s n) ≡ b - s
count_from a b s zero h k = omega (arith, k)
count_from a b s (suc n) h k =
    let rest : count_by (within a b) (range_with_len (s + 1) n) ≡ b - (s + 1) = count_from a b (s + 1) n (omega (arith, h)) (omega (arith, k)) in
    let all = sum_by-cons (λ t. cond (within a b t) 1 0) s (range_with_len (s + 1) n) in
    elim (cases_lt s b) [
      | inl inside ↦ let one : ◌≡◌ {A = ℕ} (cond (within a b s) 1 0) 1 = rw (le-leb a s h, lt-ltb s b inside) refl in omega (arith, rest, all, one, inside)
      | inr past ↦ let none : ◌≡◌ {A = ℕ} (cond (within a b s) 1 0) 0 = rw (le-leb a s h, le-ltb s b past) refl in omega (arith, rest, all, none, past)
    ]

count_within : (a b s n : ℕ) → s ≤ a → b ≤ s + n → count_by (within a b) (range_with_len s n) ≡ b - a
count_within a b s zero h k = omega (arith, h, k)
count_within a b s (suc n) h k =
    elim (cases_lt s a) [
      | inl before ↦
          let rest : count_by (within a b) (range_with_len (s + 1) n) ≡ b - a = count_within a b (s + 1) n (omega (arith, before)) (omega (arith, k)) in
          let none : ◌≡◌ {A = ℕ} (cond (within a b s) 1 0) 0 = rw (lt-leb a s before) refl in
          omega (arith, rest, none, sum_by-cons (λ t. cond (within a b t) 1 0) s (range_with_len (s + 1) n))
      | inr here ↦ omega (arith, count_from a b s (suc n) here k, h, here)
    ]

-- when the first of some came in, where that is sooner than a time
pub first_of : List CapturedRequest → ℕ → ℕ
first_of [] top = top
first_of (q ∷ qs) top = min q.entry (first_of qs top)

least_leb : (a b t : ℕ) → (nat_le a t && true) || nat_le b t ≡ nat_le (min a b) t
least_leb a b t =
    elim (cases_lt t a) [
      | inl after ↦
          elim (cases_lt t b) [
            | inl neither ↦ rw (lt-leb a t after, lt-leb b t neither, lt-leb (min a b) t (le-min after neither)) refl
            | inr second ↦ rw (lt-leb a t after, le-leb b t second, le-leb (min a b) t (omega (arith, min-le_right a b, second))) refl
          ]
      | inr by ↦ rw (le-leb a t by, le-leb (min a b) t (omega (arith, min-le_left a b, by))) refl
    ]

-- before they went out some wait from then on
some_from : (qs : List CapturedRequest) (t top : ℕ) → All (λ q. t < q.dispatched) qs → t < top → some_waits qs t ≡ nat_le (first_of qs top) t
unfolding first_of
some_from [] t top later low = sym (lt-leb top t low)
some_from (q ∷ qs) t top later low =
    rw (some_from qs t top (λ k d h. later (suc k) d (omega (arith, h))) low, lt-ltb t q.dispatched (later zero q (omega arith))) (least_leb q.entry (first_of qs top) t)

-- a request more, which went out no later than they
alone : (b : Bool) → 0 + cond (b && true) 1 0 ≡ cond ((b && true) || false) 1 0
alone true = refl
alone false = refl

beside : (b : Bool) → 1 + cond (b && false) 1 0 ≡ cond ((b && true) || true) 1 0
beside true = refl
beside false = refl

gone : (b s : Bool) → cond s 1 0 + cond (b && false) 1 0 ≡ cond ((b && false) || s) 1 0
gone true true = refl
gone true false = refl
gone false true = refl
gone false false = refl

one_more : (q : CapturedRequest) (qs : List CapturedRequest) (top t : ℕ) → All (λ p. q.dispatched ≤ p.dispatched) qs → q.dispatched ≤ top
    → cond (some_waits qs t) 1 0 + cond (within q.entry (min q.dispatched (first_of qs top)) t) 1 0 ≡ cond (some_waits (q ∷ qs) t) 1 0
one_more q qs top t later low =
    let f : ℕ = first_of qs top in
    let left = min-le_left q.dispatched f in
    let right = min-le_right q.dispatched f in
    elim (cases_lt t q.dispatched) [
      | inl before ↦
          let known : some_waits qs t ≡ nat_le f t = some_from qs t top (λ k d h. let after = later k d h in omega (arith, after, before)) (omega (arith, before, low)) in
          elim (cases_lt t f) [
            | inl none ↦ rw (known, lt-leb f t none, lt-ltb t q.dispatched before, lt-ltb t (min q.dispatched f) (le-min before none)) (alone (nat_le q.entry t))
            | inr some ↦ rw (known, le-leb f t some, lt-ltb t q.dispatched before, le-ltb t (min q.dispatched f) (omega (arith, right, some))) (beside (nat_le q.entry t))
          ]
      | inr after ↦ rw (le-ltb t q.dispatched after, le-ltb t (min q.dispatched f) (omega (arith, left, after))) (gone (nat_le q.entry t) (some_waits qs t))
    ]

waited_more : (q : CapturedRequest) (qs : List CapturedRequest) (top : ℕ) → All (λ p. q.dispatched ≤ p.dispatched) qs → q.dispatched ≤ top
    → count_by (some_waits (q ∷ qs)) (range_with_len 0 top) ≡ count_by (some_waits qs) (range_with_len 0 top) + (min q.dispatched (first_of qs top) - q.entry)
waited_more q qs top later low =
    let until : ℕ = min q.dispatched (first_of qs top) in
    let high : until ≤ 0 + top = omega (arith, min-le_left q.dispatched (first_of qs top), low) in
    omega (arith, count_parts (some_waits qs) (within q.entry until) (some_waits (q ∷ qs)) (λ t. one_more q qs top t later low) (range_with_len 0 top), count_within q.entry until 0 top (omega arith) high)

-- each went out by the last dispatch
by_last : (qs : List CapturedRequest) (k : ℕ) (q : CapturedRequest) → AreTimed qs → k < length qs → (get_or qs k q).dispatched ≤ last_dispatch qs
by_last qs k q timed h =
    let up : (get_or qs k q).dispatched ≤ (get_or qs (length qs - 1) q).dispatched = timed.rising k (length qs - 1) q (omega (arith, h)) (omega (arith, h)) in
    let is : last_dispatch qs ≡ (get_or qs (length qs - 1) q).dispatched =
    ap (λ o. option_map_or (λ (p : CapturedRequest). p.dispatched) o 0) (slice_get-get_or qs (length qs - 1) q (omega (arith, h))) in
    omega (arith, up, is)

-- none waits, and none is the first, where there is none
pub none_first : (top : ℕ) → first_of [] top ≡ top
unfolding first_of
none_first top = refl

pub none_waits : (s n : ℕ) → count_by (some_waits []) (range_with_len s n) ≡ 0
none_waits s zero = refl
none_waits s (suc n) = omega (arith, none_waits (s + 1) n, sum_by-cons (λ t. cond (some_waits [] t) 1 0) s (range_with_len (s + 1) n))

-- the one before those from a place on
pub waited_step : (qs : List CapturedRequest) (p place top waited first : ℕ) (q : CapturedRequest) → AreTimed qs → p + 1 ≡ place → p < length qs → q ≡ get_or qs p q → top ≡ last_dispatch qs
    → waited ≡ count_by (some_waits (drop place qs)) (range_with_len 0 top) → first ≡ first_of (drop place qs) top
    → (waited + (min q.dispatched first - q.entry) ≡ count_by (some_waits (drop p qs)) (range_with_len 0 top)) × (min q.entry first ≡ first_of (drop p qs) top)
unfolding first_of
waited_step qs p place top waited first q timed next here at is_top so_far is_first =
    let rest : List CapturedRequest = drop place qs in
    let is : drop p qs ≡ q ∷ rest = drop_more qs p q here ∙ ap (λ n. get_or qs p q ∷ drop n qs) next ∙ ap (λ x. x ∷ rest) (sym at) in
    let own : (get_or qs p q).dispatched ≡ q.dispatched = ap (λ (x : CapturedRequest). x.dispatched) (sym at) in
    let later : All (λ r. q.dispatched ≤ r.dispatched) rest =
    λ k d h.
    let within_all : place + k < length qs = omega (arith, h, length-drop place qs) in
    let up : (get_or qs p d).dispatched ≤ (get_or qs (place + k) d).dispatched = timed.rising p (place + k) d (omega (arith, next)) within_all in
    let same : (get_or qs p d).dispatched ≡ (get_or qs p q).dispatched = ap (λ (x : CapturedRequest). x.dispatched) (get_or_default qs p d q here) in
    let it : (get_or rest k d).dispatched ≡ (get_or qs (place + k) d).dispatched = ap (λ (x : CapturedRequest). x.dispatched) (get_or-drop place qs k d) in
    omega (arith, up, same, it, own) in
    let low : q.dispatched ≤ top = omega (arith, by_last qs p q timed here, own, is_top) in
    let more = waited_more q rest top later low in (
      ap (λ n. n + (min q.dispatched first - q.entry)) so_far ∙ ap (λ n. count_by (some_waits rest) (range_with_len 0 top) + (min q.dispatched n - q.entry)) is_first
          ∙ sym more ∙ sym (ap (λ l. count_by (some_waits l) (range_with_len 0 top)) is),
      ap (λ n. min q.entry n) is_first ∙ sym (ap (λ l. first_of l top) is),
    )

-- those from the first one on
pub all_of : (qs : List CapturedRequest) (waited place top : ℕ) → place ≡ 0 → top ≡ last_dispatch qs → waited ≡ count_by (some_waits (drop place qs)) (range_with_len 0 top) → waited ≡ waited_of qs
unfolding waited_of
all_of qs waited place top first is_top so_far =
    so_far ∙ ap (λ n. count_by (some_waits (drop n qs)) (range_with_len 0 top)) first ∙ ap (λ n. count_by (some_waits qs) (range_with_len 0 n)) is_top
