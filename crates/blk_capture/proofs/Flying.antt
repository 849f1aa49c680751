-- What is at the device at a time.
use Rattle.std.proofs.Common.{◌≡◌, ◌≤◌, ◌<◌, ◌+◌, ◌∙◌, ℕ, suc, List, [], ◌∷◌, length, get_or, inl, inr, subst, Bool, true, false, cond, count_by, nat_le, refl, sym, ap, arith, Option, None, Some}
use Rattle.std.specs.Prelude.{not, ◌&&◌, IfSome, IsPermutation}
use Rattle.std.specs.List.{All, filter_map, cons_option}
use Rattle.std.proofs.lemmas.Bool.{cases_lt, leb-true, le-leb}
use Rattle.std.proofs.lemmas.List.{get_or_default}
use Rattle.std.proofs.lemmas.List.Sums.{sum_by-cons}
use Rattle.std.proofs.lemmas.List.Sorted.{sum_by-IsPermutation}
use Rattle.blk_capture.specs.Summaries.{out_by, known_by, back_by, in_flight_at, in_flight_with}
use Rattle.blk_capture.specs.declared.requests.CapturedRequest.{CapturedRequest}

abbrev one_if : Bool → ℕ
one_if b = cond b 1 0

count_cons : {X : Type 0} (p : X → Bool) (x : X) (xs : List X) → count_by p (x ∷ xs) ≡ one_if (p x) + count_by p xs
count_cons p x xs = sum_by-cons (λ y. one_if (p y)) x xs

-- what is out and not back, and what is back
parted : (o b : Bool) → (b ≡ true → o ≡ true) → one_if (o && not b) + one_if b ≡ one_if o
parted true true h = refl
parted true false h = refl
parted false true h = absurd (let bad : false ≡ true = h refl in cc)
parted false false h = refl

back_is_out : (time dispatched : ℕ) (completed : Option ℕ) → IfSome completed (λ t. dispatched ≤ t) → known_by time completed ≡ true → nat_le dispatched time ≡ true
back_is_out time dispatched None after h = absurd (cc)
back_is_out time dispatched (Some t) after h = let low : t ≤ time = leb-true t time h in le-leb dispatched time (omega (arith, low, after))

pub flying : (requests : List CapturedRequest) (time : ℕ) → All (λ q. IfSome q.completed (λ t. q.dispatched ≤ t)) requests → in_flight_at requests time + count_by (back_by time) requests ≡ count_by (out_by time) requests
flying [] time after = refl
flying (q ∷ qs) time after =
    let rest : in_flight_at qs time + count_by (back_by time) qs ≡ count_by (out_by time) qs = flying qs time (λ k d h. after (suc k) d (omega (arith, h))) in
    let first : one_if (out_by time q && not (back_by time q)) + one_if (back_by time q) ≡ one_if (out_by time q) = parted (out_by time q) (back_by time q) (back_is_out time q.dispatched q.completed (after 0 q (omega arith))) in
    omega (arith, rest, first, count_cons (λ x. out_by time x && not (back_by time x)) q qs, count_cons (back_by time) q qs, count_cons (out_by time) q qs)

-- the times of completion that are known
known_first : (time : ℕ) (o : Option ℕ) (xs : List ℕ) → count_by (λ x. nat_le x time) (cons_option o xs) ≡ one_if (known_by time o) + count_by (λ x. nat_le x time) xs
known_first time None xs = omega arith
known_first time (Some t) xs = count_cons (λ x. nat_le x time) t xs

known_times : (requests : List CapturedRequest) (time : ℕ) → count_by (λ x. nat_le x time) (filter_map (λ (q : CapturedRequest). q.completed) requests) ≡ count_by (back_by time) requests
known_times [] time = refl
known_times (q ∷ qs) time = known_first time q.completed (filter_map (λ (r : CapturedRequest). r.completed) qs) ∙ ap (λ n. one_if (back_by time q) + n) (known_times qs time) ∙ sym (count_cons (back_by time) q qs)

pub sorted_times : (requests : List CapturedRequest) (sorted : List ℕ) → IsPermutation (filter_map (λ (q : CapturedRequest). q.completed) requests) sorted → (time : ℕ) → count_by (λ x. nat_le x time) sorted ≡ count_by (back_by time) requests
sorted_times requests sorted same time = sum_by-IsPermutation (λ x. one_if (nat_le x time)) (filter_map (λ (q : CapturedRequest). q.completed) requests) sorted same ∙ known_times requests time

few_more : {X : Type 0} (o : Option X) (xs : List X) → length (cons_option o xs) ≤ 1 + length xs
few_more None xs = omega arith
few_more (Some x) xs = omega arith

-- no more are known than there are
pub few_known : {X Y : Type 0} (h : X → Option Y) (xs : List X) → length (filter_map h xs) ≤ length xs
few_known h [] = omega arith
few_known h (x ∷ xs) = omega (arith, few_known h xs, few_more (h x) (filter_map h xs))

-- one more dispatch, at which no more were
pub bound_more : (requests : List CapturedRequest) (n most new count : ℕ) (e : CapturedRequest)
    → ((k : ℕ) (d : CapturedRequest) → k < n → k < length requests → in_flight_with requests (get_or requests k d) ≤ most) → most ≤ new → n < length requests → count ≡ in_flight_with requests (get_or requests n e) → count ≤ new
    → (k : ℕ) (d : CapturedRequest) → k < n + 1 → k < length requests → in_flight_with requests (get_or requests k d) ≤ new
bound_more requests n most new count e old rise here at last k d low in_list =
    elim (cases_lt k n) [
      | inl before ↦ let was : in_flight_with requests (get_or requests k d) ≤ most = old k d before in_list in omega (arith, was, rise)
      | inr past ↦
          let is : n ≡ k = omega (arith, low, past) in
          let same : get_or requests n e ≡ get_or requests k d = get_or_default requests n e d here ∙ ap (λ m. get_or requests m d) is in
          subst (λ (q : CapturedRequest). in_flight_with requests q ≤ new) same (omega (arith, at, last))
    ]

pub at_last : (requests : List CapturedRequest) (n count : ℕ) (e : CapturedRequest) → n < length requests → count ≡ in_flight_with requests (get_or requests n e) → (d : CapturedRequest) → in_flight_with requests (get_or requests n d) ≡ count
at_last requests n count e here at d = ap (λ (q : CapturedRequest). in_flight_with requests q) (get_or_default requests n d e here) ∙ sym at
