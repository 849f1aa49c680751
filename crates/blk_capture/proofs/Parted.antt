-- A part of the requests.
use Rattle.std.proofs.Common.{ℕ, ◌≡◌, ◌≤◌, ◌<◌, ◌+◌, ◌-◌, ◌∙◌, ◌++◌, List, length, get_or, take, drop, min, arith, ap, sym, subst, inl, inr}
use Rattle.std.specs.Prelude.{IfSome}
use Rattle.std.proofs.lemmas.Bool.{cases_lt}
use Rattle.std.proofs.Math.Seq.{take-append_seam}
use Rattle.std.proofs.lemmas.List.{get_or-drop, get_or-take, length-drop, length-take-le, take_all}
use Rattle.blk_capture.specs.Parting.{gone_before, part}
use Rattle.blk_capture.specs.Requests.{AreTimed}
use Rattle.blk_capture.specs.declared.requests.CapturedRequest.{CapturedRequest}

pub length_part : (requests : List CapturedRequest) (from count : ℕ) → from + count ≤ length requests → length (take count (drop from requests)) ≡ count
length_part requests from count within = length-take-le count (drop from requests) (let n : length (drop from requests) ≡ length requests - from = length-drop from requests in omega (arith, n, within))

-- a list that was lent whole and came back changed
pub written : {X : Type 0} (n : ℕ) (new old : List X) → n ≡ length new → take n (new ++ drop (length new) old) ≡ new
written n new old same = ap (λ k. take k (new ++ drop (length new) old)) same ∙ take-append_seam new (drop (length new) old)

-- no more than there are
pub taken_first : (requests : List CapturedRequest) (from count first : ℕ) → from ≤ length requests → count ≡ min (length requests - from) first → take count (drop from requests) ≡ take first (drop from requests)
taken_first requests from count first within is =
    let n : length (drop from requests) ≡ length requests - from = length-drop from requests in
    elim (cases_lt (length requests - from) first) [
      | inl few ↦
          let all : length (drop from requests) ≤ count = omega (arith, n, is, few) in
          let all_first : length (drop from requests) ≤ first = omega (arith, n, few) in
          take_all count (drop from requests) all ∙ sym (take_all first (drop from requests) all_first)
      | inr many ↦
          let same : count ≡ first = omega (arith, is, many) in
          ap (λ k. take k (drop from requests)) same
    ]

pub part_is : (begin first : ℕ) (requests : List CapturedRequest) (from count : ℕ) → from ≡ gone_before begin requests → from ≤ length requests → count ≡ min (length requests - from) first → take count (drop from requests) ≡ part begin first requests
part_is begin first requests from count same within is = taken_first requests from count first within is ∙ ap (λ k. take first (drop k requests)) same

at : (requests : List CapturedRequest) (from count k : ℕ) (d : CapturedRequest) → k < count → get_or (take count (drop from requests)) k d ≡ get_or requests (from + k) d
at requests from count k d here = get_or-take count (drop from requests) k d here ∙ get_or-drop from requests k d

-- what holds of the order of all holds of a part
pub part_timed : (requests : List CapturedRequest) (from count : ℕ) → from + count ≤ length requests → AreTimed requests → AreTimed (take count (drop from requests))
part_timed requests from count within timed =
    let n : length (take count (drop from requests)) ≡ count = length_part requests from count within in
    record {
      rising =
          λ i j d low h.
          let here : j < count = omega (arith, h, n) in
          let up : (get_or requests (from + i) d).dispatched ≤ (get_or requests (from + j) d).dispatched = timed.rising (from + i) (from + j) d (omega (arith, low)) (omega (arith, here, within)) in
          let at_i = ap (λ (q : CapturedRequest). q.dispatched) (at requests from count i d (omega (arith, low, here))) in
          let at_j = ap (λ (q : CapturedRequest). q.dispatched) (at requests from count j d here) in
          omega (arith, up, at_i, at_j);
      came_in =
          λ k d h.
          let here : k < count = omega (arith, h, n) in
          subst (λ (q : CapturedRequest). q.released ≤ q.dispatched) (sym (at requests from count k d here)) (timed.came_in (from + k) d (omega (arith, here, within)));
      came_back =
          λ k d h.
          let here : k < count = omega (arith, h, n) in
          subst (λ (q : CapturedRequest). IfSome q.completed (λ t. q.dispatched ≤ t)) (sym (at requests from count k d here)) (timed.came_back (from + k) d (omega (arith, here, within)));
    }
