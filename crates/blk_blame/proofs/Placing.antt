-- Places that pass a test.
use Rattle.std.proofs.Common.{◌≡◌, ◌≢◌, ◌<◌, ◌+◌, ◌∙◌, ℕ, zero, suc, Bool, true, false, List, [], ◌∷◌, filter, get_or, length, ap, arith}
use Rattle.std.specs.List.{range_with_len}
use Rattle.std.proofs.lemmas.Bool.{eq-eqb, ne_eqb}
use Rattle.std.proofs.lemmas.List.Elements.{All-filter}
use Rattle.std.proofs.lemmas.List.FromFn.{get_or-range_with_len, length-range_with_len}
use Rattle.std.proofs.lemmas.List.Kept.{AllPairs-filter}
use Rattle.edd_blame.specs.Parts.{ArePlaces}
use Rattle.blk_capture.specs.declared.requests.CapturedRequest.{CapturedRequest}
use Rattle.blk_blame.specs.Grouped.{group_key}
use Rattle.blk_blame.specs.Groups.{is_in_group, own_places}
use Rattle.blk_blame.specs.declared.grouped.GroupedBy.{GroupedBy}

-- they stand once each
filter_places : (p : ℕ → Bool) (n : ℕ) → ArePlaces n (filter p (range_with_len 0 n))
filter_places p n = record {
  within =
      All-filter p (λ k. k < n) (range_with_len 0 n)
      (λ i d h. let low : i < n = omega (arith, h, length-range_with_len 0 n) in omega (arith, low, get_or-range_with_len 0 n i d low));
  once =
      AllPairs-filter (λ j k. j ≢ k) p (range_with_len 0 n)
      (λ i j d low h e.
      let high : j < n = omega (arith, h, length-range_with_len 0 n) in
      let first : get_or (range_with_len 0 n) i d ≡ 0 + i = get_or-range_with_len 0 n i d (omega (arith, low, high)) in
      let other : get_or (range_with_len 0 n) j d ≡ 0 + j = get_or-range_with_len 0 n j d high in
      omega (arith, low, first, other, e));
}

pub are_own_places : (by : GroupedBy) (requests : List CapturedRequest) (key : ℕ) → ArePlaces (length requests) (own_places by requests key)
unfolding own_places
are_own_places by requests key = filter_places (is_in_group by requests key) (length requests)

-- whether the request at a place was opened by the process, or on the processor
pub opened : (by : GroupedBy) (requests : List CapturedRequest) (key i : ℕ) (d : CapturedRequest) → i < length requests → group_key by (get_or requests i d) ≡ key → is_in_group by requests key i ≡ true
opened by [] key i d h e = absurd (omega (arith, h))
opened by (q ∷ qs) key zero d h e = eq-eqb (group_key by q) key e
opened by (q ∷ qs) key (suc i) d h e = opened by qs key i d (omega (arith, h)) e

pub unopened : (by : GroupedBy) (requests : List CapturedRequest) (key i : ℕ) (d : CapturedRequest) → i < length requests → group_key by (get_or requests i d) ≢ key → is_in_group by requests key i ≡ false
unopened by [] key i d h e = absurd (omega (arith, h))
unopened by (q ∷ qs) key zero d h e = ne_eqb (group_key by q) key e
unopened by (q ∷ qs) key (suc i) d h e = unopened by qs key i d (omega (arith, h)) e

-- all of them
pub all_opened : (by : GroupedBy) (requests : List CapturedRequest) (key i : ℕ) (found : List ℕ) → i ≡ length requests → found ≡ filter (is_in_group by requests key) (range_with_len 0 i) → found ≡ own_places by requests key
unfolding own_places
all_opened by requests key i found all so_far = so_far ∙ ap (λ n. filter (is_in_group by requests key) (range_with_len 0 n)) all
