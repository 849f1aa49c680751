-- Requests in two slices, one after the other.
use Rattle.std.proofs.Common.{◌≡◌, ◌+◌, ◌++◌, ℕ, zero, suc, List, [], ◌∷◌, length, sym, ap, ◌∙◌, arith, inl, inr, ◌⊎◌, Some, None, Option}
use Rattle.std.specs.Prelude.{slice_get, IfNone, true}
use Rattle.std.proofs.lemmas.Option.{slice_get_within}
use Rattle.blk_bio.specs.declared.request.Side.{Side}
use Rattle.blk_bio.specs.Bios.{Bio}
use Rattle.blk_bio.specs.Limits.{Limits}
use Rattle.blk_bio.specs.Requests.{IsJoinCandidate}
use Rattle.blk_queues.specs.Plugs.{HasNoPlugCandidate}

-- a place of the second slice, counted through both
place_after : {X : Type 0} → (us ls : List X) (k : ℕ) → slice_get (us ++ ls) (length us + k) ≡ slice_get ls k
place_after [] ls k = let e : 0 + k ≡ k = omega arith in ap (slice_get ls) e
place_after (u ∷ us) ls k =
    let e : suc (length us) + k ≡ suc (length us + k) = omega arith in
    ap (slice_get (u ∷ (us ++ ls))) e ∙ place_after us ls k

-- a place of the first slice
place_before : {X : Type 0} → (us ls : List X) (k : ℕ) (x : X) → slice_get us k ≡ Some x → slice_get (us ++ ls) k ≡ Some x
place_before [] ls k x at = absurd (cc)
place_before (u ∷ us) ls zero x at = at
place_before (u ∷ us) ls (suc k) x at = place_before us ls k x at

-- what stands at a place of both stands in the first or, counted from its end, in the second
abbrev StandsInEither : {X : Type 0} → List X → List X → ℕ → X → Type 0
StandsInEither us ls k x = (slice_get us k ≡ Some x) ⊎ ((j : ℕ) × (k ≡ length us + j) × (slice_get ls j ≡ Some x))

one_more : {X : Type 0} → (u : X) (us ls : List X) (k : ℕ) (x : X) → StandsInEither us ls k x → StandsInEither (u ∷ us) ls (suc k) x
one_more u us ls k x (inl at) = inl at
one_more u us ls k x (inr (j, is, at)) = inr (j, omega (arith, is), at)

place_in_either : {X : Type 0} → (us ls : List X) (k : ℕ) (x : X) → slice_get (us ++ ls) k ≡ Some x → StandsInEither us ls k x
place_in_either [] ls k x at = inr (k, omega arith, at)
place_in_either (u ∷ us) ls zero x at = inl at
place_in_either (u ∷ us) ls (suc k) x at = one_more u us ls k x (place_in_either us ls k x at)

in_either : (us ls es : List (List Bio)) (k : ℕ) (bios : List Bio) → us ++ ls ≡ es → slice_get es k ≡ Some bios → StandsInEither us ls k bios
in_either us ls es k bios both at = place_in_either us ls k bios (ap (λ (l : List (List Bio)). slice_get l k) both ∙ at)

-- the candidate of the newer slice is that of both
pub candidate_newer : (limits : Limits) (us ls es : List (List Bio)) (newcomer : List Bio) (place : ℕ) (side : Side) → us ++ ls ≡ es → IsJoinCandidate limits true ls newcomer place side → IsJoinCandidate limits true es newcomer (length us + place) side
candidate_newer limits us ls es newcomer place side both best = record {
  bios = best.bios;
  stands = ap (λ (l : List (List Bio)). slice_get l (length us + place)) (sym both) ∙ place_after us ls place ∙ best.stands;
  tried = best.tried;
  fits = best.fits;
  back_first = best.back_first;
  newest = λ k newer s after at tried fits. elim (in_either us ls es k newer both at) [
    | inl h ↦ let low = slice_get_within us k newer h in absurd (omega arith)
    | inr (j, is, there) ↦ best.newest j newer s (omega (arith, is)) there tried fits
  ];
}

-- the candidate of the older slice is that of both where the newer one has none
pub candidate_older : (limits : Limits) (us ls es : List (List Bio)) (newcomer : List Bio) (place : ℕ) (side : Side) → us ++ ls ≡ es → HasNoPlugCandidate limits ls newcomer → IsJoinCandidate limits true us newcomer place side → IsJoinCandidate limits true es newcomer place side
candidate_older limits us ls es newcomer place side both none best = record {
  bios = best.bios;
  stands = ap (λ (l : List (List Bio)). slice_get l place) (sym both) ∙ place_before us ls place best.bios best.stands;
  tried = best.tried;
  fits = best.fits;
  back_first = best.back_first;
  newest = λ k newer s after at tried fits. elim (in_either us ls es k newer both at) [
    | inl h ↦ best.newest k newer s after h tried fits
    | inr (j, is, there) ↦ none j newer s there fits
  ];
}

-- what fits none of either slice fits none of both
pub none_both : (limits : Limits) (us ls es : List (List Bio)) (newcomer : List Bio) → us ++ ls ≡ es → HasNoPlugCandidate limits ls newcomer → HasNoPlugCandidate limits us newcomer → HasNoPlugCandidate limits es newcomer
none_both limits us ls es newcomer both newer older k bios side at fits = elim (in_either us ls es k bios both at) [
  | inl h ↦ older k bios side h fits
  | inr (j, is, there) ↦ newer j bios side there fits
]

pub none_then : {X : Type 0} → (o : Option X) (P Q : Type 0) → IfNone o P → (P → Q) → IfNone o Q
none_then None P Q h f = f h
none_then (Some x) P Q h f = tt
