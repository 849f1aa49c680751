-- Bios that join requests.
use Rattle.std.proofs.Common.{◌≡◌, ◌<◌, ◌≤◌, ◌++◌, ◌+◌, ℕ, zero, suc, List, [], ◌∷◌, length, get_or, refl, sym, ◌∙◌, ap, subst, arith, append_assoc, inl, inr}
use Rattle.std.specs.Prelude.{slice_get, slice_set, Some, true}
use Rattle.std.specs.List.{flat_map}
use Rattle.std.specs.List.Sorted.{IsPermutation}
use Rattle.std.proofs.lemmas.List.Sorted.{IsPermutation-append_comm, IsPermutation-append_left, IsPermutation-append_right, IsPermutation-trans, IsPermutation-refl}
use Rattle.std.proofs.lemmas.Option.{get_or_from_slice_get}
use Rattle.std.proofs.lemmas.Bool.{cases_eq}
use Rattle.std.proofs.lemmas.Grind.{flat_map-append}
use Rattle.blk_bio.specs.declared.request.Side.{Side}
use Rattle.blk_bio.specs.declared.request.Side.TheVariants.{Back, Front}
use Rattle.blk_bio.specs.Bios.{Bio}
use Rattle.blk_bio.specs.Limits.{Limits}
use Rattle.blk_bio.specs.Requests.{joined, Fits, IsTried}
use Rattle.blk_queues.specs.Plugs.{IsJoinedAt}

abbrev all_of : List (List Bio) → List Bio
all_of requests = flat_map (λ request. request) requests

-- a bio may be put after the first few of a list
put_after : (bio : Bio) (xs ys : List Bio) → IsPermutation (bio ∷ (xs ++ ys)) ((xs ++ bio ∷ []) ++ ys)
put_after bio xs ys = IsPermutation-append_left ys (bio ∷ xs) (xs ++ bio ∷ []) (IsPermutation-append_comm (bio ∷ []) xs)

-- a request joined by a bio has its bios and that one, each once
pub join_keeps : (requests : List (List Bio)) (place : ℕ) (bios : List Bio) (bio : Bio) (side : Side) → slice_get requests place ≡ Some bios → IsPermutation (bio ∷ all_of requests) (all_of (slice_set requests place (joined bios (bio ∷ []) side)))
join_keeps [] place bios bio side stands = absurd (cc)
join_keeps (r ∷ rs) zero bios bio Back stands =
    let same : r ≡ bios = cc in
    subst (λ xs. IsPermutation (bio ∷ (r ++ all_of rs)) ((xs ++ bio ∷ []) ++ all_of rs)) same (put_after bio r (all_of rs))
join_keeps (r ∷ rs) zero bios bio Front stands =
    let same : r ≡ bios = cc in
    subst (λ xs. IsPermutation (bio ∷ (r ++ all_of rs)) (bio ∷ (xs ++ all_of rs))) same (IsPermutation-refl (bio ∷ (r ++ all_of rs)))
join_keeps (r ∷ rs) (suc place) bios bio side stands =
    let rest = join_keeps rs place bios bio side stands in
    let moved : IsPermutation (bio ∷ (r ++ all_of rs)) (r ++ bio ∷ all_of rs) =
    rw append_assoc at (put_after bio r (all_of rs)) in
    IsPermutation-trans (bio ∷ (r ++ all_of rs)) (r ++ bio ∷ all_of rs) (r ++ all_of (slice_set rs place (joined bios (bio ∷ []) side))) moved
    (IsPermutation-append_right r (bio ∷ all_of rs) (all_of (slice_set rs place (joined bios (bio ∷ []) side))) rest)

-- a new request of one bio adds that one
pub append_keeps : (requests new : List (List Bio)) (bio : Bio) → new ≡ requests ++ (bio ∷ []) ∷ [] → IsPermutation (bio ∷ all_of requests) (all_of new)
append_keeps requests new bio is =
    subst (λ rs. IsPermutation (bio ∷ all_of requests) (all_of rs)) (sym is) (rw flat_map-append (IsPermutation-append_comm (bio ∷ []) (all_of requests)))

-- both sides may be tried where the front may
pub all_tried : (side : Side) → IsTried true side
all_tried Back = tt
all_tried Front = refl

-- what no request from the place after this one on is fit for, and this one neither
pub none_from_here : (limits : Limits) (requests : List (List Bio)) (newcomer : List Bio) (after place : ℕ) (here : List Bio) → place < length requests → after ≡ place + 1 → here ≡ get_or requests place here → ((k : ℕ) (bios : List Bio) (side : Side) → after ≤ k → slice_get requests k ≡ Some bios → Fits limits bios newcomer side → ⊥) → ((side : Side) → Fits limits here newcomer side → ⊥) → (k : ℕ) (bios : List Bio) (side : Side) → place ≤ k → slice_get requests k ≡ Some bios → Fits limits bios newcomer side → ⊥
none_from_here limits requests newcomer after place here within next is later not_here k bios side from stands fits =
    elim (cases_eq k place) [
      | inl same ↦
          let at_place : slice_get requests place ≡ Some bios = subst (λ n. slice_get requests n ≡ Some bios) same stands in
          let found : here ≡ bios = is ∙ get_or_from_slice_get requests place bios here at_place in
          not_here side (subst (λ bs. Fits limits bs newcomer side) (sym found) fits)
      | inr other ↦ later k bios side (omega arith) stands fits
    ]

-- the request at the place after a join that came
pub joined_at : (limits : Limits) (requests new : List (List Bio)) (place : ℕ) (bio : Bio) (newcomer old joins bios : List Bio) (side found : Side) → slice_get requests place ≡ Some bios → Fits limits bios (bio ∷ []) side → old ≡ get_or requests place old → newcomer ≡ bio ∷ [] → ((s : Side) → Fits limits old newcomer s → s ≡ found) → joins ≡ joined old newcomer found → new ≡ slice_set requests place joins → IsJoinedAt requests bio place side new
joined_at limits requests new place bio newcomer old joins bios side found stands fits was one only joins_is new_is =
    let old_is : old ≡ bios = was ∙ get_or_from_slice_get requests place bios old stands in
    let fits_old : Fits limits old newcomer side = subst (λ bs. Fits limits bs newcomer side) (sym old_is) (subst (λ bs. Fits limits bios bs side) (sym one) fits) in
    let same : found ≡ side = sym (only side fits_old) in
    let both : joined old newcomer found ≡ joined bios (bio ∷ []) side = ap (λ bs. joined bs newcomer found) old_is ∙ ap (λ bs. joined bios bs found) one ∙ ap (λ s. joined bios (bio ∷ []) s) same in
    record { bios = bios; stands = stands; changed = new_is ∙ ap (λ bs. slice_set requests place bs) (joins_is ∙ both) }

-- the bios of a plug of which a request was joined
pub joined_keeps : (requests new : List (List Bio)) (bio : Bio) (place : ℕ) (side : Side) → IsJoinedAt requests bio place side new → IsPermutation (bio ∷ all_of requests) (all_of new)
joined_keeps requests new bio place side at =
    subst (λ rs. IsPermutation (bio ∷ all_of requests) (all_of rs)) (sym at.changed) (join_keeps requests place at.bios bio side at.stands)
