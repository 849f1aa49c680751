-- What extents say of the requests that have them.
use Rattle.std.proofs.Common.{◌≡◌, ◌<◌, ◌≤◌, ◌+◌, List, length, sym, subst, arith, inl, inr}
use Rattle.std.specs.Prelude.{IfNone, IfSome, None, Option, Some}
use Rattle.std.proofs.lemmas.List.{length-append}
use Rattle.std.proofs.lemmas.List.Sums.{sum_by-append}
use Rattle.blk_bio.specs.declared.request.Side.{Side}
use Rattle.blk_bio.specs.declared.request.Side.TheVariants.{Back, Front}
use Rattle.blk_bio.specs.Bios.{Bio}
use Rattle.blk_bio.specs.Limits.{Limits}
use Rattle.blk_bio.specs.Requests.{IsRequest, Abuts, Fits, IsWithin, joined, sectors_of}
use Rattle.blk_bio.specs.Extents.{Extent, IsExtent, extent_of, FitAt, TouchesAt, WithinTogether}
use Rattle.blk_bio.proofs.Tiles.{counted, fills, range_of}

-- extents touch where their requests abut
pub abuts : (bios more : List Bio) (side : Side) → TouchesAt (extent_of bios) (extent_of more) side → Abuts bios more side
abuts bios more Back at = at
abuts bios more Front at = at

pub touched : (bios more : List Bio) (side : Side) → Abuts bios more side → TouchesAt (extent_of bios) (extent_of more) side
touched bios more Back at = at
touched bios more Front at = at

-- the sectors of two requests that are joined
sectors_joined : (bios more : List Bio) (side : Side) → sectors_of (joined bios more side) ≡ sectors_of bios + sectors_of more
sectors_joined bios more Back = sum_by-append (λ b. b.sectors) bios more
sectors_joined bios more Front = omega (arith, sum_by-append (λ b. b.sectors) more bios)

-- how many bios they have
bios_joined : (bios more : List Bio) (side : Side) → length (joined bios more side) ≡ length bios + length more
bios_joined bios more Back = length-append bios more
bios_joined bios more Front = omega (arith, length-append more bios)

-- they are within the limits where their extents are
within : (limits : Limits) (bios more : List Bio) (side : Side) → IsRequest bios → IsRequest more → WithinTogether limits (extent_of bios) (extent_of more) → IsWithin limits (joined bios more side)
within limits bios more side is is_more w =
    let fills_e = fills bios is in
    let fills_n = fills more is_more in
    let sectors = sectors_joined bios more side in
    let count = bios_joined bios more side in
    inr (omega (arith, fills_e, fills_n, sectors, w.sectors), omega (arith, count, w.bios))

-- and only there
together : (limits : Limits) (bios more : List Bio) (side : Side) → IsRequest bios → IsRequest more → IsWithin limits (joined bios more side) → WithinTogether limits (extent_of bios) (extent_of more)
together limits bios more side is is_more (inl one) =
    let count = bios_joined bios more side in
    absurd (omega (arith, one, count, is.not_empty, is_more.not_empty))
together limits bios more side is is_more (inr (few_sectors, few_bios)) =
    let fills_e = fills bios is in
    let fills_n = fills more is_more in
    let sectors = sectors_joined bios more side in
    let count = bios_joined bios more side in
    record {
      sectors = omega (arith, fills_e, fills_n, sectors, few_sectors);
      bios = omega (arith, count, few_bios);
    }

-- a newcomer fits a request where its extent fits the request's
pub fit_of_extents : (limits : Limits) (bios more : List Bio) (side : Side) → IsRequest bios → IsRequest more → FitAt limits (extent_of bios) (extent_of more) side → Fits limits bios more side
fit_of_extents limits bios more side is is_more fit = record {
  same_direction = fit.same_direction;
  abuts = abuts bios more side fit.touches;
  within = within limits bios more side is is_more fit.within;
}

pub extents_fit : (limits : Limits) (bios more : List Bio) (side : Side) → IsRequest bios → IsRequest more → Fits limits bios more side → FitAt limits (extent_of bios) (extent_of more) side
extents_fit limits bios more side is is_more fits = record {
  same_direction = fits.same_direction;
  touches = touched bios more side fits.abuts;
  within = together limits bios more side is is_more fits.within;
}

-- the same of extents by other names, and an answer
pub from_extents : (limits : Limits) (e n : Extent) (bios more : List Bio) (side : Side) → e ≡ extent_of bios → n ≡ extent_of more → IsRequest bios → IsRequest more → FitAt limits e n side → Fits limits bios more side
from_extents limits e n bios more side is more_is r r_more fit =
    fit_of_extents limits bios more side r r_more (subst (λ (x : Extent). FitAt limits (extent_of bios) x side) more_is (subst (λ (x : Extent). FitAt limits x n side) is fit))

pub fits_some : (limits : Limits) (e n : Extent) (bios more : List Bio) (found : Option Side) → e ≡ extent_of bios → n ≡ extent_of more → IsRequest bios → IsRequest more → IfSome found (FitAt limits e n) → IfSome found (Fits limits bios more)
fits_some limits e n bios more None is more_is r r_more fit = tt
fits_some limits e n bios more (Some side) is more_is r r_more fit = from_extents limits e n bios more side is more_is r r_more fit

pub to_extents : (limits : Limits) (e n : Extent) (bios more : List Bio) (side : Side) → e ≡ extent_of bios → n ≡ extent_of more → IsRequest bios → IsRequest more → Fits limits bios more side → FitAt limits e n side
to_extents limits e n bios more side is more_is r r_more fits =
    subst (λ (x : Extent). FitAt limits x n side) (sym is) (subst (λ (x : Extent). FitAt limits (extent_of bios) x side) (sym more_is) (extents_fit limits bios more side r r_more fits))

pub fits_only : (limits : Limits) (e n : Extent) (bios more : List Bio) (found : Option Side) → e ≡ extent_of bios → n ≡ extent_of more → IsRequest bios → IsRequest more
    → IfSome found (λ s. (side : Side) → FitAt limits e n side → side ≡ s) → IfSome found (λ s. (side : Side) → Fits limits bios more side → side ≡ s)
fits_only limits e n bios more None is more_is r r_more only = tt
fits_only limits e n bios more (Some s) is more_is r r_more only = λ side fits. only side (to_extents limits e n bios more side is more_is r r_more fits)

pub fits_none : (limits : Limits) (e n : Extent) (bios more : List Bio) (found : Option Side) → e ≡ extent_of bios → n ≡ extent_of more → IsRequest bios → IsRequest more
    → IfNone found ((side : Side) → FitAt limits e n side → ⊥) → IfNone found ((side : Side) → Fits limits bios more side → ⊥)
fits_none limits e n bios more (Some s) is more_is r r_more none = tt
fits_none limits e n bios more None is more_is r r_more none = λ side fits. none side (to_extents limits e n bios more side is more_is r r_more fits)

-- requests whose extents touch nowhere abut nowhere
pub apart_none : (found : Option Side) (e n : Extent) (bios more : List Bio) → e ≡ extent_of bios → n ≡ extent_of more → IfNone found ((side : Side) → TouchesAt e n side → ⊥) → IfNone found ((side : Side) → Abuts bios more side → ⊥)
apart_none (Some found) e n bios more is more_is none = tt
apart_none None e n bios more is more_is none = λ side at.
    none side (subst (λ (x : Extent). TouchesAt x n side) (sym is) (subst (λ (x : Extent). TouchesAt (extent_of bios) x side) (sym more_is) (touched bios more side at)))

-- the extent of a request is one
pub extent_is : (bios : List Bio) → IsRequest bios → IsExtent (extent_of bios)
extent_is bios is = record {
  some = is.not_empty;
  filled = omega (arith, counted bios is, fills bios is);
  in_range = (range_of bios is).1;
}
