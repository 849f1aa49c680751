-- A join of a request that waits.
use Rattle.std.proofs.Common.{◌≡◌, ◌≤◌, ◌+◌, ◌-◌, ℕ, sym, ap, subst, ◌∙◌, refl, arith, Some}
use Rattle.blk_bio.specs.declared.request.Side.{Side}
use Rattle.blk_bio.specs.declared.request.Side.TheVariants.{Back, Front}
use Rattle.blk_bio.specs.Extents.{Extent, IsExtent, TouchesAt, extent_joined}
use Rattle.blk_sched.specs.Meaning.{Waiting}
use Rattle.blk_sched.specs.Fits.{HasTouch}
use Rattle.blk_index.specs.Inside.Spots.{DirSector, at_of, opposite_of}
use Rattle.blk_index.proofs.Indexed.{Found}

-- a newcomer touches the request that is there
pub touches_it : (old : Found) (id : ℕ) (side : Side) (newcomer : Extent) (v : Waiting) → old id ≡ Some v → HasTouch old newcomer id side → TouchesAt v.extent newcomer side
touches_it old id side newcomer v found touch =
    let one : Some touch.0 ≡ Some v = sym touch.1 ∙ found in
    let same : touch.0 ≡ v = cc in
    subst (λ (x : Waiting). TouchesAt x.extent newcomer side) same touch.2

-- ---- what a joined request is

pub dir_stays : (e newcomer : Extent) (side : Side) → (extent_joined e newcomer side).dir ≡ e.dir
dir_stays e newcomer Back = refl
dir_stays e newcomer Front = refl

pub bios_both : (e newcomer : Extent) (side : Side) → (extent_joined e newcomer side).bios ≡ e.bios + newcomer.bios
bios_both e newcomer Back = refl
bios_both e newcomer Front = refl

pub sectors_grow : (e newcomer : Extent) (side : Side) → IsExtent newcomer → TouchesAt e newcomer side → e.end - e.first ≤ (extent_joined e newcomer side).end - (extent_joined e newcomer side).first
sectors_grow e newcomer Back filled touch = let some = filled.filled in let at : newcomer.first ≡ e.end = touch in omega arith
sectors_grow e newcomer Front filled touch = let some = filled.filled in let at : newcomer.end ≡ e.first = touch in omega arith

-- at the side it lies elsewhere than before
pub apart_at : (e newcomer : Extent) (side : Side) → IsExtent newcomer → TouchesAt e newcomer side → at_of side e ≡ at_of side (extent_joined e newcomer side) → ⊥
apart_at e newcomer Back filled touch same =
    let some = filled.some in
    let range = filled.filled in
    let at : newcomer.first ≡ e.end = touch in
    let there : e.end ≡ newcomer.end = ap (λ (p : DirSector). p.1) same in
    omega arith
apart_at e newcomer Front filled touch same =
    let some = filled.some in
    let range = filled.filled in
    let at : newcomer.end ≡ e.first = touch in
    let there : e.first ≡ newcomer.first = ap (λ (p : DirSector). p.1) same in
    omega arith

-- and as before at the other side
pub stays_at : (e newcomer : Extent) (side : Side) → at_of (opposite_of side) e ≡ at_of (opposite_of side) (extent_joined e newcomer side)
stays_at e newcomer Back = refl
stays_at e newcomer Front = refl
