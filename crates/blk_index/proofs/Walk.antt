-- The search for a join among the requests that a newcomer touches.
use Rattle.std.proofs.Common.{◌≡◌, ◌<◌, ◌≤◌, ◌+◌, ◌-◌, ◌⊎◌, inl, inr, ℕ, Bool, true, false, sym, ap, subst, ◌∙◌, refl, arith, Some, None, Option}
use Rattle.std.specs.Prelude.{if◌then◌else◌, IfSome, IfNone, IsTrue, nat_lt}
use Rattle.std.specs.Option.{OnSome}
use Rattle.std.proofs.lemmas.Bool.{cases_eq, cases_lt}
use borrow.Author.Tests.{ltb-true, ltb-false}
use Rattle.blk_bio.specs.declared.bio.Dir.{Dir}
use Rattle.blk_bio.specs.declared.request.Side.{Side}
use Rattle.blk_bio.specs.declared.request.Side.TheVariants.{Back, Front}
use Rattle.blk_bio.specs.Limits.{Limits}
use Rattle.blk_bio.specs.Requests.{IsTried}
use Rattle.blk_sched.specs.Meaning.{Waiting}
use Rattle.blk_bio.specs.Extents.{Extent, FitAt}
use Rattle.blk_sched.specs.Fits.{FitsNowhere, IsNewestFit, FitsNone}
use Rattle.blk_index.specs.Inside.Spots.{DirSector, is_write, at_of, opposite_of, IsBelow, IsNewer}
use Rattle.blk_index.specs.Inside.Shapes.{StandsBetween}
use Rattle.blk_index.specs.Inside.Edges.{IsListedAt, IsEdge}
use Rattle.blk_index.specs.Inside.Search.{IsPassed, FitsBy, IsNewestBy, FitsNoneBy, newer_of}
use Rattle.blk_index.specs.declared.edges.Edge.{Edge}
use Rattle.blk_index.proofs.Indexed.{Found}

-- what fits is touched
touches : (limits : Limits) (e newcomer : Extent) (side : Side) → FitAt limits e newcomer side → at_of side e ≡ at_of (opposite_of side) newcomer
touches limits e newcomer Back fits =
    ap (λ (d : Dir). let p : DirSector = (is_write d, e.end) in p) (sym fits.same_direction) ∙ ap (λ (n : ℕ). let p : DirSector = (is_write newcomer.dir, n) in p) (sym fits.touches)
touches limits e newcomer Front fits =
    ap (λ (d : Dir). let p : DirSector = (is_write d, e.first) in p) (sym fits.same_direction) ∙ ap (λ (n : ℕ). let p : DirSector = (is_write newcomer.dir, n) in p) (sym fits.touches)

below_or_passed : (below : Option ℕ) (k : ℕ) → IsBelow below k ⊎ IsPassed below k
below_or_passed None k = inl tt
below_or_passed (Some b) k = cases_lt k b

module _ {A : Type 0} (limits : Limits) (newcomer : Extent) (side : Side) (room room_bios : ℕ) (wide : limits.max_sectors ≤ room + (newcomer.end - newcomer.first)) (wide_bios : limits.max_segments ≤ room_bios + newcomer.bios)
    (found : Found) (edge : Edge A) (p : DirSector) (edges : IsEdge (at_of side) found edge) (is : p ≡ at_of (opposite_of side) newcomer)
    (below : Option ℕ) (passed : (k : ℕ) (w : Waiting) → IsPassed below k → found k ≡ Some w → FitAt limits w.extent newcomer side → ⊥) where
  -- what fits has no more than there is room beside the newcomer, and is listed where that lies
  in_room : (e : Extent) → FitAt limits e newcomer side → (e.end - e.first ≤ room) × (e.bios ≤ room_bios)
  in_room e fits = let most = fits.within.sectors in let most_bios = fits.within.bios in (omega arith, omega arith)

  listed_here : (k : ℕ) (w : Waiting) → found k ≡ Some w → FitAt limits w.extent newcomer side → IsListedAt edge p k (w.extent.end - w.extent.first) w.extent.bios
  listed_here k w there fits =
      subst (λ (q : DirSector). IsListedAt edge q k (w.extent.end - w.extent.first) w.extent.bios) (touches limits w.extent newcomer side fits ∙ sym is) (edges k w there)

  abbrev IsNewestListed : Option ℕ → Type 0
  IsNewestListed result = (k s b : ℕ) → StandsBetween below result k → IsListedAt edge p k s b → s ≤ room → b ≤ room_bios → ⊥

  -- after the newest one that is listed with no more than that nothing fits
  later : (result : Option ℕ) → IsNewestListed result → (k : ℕ) (w : Waiting) → IsNewer result k → found k ≡ Some w → FitAt limits w.extent newcomer side → ⊥
  later result newest k w past there fits = elim (below_or_passed below k) [
    | inl low ↦
        let size = in_room w.extent fits in
        newest k (w.extent.end - w.extent.first) w.extent.bios (record { low = low; past = past }) (listed_here k w there fits) size.0 size.1
    | inr high ↦ passed k w high there fits
  ]

  pub passed_more : (id : ℕ) → IsNewestListed (Some id) → ((w : Waiting) → found id ≡ Some w → FitAt limits w.extent newcomer side → ⊥) → (k : ℕ) (w : Waiting) → id ≤ k → found k ≡ Some w → FitAt limits w.extent newcomer side → ⊥
  passed_more id newest not_here k w from there fits = elim (cases_eq k id) [
    | inl same ↦ not_here w (ap found (sym same) ∙ there) fits
    | inr other ↦ later (Some id) newest k w (omega arith) there fits
  ]

  pub newest_fit : (id : ℕ) → IsNewestListed (Some id) → FitsBy limits (found id) newcomer side → IsNewestBy limits found newcomer side id
  newest_fit id newest here = record { waiting = here.waiting; is_found = here.is_found; fits = here.fits; only = here.only; newest = later (Some id) newest }

  pub none_fit : IsNewestListed None → FitsNoneBy limits found newcomer side
  none_fit newest k w = later None newest k w tt

-- ---- of the newest at both sides the newer

abbrev Law : Limits → Bool → Found → Extent → Option (ℕ × Side) → Type 0
Law limits front found newcomer r = IfSome r (λ x. IsNewestFit limits front found newcomer x.0 x.1) × IfNone r (FitsNone limits front found newcomer)

fit_of : (limits : Limits) (front : Bool) (found : Found) (newcomer : Extent) (side : Side) (id : ℕ) → IsTried front side → IsNewestBy limits found newcomer side id → ((k : ℕ) (w : Waiting) → id < k → found k ≡ Some w → FitsNowhere limits front w.extent newcomer) → IsNewestFit limits front found newcomer id side
fit_of limits front found newcomer side id tried best newest = record {
  waiting = best.waiting;
  is_found = best.is_found;
  fits = record { tried = tried; fits = best.fits; only = best.only };
  newest = newest;
}

nowhere : (limits : Limits) (front : Bool) (e newcomer : Extent) → (FitAt limits e newcomer Back → ⊥) → (IsTrue front → FitAt limits e newcomer Front → ⊥) → FitsNowhere limits front e newcomer
nowhere limits front e newcomer back ahead Back tried fits = back fits
nowhere limits front e newcomer back ahead Front tried fits = ahead tried fits

decide : (limits : Limits) (front : Bool) (found : Found) (newcomer : Extent) (b a : ℕ) (less : Bool) → nat_lt b a ≡ less → IsNewestBy limits found newcomer Back b → IsNewestBy limits found newcomer Front a → IsTrue front → Law limits front found newcomer (if less then Some (a, Front) else Some (b, Back))
decide limits front found newcomer b a true e back ahead tried =
    let low : b < a = ltb-true b a e in
    (fit_of limits front found newcomer Front a tried ahead (λ k w after there. nowhere limits front w.extent newcomer (back.newest k w (omega arith) there) (λ _. ahead.newest k w after there)), tt)
decide limits front found newcomer b a false e back ahead tried =
    let high : a ≤ b = ltb-false b a e in
    (fit_of limits front found newcomer Back b tt back (λ k w after there. nowhere limits front w.extent newcomer (back.newest k w after there) (λ _. ahead.newest k w (omega arith) there)), tt)

pub newer_law : (limits : Limits) (front : Bool) (found : Found) (newcomer : Extent) (back ahead : Option ℕ) → IfSome back (IsNewestBy limits found newcomer Back) → IfNone back (FitsNoneBy limits found newcomer Back) → IfSome ahead (IsNewestBy limits found newcomer Front) → OnSome ahead (IsTrue front) → IfNone ahead (IsTrue front → FitsNoneBy limits found newcomer Front) → Law limits front found newcomer (newer_of back ahead)
newer_law limits front found newcomer None None b nb a t na = (tt, λ id w there. nowhere limits front w.extent newcomer (nb id w there) (λ tried. na tried id w there))
newer_law limits front found newcomer (Some x) None b nb a t na = (fit_of limits front found newcomer Back x tt b (λ k w after there. nowhere limits front w.extent newcomer (b.newest k w after there) (λ tried. na tried k w there)), tt)
newer_law limits front found newcomer None (Some y) b nb a t na = (fit_of limits front found newcomer Front y t a (λ k w after there. nowhere limits front w.extent newcomer (nb k w there) (λ _. a.newest k w after there)), tt)
newer_law limits front found newcomer (Some x) (Some y) b nb a t na = decide limits front found newcomer x y (nat_lt x y) refl b a t
