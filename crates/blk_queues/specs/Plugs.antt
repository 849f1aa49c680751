-- Plugs.
use Rattle.std.specs.Prelude.{ℕ, ◌≡◌, ◌≤◌, List, [], ◌∷◌, true, length, slice_get, slice_set, Some, All}
use Rattle.std.specs.List.{flat_map}
use Rattle.blk_bio.specs.declared.request.Side.{Side}
use Rattle.blk_queues.specs.declared.plug.TheConstants.{MAX_STAGED}
use Rattle.blk_bio.specs.Bios.{Bio}
use Rattle.blk_bio.specs.Limits.{Limits}
use Rattle.blk_bio.specs.Requests.{joined, IsWithin, Fits, IsJoinCandidate}

-- a plug: the limits within which bios join, and its requests from the oldest to the newest
pub record Plug : Type 0 where
  pub limits : Limits
  pub requests : List (List Bio)

-- no more requests than that, each of which is one bio or within the limits
pub record IsPlug (plug : Plug) : Type 0 where
  pub few : length plug.requests ≤ MAX_STAGED
  pub within : All (IsWithin plug.limits) plug.requests

-- the bios of its requests, in their order
abbrev pub bios_plugged : Plug → List Bio
bios_plugged plug = flat_map (λ request. request) plug.requests

-- some request is the one that the newcomer joins, at either side
abbrev pub HasPlugCandidate : Limits → List (List Bio) → List Bio → Type 0
HasPlugCandidate limits requests newcomer =
    (place : ℕ) × ((side : Side) × IsJoinCandidate limits true requests newcomer place side)

-- the newcomer fits no request, at neither side
abbrev pub HasNoPlugCandidate : Limits → List (List Bio) → List Bio → Type 0
HasNoPlugCandidate limits requests newcomer =
    (k : ℕ) (bios : List Bio) (side : Side) → slice_get requests k ≡ Some bios → Fits limits bios newcomer side → ⊥

-- the request at the place is joined by a bio at the side, and the others stand as they did
pub record IsJoinedAt (old : List (List Bio)) (bio : Bio) (place : ℕ) (side : Side) (new : List (List Bio)) : Type 0 where
  pub bios : List Bio
  pub stands : slice_get old place ≡ Some bios
  pub changed : new ≡ slice_set old place (joined bios (bio ∷ []) side)
