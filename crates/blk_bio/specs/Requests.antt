-- Requests: lists of bios that tile a range, what fits them, and which of several a newcomer joins.
use Rattle.std.specs.Prelude.{ℕ, ◌≡◌, ◌<◌, ◌≤◌, ◌+◌, ◌⊎◌, ◌++◌, List, [], ◌∷◌, Bool, IsTrue, length, slice_index_or, slice_get, Some, sum_by, All}
use Rattle.blk_bio.specs.declared.bio.Dir.{Dir}
use Rattle.blk_bio.specs.declared.bio.Dir.TheVariants.{Read}
use Rattle.blk_bio.specs.declared.request.Side.{Side}
use Rattle.blk_bio.specs.declared.request.Side.TheVariants.{Back, Front}
use Rattle.blk_bio.specs.Bios.{Bio, IsBio, end_of}
use Rattle.blk_bio.specs.Limits.{Limits}

-- the direction of a list of bios: its first one's
abbrev pub dir_of : List Bio → Dir
dir_of [] = Read
dir_of (b ∷ _) = b.dir

-- where a list of bios begins: where its first one does
abbrev pub first_of : List Bio → ℕ
first_of [] = 0
first_of (b ∷ _) = b.first

-- where a list of bios ends: where its last one does
unfoldable pub last_of : List Bio → ℕ
last_of [] = 0
last_of (b ∷ []) = end_of b
last_of (_ ∷ c ∷ bs) = last_of (c ∷ bs)

-- the sectors of all of them
abbrev pub sectors_of : List Bio → ℕ
sectors_of bios = sum_by (λ b. b.sectors) bios

-- a request: bios of one direction, at least one, each beginning where the one before it ends
pub record IsRequest (bios : List Bio) : Type 0 where
  pub not_empty : 0 < length bios
  pub each_bio : All IsBio bios
  pub one_direction : (k : ℕ) (d : Bio) → k < length bios → (slice_index_or bios k d).dir ≡ dir_of bios
  pub tiles : (k : ℕ) (d : Bio) → k + 1 < length bios → (slice_index_or bios (k + 1) d).first ≡ end_of (slice_index_or bios k d)

-- one bio, or no more sectors and bios than the limits
abbrev pub IsWithin : Limits → List Bio → Type 0
IsWithin limits bios =
    (length bios ≡ 1) ⊎ ((sectors_of bios ≤ limits.max_sectors) × (length bios ≤ limits.max_segments))

-- the newcomer begins where the request ends, or ends where the request begins
abbrev pub Abuts : List Bio → List Bio → Side → Type 0
Abuts bios newcomer Back = first_of newcomer ≡ last_of bios
Abuts bios newcomer Front = last_of newcomer ≡ first_of bios

-- the bios of both, in the order of their sectors
abbrev pub joined : List Bio → List Bio → Side → List Bio
joined bios newcomer Back = bios ++ newcomer
joined bios newcomer Front = newcomer ++ bios

-- the newcomer can join the request at the side
pub record Fits (limits : Limits) (bios newcomer : List Bio) (side : Side) : Type 0 where
  pub same_direction : dir_of newcomer ≡ dir_of bios
  pub abuts : Abuts bios newcomer side
  pub within : IsWithin limits (joined bios newcomer side)

-- the side is one that may be tried: the front only where it is allowed
abbrev pub IsTried : Bool → Side → Type 0
IsTried front Back = Unit {0}
IsTried front Front = IsTrue front

-- of the requests, listed from the oldest to the newest, the newcomer joins the one at the place, at the side:
-- the newest that it fits, at the back where it fits both sides
pub record IsJoinCandidate (limits : Limits) (front : Bool) (requests : List (List Bio)) (newcomer : List Bio) (place : ℕ) (side : Side) : Type 0 where
  pub bios : List Bio
  pub stands : slice_get requests place ≡ Some bios
  pub tried : IsTried front side
  pub fits : Fits limits bios newcomer side
  pub back_first : side ≡ Front → Fits limits bios newcomer Back → ⊥
  pub newest : (k : ℕ) (newer : List Bio) (s : Side) → place < k → slice_get requests k ≡ Some newer → IsTried front s → Fits limits newer newcomer s → ⊥
