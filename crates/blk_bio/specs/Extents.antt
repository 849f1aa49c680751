-- What of a request decides what may join it.
use Rattle.std.specs.Prelude.{ℕ, ◌≡◌, ◌<◌, ◌≤◌, ◌+◌, ◌-◌, List, length}
use Rattle.blk_bio.specs.declared.bio.Dir.{Dir}
use Rattle.blk_bio.specs.declared.bio.TheConstants.{MAX_END}
use Rattle.blk_bio.specs.declared.request.Side.{Side}
use Rattle.blk_bio.specs.declared.request.Side.TheVariants.{Back, Front}
use Rattle.blk_bio.specs.Bios.{Bio}
use Rattle.blk_bio.specs.Limits.{Limits}
use Rattle.blk_bio.specs.Requests.{dir_of, first_of, last_of}

-- a direction, the sectors from the first one up to the end, and how many bios fill them
pub record Extent : Type 0 where
  pub dir : Dir
  pub first : ℕ
  pub end : ℕ
  pub bios : ℕ

-- there is a bio, each has a sector at least, and it ends at most at the limit
pub record IsExtent (e : Extent) : Type 0 where
  pub some : 0 < e.bios
  pub filled : e.first + e.bios ≤ e.end
  pub in_range : e.end ≤ MAX_END

-- the direction and the range of a list of bios, and how many they are
abbrev pub extent_of : List Bio → Extent
extent_of bios = record { dir = dir_of bios; first = first_of bios; end = last_of bios; bios = length bios }

-- the newcomer begins at the end, or ends at the beginning
abbrev pub TouchesAt : Extent → Extent → Side → Type 0
TouchesAt e newcomer Back = newcomer.first ≡ e.end
TouchesAt e newcomer Front = newcomer.end ≡ e.first

-- both together have no more sectors and bios than the limits
pub record WithinTogether (limits : Limits) (e newcomer : Extent) : Type 0 where
  pub sectors : (e.end - e.first) + (newcomer.end - newcomer.first) ≤ limits.max_sectors
  pub bios : e.bios + newcomer.bios ≤ limits.max_segments

-- the extent of both, where the newcomer stands at the side
abbrev pub extent_joined : Extent → Extent → Side → Extent
extent_joined e newcomer Back = record { dir = e.dir; first = e.first; end = newcomer.end; bios = e.bios + newcomer.bios }
extent_joined e newcomer Front = record { dir = e.dir; first = newcomer.first; end = e.end; bios = e.bios + newcomer.bios }

-- a newcomer fits at the side: it has the same direction, touches there, and both are within the limits
pub record FitAt (limits : Limits) (e newcomer : Extent) (side : Side) : Type 0 where
  pub same_direction : newcomer.dir ≡ e.dir
  pub touches : TouchesAt e newcomer side
  pub within : WithinTogether limits e newcomer

-- and at no other side
abbrev pub FitOnlyAt : Limits → Extent → Extent → Side → Type 0
FitOnlyAt limits e newcomer found = (side : Side) → FitAt limits e newcomer side → side ≡ found

-- a newcomer fits at neither side
abbrev pub FitNowhere : Limits → Extent → Extent → Type 0
FitNowhere limits e newcomer = (side : Side) → FitAt limits e newcomer side → ⊥
