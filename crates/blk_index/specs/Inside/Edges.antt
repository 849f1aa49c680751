-- Requests listed by where they begin and where they end.
use Rattle.std.specs.Prelude.{ℕ, ◌≡◌, ◌≤◌, ◌-◌, ◌⊎◌, Bool, true, Option, None, Some}
use Rattle.ordered.specs.Ordered.{listed}
use Rattle.blk_bio.specs.Extents.{Extent}
use Rattle.blk_sched.specs.Meaning.{Waiting}
use Rattle.blk_index.specs.Keys.{keyed_cmp}
use Rattle.blk_index.specs.Inside.Spots.{DirSector, Spot, place_cmp, first_at, end_at, Becomes}
use Rattle.blk_index.specs.Inside.Shapes.{entries_in, ShapeListed}
use Rattle.blk_index.specs.declared.edges.Edge.{Edge}
use Rattle.blk_index.specs.declared.edges.Edges.{Edges}

module _ {A : Type 0} where
  -- whether a request stands by itself at a place
  abbrev pub stands_alone : Edge A → Spot → Bool
  stands_alone edge = listed (keyed_cmp place_cmp) edge.ones

  -- a request is listed at a place, with no more sectors and bios than these
  abbrev pub IsListedAt : Edge A → DirSector → ℕ → ℕ → ℕ → Type 0
  IsListedAt edge p id sectors bios = (stands_alone edge (p, id) ≡ true) ⊎ ShapeListed (entries_in edge.others) p id sectors bios

  -- a request of an extent is
  abbrev pub IsListedAs : Edge A → Spot → Extent → Type 0
  IsListedAs edge spot e = IsListedAt edge spot.0 spot.1 (e.end - e.first) e.bios

  -- what is listed stays so, but for one
  abbrev pub KeepsBut : Spot → Edge A → Edge A → Type 0
  KeepsBut spot old new = (p : DirSector) (k s b : ℕ) → (p ≡ spot.0 → k ≡ spot.1 → ⊥) → IsListedAt old p k s b → IsListedAt new p k s b

  -- and that one, where it has as much
  abbrev pub KeepsOwn : Spot → Extent → Edge A → Edge A → Type 0
  KeepsOwn spot e old new = (s b : ℕ) → e.end - e.first ≤ s → e.bios ≤ b → IsListedAt old spot.0 spot.1 s b → IsListedAt new spot.0 spot.1 s b

  -- each request is listed where it lies at one side
  abbrev pub IsEdge : (Extent → DirSector) → (ℕ → Option Waiting) → Edge A → Type 0
  IsEdge at found edge = (k : ℕ) (w : Waiting) → found k ≡ Some w → IsListedAs edge (at w.extent, k) w.extent

  -- where the requests begin and where they end
  pub record IsEdges (found : ℕ → Option Waiting) (edges : Edges A) : Type 0 where
    pub front : IsEdge first_at found edges.front
    pub back : IsEdge end_at found edges.back

  -- the edges of a request that comes are added, and those of one that goes are taken out
  abbrev pub AddsEdges : Extent → ℕ → Edges A → Edges A → Type 0
  AddsEdges extent id before after =
      (old new : ℕ → Option Waiting) (w : Waiting) → extent ≡ w.extent → IsEdges old before → old id ≡ None
      → Becomes old id (Some w) new → IsEdges new after

  abbrev pub DropsEdges : Extent → ℕ → Edges A → Edges A → Type 0
  DropsEdges extent id before after =
      (old new : ℕ → Option Waiting) (w : Waiting) → extent ≡ w.extent → IsEdges old before → old id ≡ Some w → Becomes old id None new
      → IsEdges new after
