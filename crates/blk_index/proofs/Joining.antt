-- An index, and the edges of its requests, once one of these is joined.
use Rattle.std.proofs.Common.{◌≡◌, ◌<◌, ◌≤◌, ◌+◌, ◌-◌, ℕ, sym, ap, subst, ◌∙◌, arith, Some}
use Rattle.std.specs.Prelude.{Result, Ok, Err, OnOk, OnErr}
use Rattle.std.specs.FinMap as map
use Rattle.blk_bio.specs.declared.request.Side.{Side}
use Rattle.blk_bio.specs.Extents.{Extent, IsExtent, extent_joined}
use Rattle.blk_sched.specs.Meaning.{Waiting, Pending, joined_waiting}
use Rattle.blk_sched.specs.Fits.{HasTouch}
use Rattle.blk_index.specs.Inside.Spots.{DirSector, Becomes, at_of, opposite_of}
use Rattle.blk_index.specs.Inside.Edges.{IsListedAs, KeepsBut, KeepsOwn, IsEdge}
use Rattle.blk_index.specs.declared.edges.Edge.{Edge}
use Rattle.blk_index.specs.Index.{IsJoined}
use Rattle.blk_index.specs.Inside.Search.{IsNamed}
use Rattle.blk_index.proofs.Indexed.{named_then, named_same, becomes_given}
use Rattle.blk_index.proofs.Join.{touches_it, bios_both, sectors_grow, apart_at, stays_at}
use Rattle.blk_index.proofs.Edged.{edge_moved, edge_grown}

pub named_joined : {T E : Type 0} (m n : Pending) (id at : ℕ) (side : Side) (newcomer : Extent) (r : Result T E) → IsNamed (map.get m) → OnOk r (IsJoined at newcomer m id side n) → OnErr r (n ≡ m) → IsNamed (map.get n)
named_joined m n id at side newcomer (Ok x) named join same =
    let w = joined_waiting side at newcomer join.waiting in
    named_then (map.get m) (map.get n) id (Some w) named
    (λ u h. let one : w ≡ u = cc in ap (λ (x : Waiting). x.id) (sym one) ∙ named id join.waiting join.was) (becomes_given m n id w join.is)
named_joined m n id at side newcomer (Err x) named join same = named_same (map.get m) (map.get n) named (λ k. ap (λ (x : Pending). map.get x k) same)

-- ---- the edges of a join

module _ (m n : Pending) (id at : ℕ) (side : Side) (newcomer : Extent) (v : Waiting) (found : Some v ≡ map.get m id) (filled : IsExtent newcomer) (touch : HasTouch (map.get m) newcomer id side) where
  -- more bios fill it
  longer : (x : Extent) → x ≡ extent_joined v.extent newcomer side → v.extent.bios < x.bios
  longer x is =
      let some = filled.some in
      let both : x.bios ≡ v.extent.bios + newcomer.bios = ap (λ (e : Extent). e.bios) is ∙ bios_both v.extent newcomer side in
      omega arith

  -- it is the request of the id then
  becomes : IsJoined at newcomer m id side n → Becomes (map.get m) id (Some (joined_waiting side at newcomer v)) (map.get n)
  becomes join =
      let one : Some join.waiting ≡ Some v = sym join.was ∙ sym found in
      let same : join.waiting ≡ v = cc in
      becomes_given m n id (joined_waiting side at newcomer v) (join.is ∙ ap (λ (w : Waiting). map.insert m id (joined_waiting side at newcomer w)) same)

  -- what changes where it will lie leaves what lies elsewhere, itself too
  pub edge_ahead : {A : Type 0} (x : Extent) (p : DirSector) (e f : Edge A) → x ≡ extent_joined v.extent newcomer side → IsEdge (at_of side) (map.get m) e → p ≡ at_of side x → KeepsBut (p, id) e f → IsEdge (at_of side) (map.get m) f
  edge_ahead x p e f is edge there keeps k u has =
      let apart : at_of side v.extent ≡ at_of side x → ⊥ = λ same. apart_at v.extent newcomer side filled (touches_it (map.get m) id side newcomer v (sym found) touch) (same ∙ ap (at_of side) is) in
      keeps (at_of side u.extent) k (u.extent.end - u.extent.first) u.extent.bios
      (λ place same. let one : Some u ≡ Some v = sym has ∙ ap (map.get m) same ∙ sym found in let own : u ≡ v = cc in apart (ap (λ (w : Waiting). at_of side w.extent) (sym own) ∙ place ∙ there))
      (edge k u has)

  pub edge_joined : {A : Type 0} (x : Extent) (p q : DirSector) (e f h : Edge A) → x ≡ extent_joined v.extent newcomer side → IsJoined at newcomer m id side n → IsEdge (at_of side) (map.get m) e → p ≡ at_of side x → q ≡ at_of side v.extent → IsListedAs f (p, id) x → KeepsBut (p, id) e f → KeepsBut (q, id) f h → IsEdge (at_of side) (map.get n) h
  edge_joined x p q e f h is join edge there was own keeps keeps_then =
      edge_moved (at_of side) (map.get m) (map.get n) id v (joined_waiting side at newcomer v) x p q e f h edge there is was
      (λ same. apart_at v.extent newcomer side filled (touches_it (map.get m) id side newcomer v (sym found) touch) (same ∙ ap (at_of side) is))
      own keeps keeps_then (becomes join)

  pub edge_beside : {A : Type 0} (x : Extent) (p : DirSector) (e f : Edge A) → x ≡ extent_joined v.extent newcomer side → IsJoined at newcomer m id side n → IsEdge (at_of (opposite_of side)) (map.get m) e → p ≡ at_of (opposite_of side) v.extent → KeepsBut (p, id) e f → KeepsOwn (p, id) x e f → IsEdge (at_of (opposite_of side)) (map.get n) f
  edge_beside x p e f is join edge there keeps own =
      let more = longer x is in
      edge_grown (at_of (opposite_of side)) (map.get m) (map.get n) id v (joined_waiting side at newcomer v) x p e f edge (sym found) there
      (stays_at v.extent newcomer side ∙ ap (at_of (opposite_of side)) (sym is)) is
      (subst (λ (y : Extent). v.extent.end - v.extent.first ≤ y.end - y.first) (sym is) (sectors_grow v.extent newcomer side filled (touches_it (map.get m) id side newcomer v (sym found) touch)))
      (omega arith) keeps own (becomes join)
