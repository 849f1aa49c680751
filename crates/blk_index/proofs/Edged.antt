-- The edges of requests, as these come, go and are joined.
use Rattle.std.proofs.Common.{◌≡◌, ◌≤◌, ◌-◌, ◌⊎◌, inl, inr, ℕ, Bool, true, false, cond, sym, ap, subst, ◌∙◌, refl, arith, Some, None, Option}
use Rattle.std.specs.Ordering.{nat_cmp, is_eq}
use Rattle.std.specs.Cmp.{nat_cmp_total, tied_itself}
use Rattle.std.specs.BTreeMap.{is_at}
use Rattle.std.specs.Prelude.{Result, Ok, Err, OnOk}
use Rattle.ordered.specs.Ordered.{Adds, Takes}
use Rattle.blk_bio.specs.Extents.{Extent}
use Rattle.blk_sched.specs.Meaning.{Waiting}
use Rattle.blk_sched.proofs.Maps.{same_number}
use Rattle.blk_index.specs.declared.edges.Edge.{Edge}
use Rattle.blk_index.specs.declared.edges.Edges.{Edges}
use Rattle.blk_index.specs.Keys.{keyed_cmp}
use Rattle.blk_index.specs.Inside.Spots.{DirSector, Spot, place_cmp, Becomes}
use Rattle.blk_index.specs.Inside.Entries.{Key}
use Rattle.blk_index.specs.Inside.Shapes.{entries_in, entry_at, IsIn, Spares, ShapeListed}
use Rattle.blk_index.specs.Inside.Edges.{stands_alone, IsListedAt, IsListedAs, KeepsBut, KeepsOwn, IsEdge, IsEdges}
use Rattle.blk_index.proofs.Indexed.{Found}
use Rattle.blk_index.proofs.Shaped.{taken_but, spot_exact}

-- ---- what one edge lists

abbrev Has : Type 0
Has = Key → Bool

-- entries stay, and those of a place and an id may go
abbrev pub KeepsEntries : Has → Has → Type 0
KeepsEntries old new = (e : Key) → old e ≡ true → new e ≡ true

abbrev pub KeepsEntriesBut : DirSector → ℕ → Has → Has → Type 0
KeepsEntriesBut place id old new = (e : Key) → (e.0.0.0.0.0 ≡ place → e.1 ≡ id → ⊥) → old e ≡ true → new e ≡ true

pub listed_still : (old new : Has) (p : DirSector) (k s b : ℕ) → KeepsEntries old new → ShapeListed old p k s b → ShapeListed new p k s b
listed_still old new p k s b keeps is = record {
  said = is.said;
  said_bios = is.said_bios;
  least = is.least;
  fewest = is.fewest;
  there = λ span spans unit size. keeps (entry_at p (is.said_bios, is.said) k span unit) (is.there span spans unit size);
}

pub listed_but : (old new : Has) (place : DirSector) (id : ℕ) (p : DirSector) (k s b : ℕ) → KeepsEntriesBut place id old new → (p ≡ place → k ≡ id → ⊥) → ShapeListed old p k s b → ShapeListed new p k s b
listed_but old new place id p k s b keeps other is = record {
  said = is.said;
  said_bios = is.said_bios;
  least = is.least;
  fewest = is.fewest;
  there = λ span spans unit size. keeps (entry_at p (is.said_bios, is.said) k span unit) other (is.there span spans unit size);
}

-- a request that is listed in another shape
pub listed_in : (old new : Has) (p : DirSector) (k : ℕ) (shape : ℕ × ℕ) (s b : ℕ) → Spares p k old new shape → IsIn old p shape k → shape.1 ≤ s → shape.0 ≤ b → ShapeListed new p k s b
listed_in old new p k shape s b spares there grown longer_low = record {
  said = shape.1;
  said_bios = shape.0;
  least = grown;
  fewest = longer_low;
  there = λ span spans unit size. spares span unit (there span spans unit size);
}

pub listed_as : (has : Has) (p : DirSector) (k s b : ℕ) → IsIn has p (b, s) k → ShapeListed has p k s b
listed_as has p k s b there = record { said = s; said_bios = b; least = omega arith; fewest = omega arith; there = there }

-- one put among those that stand by themselves, and one taken
pub spot_put : {A T E : Type 0} (r : Result T E) (old new : Edge A) (spot : Spot) (x : Extent) → OnOk r (Adds (keyed_cmp place_cmp) (stands_alone old) spot (stands_alone new)) → OnOk r (IsListedAs new spot x)
spot_put (Ok u) old new spot x adds = inl (adds spot ∙ ap (λ b. cond (is_eq b) true (stands_alone old spot)) (spot_exact.itself spot))
spot_put (Err u) old new spot x adds = tt

pub spot_taken : (has now : Spot → Bool) (spot : Spot) (p : DirSector) (k : ℕ) → Takes (keyed_cmp place_cmp) has spot now → (p ≡ spot.0 → k ≡ spot.1 → ⊥) → has (p, k) ≡ true → now (p, k) ≡ true
spot_taken has now spot p k takes other there =
    taken_but (keyed_cmp place_cmp) has now spot spot_exact (p, k) takes (λ same. other (ap (λ (q : Spot). q.0) same) (ap (λ (q : Spot). q.1) same)) there

module _ {A : Type 0} where
  -- where there are no others, what is listed stands by itself
  pub by_itself : (e : Edge A) (p : DirSector) (k s b : ℕ) → ((x : Key) → entries_in e.others x ≡ false) → IsListedAt e p k s b → stands_alone e (p, k) ≡ true
  by_itself e p k s b none (inl one) = one
  by_itself e p k s b none (inr is) = let no : true ≡ false = sym (is.there 1 (inl refl) 1 (inl refl)) ∙ none (entry_at p (is.said_bios, is.said) k 1 1) in absurd (cc)

  pub lists_more : (e : Edge A) (p : DirSector) (k s b more longer : ℕ) → s ≤ more → b ≤ longer → IsListedAt e p k s b → IsListedAt e p k more longer
  lists_more e p k s b more longer grown longer_low (inl one) = inl one
  lists_more e p k s b more longer grown longer_low (inr is) = inr (record {
    said = is.said;
    said_bios = is.said_bios;
    least = let low : is.said ≤ s = is.least in omega arith;
    fewest = let low : is.said_bios ≤ b = is.fewest in omega arith;
    there = is.there;
  })

-- ---- the requests

-- one of the id, or one that was there before
at_id : (old new : Found) (id : ℕ) (x : Option Waiting) (k : ℕ) (w : Waiting) → Becomes old id x new → new k ≡ Some w → ((k ≡ id) × (x ≡ Some w)) ⊎ ((k ≡ id → ⊥) × (old k ≡ Some w))
at_id old new id x k w becomes there =
    elim (is_at (nat_cmp id) k) as (λ b. is_at (nat_cmp id) k ≡ b → cond b x (old k) ≡ Some w → ((k ≡ id) × (x ≡ Some w)) ⊎ ((k ≡ id → ⊥) × (old k ≡ Some w))) [
      | true ↦ λ e h. inl (same_number id k e, h)
      | false ↦ λ e h. inr (λ same. (let no : true ≡ false = sym (ap is_eq (tied_itself nat_cmp_total id)) ∙ ap (is_at (nat_cmp id)) (sym same) ∙ e in absurd (cc)), h)
    ] refl (sym (becomes k) ∙ there)

module _ {A : Type 0} (at : Extent → DirSector) (old new : Found) (id : ℕ) where
  -- a request that is listed, by other names of its place, its id and its extent
  listed_by : (x : Extent) (p : DirSector) (k : ℕ) (u : Waiting) (e : Edge A) → p ≡ at x → k ≡ id → x ≡ u.extent → IsListedAs e (p, id) x → IsListedAs e (at u.extent, k) u.extent
  listed_by x p k u e is same it own =
      subst (λ (y : Extent). IsListedAs e (at y, k) y) it
      (subst (λ (n : ℕ). IsListedAs e (at x, n) x) (sym same) (subst (λ (q : DirSector). IsListedAs e (q, id) x) is own))

  -- a request more
  pub edge_entered : (w : Waiting) (x : Extent) (p : DirSector) (e f : Edge A) → IsEdge at old e → p ≡ at x → x ≡ w.extent → IsListedAs f (p, id) x → KeepsBut (p, id) e f → Becomes old id (Some w) new → IsEdge at new f
  edge_entered w x p e f edge is it own keeps becomes k u there = elim (at_id old new id (Some w) k u becomes there) [
    | inl (same, one) ↦ let met : w ≡ u = cc in listed_by x p k u f is same (it ∙ ap (λ (y : Waiting). y.extent) met) own
    | inr (other, was) ↦ keeps (at u.extent) k (u.extent.end - u.extent.first) u.extent.bios (λ _ same. other same) (edge k u was)
  ]

  -- a request less
  pub edge_taken : (p : DirSector) (e f : Edge A) → IsEdge at old e → KeepsBut (p, id) e f → Becomes old id None new → IsEdge at new f
  edge_taken p e f edge keeps becomes k u there = elim (at_id old new id None k u becomes there) [
    | inl (same, one) ↦ absurd (cc)
    | inr (other, was) ↦ keeps (at u.extent) k (u.extent.end - u.extent.first) u.extent.bios (λ _ same. other same) (edge k u was)
  ]

  -- a request that is not there may go
  pub edge_without : (p : DirSector) (e f : Edge A) → IsEdge at old e → old id ≡ None → KeepsBut (p, id) e f → IsEdge at old f
  edge_without p e f edge none keeps k u there =
      keeps (at u.extent) k (u.extent.end - u.extent.first) u.extent.bios (λ _ same. let no : None ≡ Some u = sym none ∙ ap old (sym same) ∙ there in absurd (cc)) (edge k u there)

  -- a request comes to a place and leaves another
  pub edge_moved : (v w : Waiting) (x : Extent) (p q : DirSector) (e f h : Edge A) → IsEdge at old e → p ≡ at x → x ≡ w.extent → q ≡ at v.extent → (at v.extent ≡ at x → ⊥) → IsListedAs f (p, id) x → KeepsBut (p, id) e f → KeepsBut (q, id) f h → Becomes old id (Some w) new → IsEdge at new h
  edge_moved v w x p q e f h edge is it was apart own keeps keeps_then becomes k u there = elim (at_id old new id (Some w) k u becomes there) [
    | inl (same, one) ↦
        let met : w ≡ u = cc in
        listed_by x p k u h is same (it ∙ ap (λ (y : Waiting). y.extent) met) (keeps_then p id (x.end - x.first) x.bios (λ place _. apart (sym was ∙ sym place ∙ is)) own)
    | inr (other, before) ↦
        keeps_then (at u.extent) k (u.extent.end - u.extent.first) u.extent.bios (λ _ same. other same)
        (keeps (at u.extent) k (u.extent.end - u.extent.first) u.extent.bios (λ _ same. other same) (edge k u before))
  ]

  -- a request grows where it lies
  pub edge_grown : (v w : Waiting) (x : Extent) (p : DirSector) (e f : Edge A) → IsEdge at old e → old id ≡ Some v → p ≡ at v.extent → at v.extent ≡ at x → x ≡ w.extent → v.extent.end - v.extent.first ≤ x.end - x.first → v.extent.bios ≤ x.bios → KeepsBut (p, id) e f → KeepsOwn (p, id) x e f → Becomes old id (Some w) new → IsEdge at new f
  edge_grown v w x p e f edge found is stays it grows lengthens keeps own becomes k u there = elim (at_id old new id (Some w) k u becomes there) [
    | inl (same, one) ↦
        let met : w ≡ u = cc in
        let before : IsListedAs e (p, id) v.extent = subst (λ (q : DirSector). IsListedAs e (q, id) v.extent) (sym is) (edge id v found) in
        listed_by x p k u f (is ∙ stays) same (it ∙ ap (λ (y : Waiting). y.extent) met)
        (own (x.end - x.first) x.bios (omega arith) (omega arith)
        (lists_more e p id (v.extent.end - v.extent.first) v.extent.bios (x.end - x.first) x.bios grows lengthens before))
    | inr (other, was) ↦ keeps (at u.extent) k (u.extent.end - u.extent.first) u.extent.bios (λ _ same. other same) (edge k u was)
  ]

pub edges_kept : {A : Type 0} (old new : Found) (e : Edges A) → IsEdges old e → ((k : ℕ) → new k ≡ old k) → IsEdges new e
edges_kept old new e edges same = record {
  front = λ k u there. edges.front k u (sym (same k) ∙ there);
  back = λ k u there. edges.back k u (sym (same k) ∙ there);
}

-- ---- found for a while, and after no more

abbrev pub with_one : Found → ℕ → Waiting → Found
with_one found id w k = cond (is_at (nat_cmp id) k) (Some w) (found k)

pub here : (found : Found) (id : ℕ) (w : Waiting) → with_one found id w id ≡ Some w
here found id w = ap (λ b. cond b (Some w) (found id)) (ap is_eq (tied_itself nat_cmp_total id))

pub becomes_back : (found : Found) (id : ℕ) (w : Waiting) → found id ≡ None → Becomes (with_one found id w) id None found
becomes_back found id w none k = elim (is_at (nat_cmp id) k) as (λ b. is_at (nat_cmp id) k ≡ b → found k ≡ cond b None (cond b (Some w) (found k))) [
  | true ↦ λ e. ap found (same_number id k e) ∙ none
  | false ↦ λ _. refl
] refl
