use Rattle.std.proofs.Common.{subst, sym}
use Rattle.std.specs.FinMap as map
use Rattle.blk_bio.specs.declared.request.Side.{Side}
use Rattle.blk_index.specs.Inside.Edges.{IsEdge}
use Rattle.blk_index.specs.Inside.Spots.{at_of, opposite_of}
use Rattle.blk_index.proofs.Joining.{named_joined}
use Rattle.blk_index.proofs.index.Index.join_at.Goals as goal
use Rattle.blk_index.proofs.index.Index.join_at.Goals.{in-Back, in-Front}

pub invariant_of-self : goal.invariant_of-self
invariant_of-self g c =
    let own = c.self.inside.waiting in
    elim c.match-side.branch [
      | in-Back w ↦ rw w.self-inside-is (
        named_joined own w.join_in.new.waiting c.args.id c.args.now c.args.side c.args.newcomer.now w.join_in.result c.self.invariant.0 w.join_in.ensures.joined w.join_in.ensures.same,
        record {
          front = subst (λ (t : Side). IsEdge (at_of (opposite_of t)) (map.get w.join_in.new.waiting) w.join_in.new.other) w.in-Back.is w.join_in.ensures.other;
          back = subst (λ (t : Side). IsEdge (at_of t) (map.get w.join_in.new.waiting) w.join_in.new.edge) w.in-Back.is w.join_in.ensures.edge;
        },
      )
      | in-Front w ↦ rw w.self-inside-is (
        named_joined own w.join_in-in-Front.new.waiting c.args.id c.args.now c.args.side c.args.newcomer.now w.join_in-in-Front.result c.self.invariant.0 w.join_in-in-Front.ensures.joined w.join_in-in-Front.ensures.same,
        record {
          front = subst (λ (t : Side). IsEdge (at_of t) (map.get w.join_in-in-Front.new.waiting) w.join_in-in-Front.new.edge) w.in-Front.is w.join_in-in-Front.ensures.edge;
          back = subst (λ (t : Side). IsEdge (at_of (opposite_of t)) (map.get w.join_in-in-Front.new.waiting) w.join_in-in-Front.new.other) w.in-Front.is w.join_in-in-Front.ensures.other;
        },
      )
    ]

pub join_in-requires-clause-edge : goal.join_in-requires-clause-edge
join_in-requires-clause-edge g c = subst (λ (t : Side). IsEdge (at_of t) (map.get c.self.inside.waiting) c.self.inside.edges.back) (sym c.in-Back.is) c.self.invariant.1.back

pub join_in-requires-clause-other : goal.join_in-requires-clause-other
join_in-requires-clause-other g c = subst (λ (t : Side). IsEdge (at_of (opposite_of t)) (map.get c.self.inside.waiting) c.self.inside.edges.front) (sym c.in-Back.is) c.self.invariant.1.front

pub join_in-requires-in-Front-clause-edge : goal.join_in-requires-in-Front-clause-edge
join_in-requires-in-Front-clause-edge g c = subst (λ (t : Side). IsEdge (at_of t) (map.get c.self.inside.waiting) c.self.inside.edges.front) (sym c.in-Front.is) c.self.invariant.1.front

pub join_in-requires-in-Front-clause-other : goal.join_in-requires-in-Front-clause-other
join_in-requires-in-Front-clause-other g c = subst (λ (t : Side). IsEdge (at_of (opposite_of t)) (map.get c.self.inside.waiting) c.self.inside.edges.back) (sym c.in-Front.is) c.self.invariant.1.back
