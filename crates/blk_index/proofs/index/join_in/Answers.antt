use Rattle.std.proofs.Common.{ap, ◌∙◌}
use Rattle.blk_bio.specs.declared.request.Side.{Side}
use Rattle.blk_index.specs.Inside.Spots.{at_of}
use Rattle.blk_index.proofs.Joining.{edge_ahead, edge_joined, edge_beside}
use Rattle.blk_index.proofs.index.join_in.Goals as goal

pub returns-clause-edge : goal.returns-clause-edge
returns-clause-edge g c =
    edge_joined c.args.waiting.now c.join.new.self c.args.id c.args.now c.args.side c.args.newcomer.now c.in-Some.queued.now c.in-Some.ensures.value c.sectors.ensures.is_extent c.requires.touch
    c.joined-after.result c.place_at.result c.place_at-2.result c.args.edge.now c.put.new.self c.take.new.self c.joined-after.ensures c.join.ensures c.requires.edge c.place_at.ensures.value c.place_at-2.ensures.value
    c.in_ok-put.ensures.ok c.in_ok-put.ensures.kept c.take.ensures

pub returns-clause-other : goal.returns-clause-other
returns-clause-other g c =
    edge_beside c.args.waiting.now c.join.new.self c.args.id c.args.now c.args.side c.args.newcomer.now c.in-Some.queued.now c.in-Some.ensures.value c.sectors.ensures.is_extent c.requires.touch
    c.joined-after.result c.place_at-3.result c.args.other.now c.relist.new.self c.joined-after.ensures c.join.ensures c.requires.other
    (c.place_at-3.ensures.value ∙ ap (λ (t : Side). at_of t c.in-Some.queued.now.extent) c.opposite_of.ensures) c.relist.ensures.kept c.relist.ensures.own

pub returns-in_err-put-clause-edge : goal.returns-in_err-put-clause-edge
returns-in_err-put-clause-edge g c =
    edge_ahead c.args.waiting.now c.args.waiting.now c.args.id c.args.now c.args.side c.args.newcomer.now c.in-Some.queued.now c.in-Some.ensures.value c.sectors.ensures.is_extent c.requires.touch
    c.joined-after.result c.place_at.result c.args.edge.now c.put.new.self c.joined-after.ensures c.requires.edge c.place_at.ensures.value c.in_err-put.ensures.kept
