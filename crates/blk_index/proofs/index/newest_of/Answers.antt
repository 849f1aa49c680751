use Rattle.std.proofs.Common.{ap, ◌∙◌}
use Rattle.std.specs.FinMap as map
use Rattle.blk_bio.specs.declared.request.Side.{Side}
use Rattle.blk_index.specs.Inside.Spots.{at_of}
use Rattle.blk_index.proofs.Walk.{newest_fit, none_fit, passed_more}
use Rattle.blk_index.proofs.index.newest_of.Goals as goal

pub returns-then-fits_by-clause-some : goal.returns-then-fits_by-clause-some
returns-then-fits_by-clause-some g c =
    let room = c.room_beside-room.ensures in
    newest_fit c.args.limits.now c.args.newcomer.now c.args.side c.room_beside-room.result.0 c.room_beside-room.result.1 room.wide room.wide_bios
    (map.get c.args.waiting.now) c.args.edge.now c.place_at-place.result c.requires (c.place_at-place.ensures.value ∙ ap (λ (t : Side). at_of t c.args.newcomer.now) c.opposite_of.ensures)
    c.loop-id.below c.loop-id.invariant c.in-Some.id c.in-Some.ensures.newest c.if-fits_by.ensures.yes

pub loop-id-preserved : goal.loop-id-preserved
loop-id-preserved g c =
    let room = c.room_beside-room.ensures in
    passed_more c.args.limits.now c.args.newcomer.now c.args.side c.room_beside-room.result.0 c.room_beside-room.result.1 room.wide room.wide_bios
    (map.get c.args.waiting.now) c.args.edge.now c.place_at-place.result c.requires (c.place_at-place.ensures.value ∙ ap (λ (t : Side). at_of t c.args.newcomer.now) c.opposite_of.ensures)
    c.loop-id.below c.loop-id.invariant c.in-Some.id c.in-Some.ensures.newest c.if-fits_by.ensures.no

pub returns-clause-none : goal.returns-clause-none
returns-clause-none g c =
    let room = c.room_beside-room.ensures in
    none_fit c.args.limits.now c.args.newcomer.now c.args.side c.room_beside-room.result.0 c.room_beside-room.result.1 room.wide room.wide_bios
    (map.get c.args.waiting.now) c.args.edge.now c.place_at-place.result c.requires (c.place_at-place.ensures.value ∙ ap (λ (t : Side). at_of t c.args.newcomer.now) c.opposite_of.ensures)
    c.loop-id.below c.loop-id.invariant c.in_default.ensures.newest
