use Rattle.std.proofs.Common.{◌+◌, ◌∙◌, ap, arith}
use Rattle.std.specs.Prelude.{min}
use Rattle.blk_picture.proofs.Counting.{rooms_next, rooms_done}
use Rattle.blk_picture.proofs.columns.rooms.Goals as goal

pub loop-column-preserved : goal.loop-column-preserved
loop-column-preserved c = record {
  within = omega (arith, c.min-stop.ensures, c.from-in-loop-column.ensures);
  rooms = rooms_next c.args.capacity.now c.args.scale.per c.args.scale.rounds c.loop-column.start c.args.scale.columns c.loop-column.column _ c.loop-column.rooms.items _ _ _ c.loop-column-test.true (c.min-stop.ensures ∙ ap (λ x. min (c.loop-column.start + x) c.from-in-loop-column.result) c.from.ensures ∙ ap (λ y. min (c.loop-column.start + c.args.scale.per) y) c.from-in-loop-column.ensures) c.sum.ensures.value c.in_ok-push.ensures.items c.loop-column.invariant.rooms;
}

pub returns : goal.returns
returns c = rooms_done c.args.capacity.now c.args.scale.per c.args.scale.rounds c.loop-column.start c.args.scale.columns c.loop-column.column c.loop-column.rooms.items _ c.loop-column-test.false c.loop-column.invariant.rooms
