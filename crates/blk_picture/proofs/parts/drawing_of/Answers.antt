use Rattle.std.proofs.Common.{◌∙◌, ap}
use Rattle.blk_picture.specs.Columns.{drawn_columns}
use Rattle.blk_picture.specs.Pictures.{crowded_room}
use Rattle.blk_picture.proofs.parts.drawing_of.Goals as goal

pub returns : goal.returns
returns c = record {
  is_report = c.in_ok-report.ensures;
  is_tallied = c.in_ok-missed.ensures.tallied;
  room_is = c.crowded_room-room.ensures ∙ ap (λ s. crowded_room s c.in_ok-report.report.figures) c.in_ok-capacity.ensures.steps;
  boxes_are = c.in_ok-boxes.ensures.boxes;
  columns_are = c.in_ok-drawn.ensures ∙ ap (drawn_columns c.args.scale.now) (c.as_slice-2.ensures.value ∙ c.in_ok-columns.ensures);
}
