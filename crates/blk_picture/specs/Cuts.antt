-- What is not drawn.
use Rattle.std.specs.Prelude.{◌/◌, ◌&&◌, Bool, not, max}
use Rattle.blk_report.specs.declared.serving.Service.{Service}
use Rattle.blk_picture.specs.declared.scale.Scale.{Scale}
use Rattle.blk_picture.specs.Columns.{is_late}
use Rattle.blk_picture.specs.Scales.{shows}

-- it was late, and the column of its round is not drawn
abbrev pub is_cut : Scale → Service → Bool
is_cut scale b = (not b.back && is_late b) && not (shows scale (b.issue / max scale.per 1))
