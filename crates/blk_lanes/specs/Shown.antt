-- Which requests and which times are drawn.
use Rattle.std.specs.Prelude.{ℕ, ◌&&◌, Bool, true, false, cond, nat_le, List, Option, Some, None}
use Rattle.std.specs.List.{filter_map}
use Rattle.blk_lanes.specs.declared.bars.Bar.{Bar}
use Rattle.blk_lanes.specs.declared.bars.Interval.{Interval}
use Rattle.blk_lanes.specs.declared.bars.Span.{Span}
use Rattle.blk_lanes.specs.declared.bars.Mark.{Mark}
use Rattle.blk_lanes.specs.declared.bars.Mark.TheVariants as mark

abbrev pub marks_late : Mark → Bool
marks_late mark.OnTime = false
marks_late m = true

abbrev pub bar_is_late : Bar → Bool
bar_is_late b = marks_late b.mark

-- times from one to another have a part in the interval
abbrev pub shares_time : Interval → ℕ → ℕ → Bool
shares_time p from to = nat_le from p.to && nat_le p.from to

abbrev pub bar_within : Interval → Bar → Option Bar
bar_within p b = cond (shares_time p b.from b.to) (Some b) None

abbrev pub span_within : Interval → Span → Option Span
span_within p s = cond (shares_time p s.from s.to) (Some s) None
