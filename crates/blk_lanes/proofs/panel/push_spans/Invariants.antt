use Rattle.std.proofs.Common.{map, take}
use Rattle.blk_lanes.specs.Facts.{span_fact}
use Rattle.blk_lanes.specs.Held.{Says}
use Rattle.blk_lanes.proofs.panel.push_spans.Given as goal

-- what is said of those so far
abbrev pub invariant-loop-place : goal.invariant-loop-place
invariant-loop-place l = Says (map (span_fact l.layout.ruler.unit) (take l.place l.spans)) l.fn.draft l.draft
