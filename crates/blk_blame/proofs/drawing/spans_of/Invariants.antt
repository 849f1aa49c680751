use Rattle.std.proofs.Common.{◌≡◌, ◌++◌, map, take}
use Rattle.blk_blame.specs.Drawing.{stall_span, crowd_span}
use Rattle.blk_blame.proofs.drawing.spans_of.Given as goal

-- those so far
abbrev pub invariant-loop-stall : goal.invariant-loop-stall
invariant-loop-stall l = l.spans.items ≡ map (stall_span l.begin l.requests) (take l.stall-index l.stalls)

abbrev pub invariant-loop-crowd : goal.invariant-loop-crowd
invariant-loop-crowd l = l.spans.items ≡ map (stall_span l.begin l.requests) l.stalls ++ map (crowd_span l.begin l.requests) (take l.crowd-index l.windows)
