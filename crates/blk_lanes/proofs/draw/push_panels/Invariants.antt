use Rattle.std.proofs.Common.{take}
use Rattle.blk_lanes.specs.Held.{Says, drawn_facts}
use Rattle.blk_lanes.proofs.draw.push_panels.Given as goal

-- what is said in those so far
abbrev pub invariant-loop-number : goal.invariant-loop-number
invariant-loop-number l = Says (drawn_facts l.unit l.bars l.spans (take l.number l.intervals)) l.fn.draft l.draft
