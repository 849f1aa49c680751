use Rattle.std.proofs.Common.{◌≡◌, take}
use Rattle.blk_schedulers.specs.Plans.{plans_tried}
use Rattle.blk_schedulers.proofs.plans.plans_tried.Given as goal

abbrev pub invariant-loop-sched : goal.invariant-loop-sched
invariant-loop-sched l = l.all.items ≡ plans_tried (take l.sched-index l.scheds) l.reads l.writes
