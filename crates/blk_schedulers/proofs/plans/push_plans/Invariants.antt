use Rattle.std.proofs.Common.{◌≡◌, ◌++◌, map, take}
use Rattle.blk_schedulers.specs.Plans.{plan_of}
use Rattle.blk_schedulers.proofs.plans.push_plans.Given as goal

abbrev pub invariant-loop-fifo : goal.invariant-loop-fifo
invariant-loop-fifo l = l.all.items ≡ l.fn.all.items ++ map (λ f. plan_of f l.sched) (take l.fifo-index l.fifos)
