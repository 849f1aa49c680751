use Rattle.std.proofs.Common.{◌≡◌, take}
use Rattle.blk_schedulers.specs.Scheds.{those_there}
use Rattle.blk_schedulers.proofs.sched.ComparedScheds.in_turn.Given as goal

abbrev pub invariant-loop-sched : goal.invariant-loop-sched
invariant-loop-sched l = l.all.items ≡ those_there (take l.sched-index l.self.scheds)
