use Rattle.std.proofs.Common.{◌++◌, take}
use Rattle.blk_trace.specs.Events.{entered, AreOnce}
use Rattle.blk_trace.proofs.trace.Trace.first_repeated.Given as goal

abbrev pub invariant-loop-place : goal.invariant-loop-place
invariant-loop-place g l = AreOnce (entered l.self.events ++ take l.place l.bios)
