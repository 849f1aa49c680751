use Rattle.std.proofs.Common.{take}
use Rattle.blk_text.specs.Script.{scripted}
use Rattle.blk_cli.specs.Comparing.{AreTraces}
use Rattle.blk_cli.proofs.picturing.traces_of.Given as goal

abbrev pub invariant-loop-i : goal.invariant-loop-i
invariant-loop-i l = record { traces : AreTraces (take l.i l.scheds) (scripted l.script) l.all.items }
