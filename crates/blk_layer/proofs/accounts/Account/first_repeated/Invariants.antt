use Rattle.std.proofs.Common.{◌++◌}
use Rattle.std.proofs.Math.ListN.{take}
use Rattle.blk_trace.specs.Events.{AreOnce}
use Rattle.blk_layer.proofs.accounts.Account.first_repeated.Given as goal

abbrev pub invariant-loop-place : goal.invariant-loop-place
invariant-loop-place g l = AreOnce (l.self ++ take l.place l.bios)
