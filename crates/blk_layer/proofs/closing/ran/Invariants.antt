use Rattle.std.proofs.Common.{◌≡◌, take}
use Rattle.blk_layer.specs.Closing.{all_ran}
use Rattle.blk_layer.proofs.closing.ran.Given as goal

abbrev pub invariant-loop-worker : goal.invariant-loop-worker
invariant-loop-worker g l = l.commands.items ≡ all_ran (take l.worker-index l.workers)
