use Rattle.std.proofs.Common.{◌≡◌, take}
use Rattle.blk_layer.specs.Closing.{all_ran}
use Rattle.blk_layer.specs.Inside.Closing.{all_left}
use Rattle.blk_layer.proofs.closing.commands_by_seat.Given as goal

abbrev pub invariant-loop-worker : goal.invariant-loop-worker
invariant-loop-worker g l = all_left l.accounts.items ≡ all_ran (take l.worker-index l.workers)
