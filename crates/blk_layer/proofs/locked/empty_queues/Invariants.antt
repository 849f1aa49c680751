use Rattle.std.proofs.Common.{◌≡◌, vec_len}
use Rattle.blk_layer.proofs.locked.empty_queues.Given as goal

abbrev pub invariant-loop-i : goal.invariant-loop-i
invariant-loop-i g l = vec_len l.queues ≡ l._i
