use Rattle.std.proofs.Common.{◌≡◌, ◌+◌, length}
use Rattle.blk_queues.specs.Plugs.{bios_plugged}
use Rattle.blk_layer.specs.Submitting.{FlushesInto}
use Rattle.blk_layer.proofs.layer.Layer.flush_into.Given as goal

abbrev pub decreases-loop-queue : goal.decreases-loop-queue
decreases-loop-queue g l = length l.plug.requests

abbrev pub invariant-loop-queue : goal.invariant-loop-queue
invariant-loop-queue g l = record {
  moved : FlushesInto l.initial.queue l.initial.submitter l.initial.plug l.queue l.submitter l.plug;
  counted : l.queue.bios_in + length (bios_plugged l.plug) ≡ l.initial.queue.bios_in + length (bios_plugged l.initial.plug);
  limits : l.queue.limits ≡ l.initial.queue.limits;
}
