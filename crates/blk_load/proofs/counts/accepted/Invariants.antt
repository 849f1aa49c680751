use Rattle.std.proofs.Common.{◌≡◌, length, take}
use Rattle.blk_layer.specs.Closing.{all_accepted}
use Rattle.blk_load.proofs.counts.accepted.Given as goal

abbrev pub invariant-loop-submitter : goal.invariant-loop-submitter
invariant-loop-submitter g l = l.count ≡ length (all_accepted (take l.submitter-index l.submitters))
