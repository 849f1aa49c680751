use Rattle.std.proofs.Common.{◌≡◌, take}
use Rattle.blk_layer.specs.Closing.{all_accepted}
use Rattle.blk_layer.proofs.closing.accepted.Given as goal

abbrev pub invariant-loop-submitter : goal.invariant-loop-submitter
invariant-loop-submitter g l = l.bios.items ≡ all_accepted (take l.submitter-index l.submitters)
