use Rattle.std.proofs.Common.{◌≡◌, map, take}
use Rattle.blk_report.specs.Spread.{wait_of}
use Rattle.blk_report.proofs.spreading.waits.Given as goal

abbrev pub invariant-loop-service : goal.invariant-loop-service
invariant-loop-service g l = l.values.items ≡ map wait_of (take l.service-index l.services)
