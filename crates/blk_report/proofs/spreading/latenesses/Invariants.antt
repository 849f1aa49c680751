use Rattle.std.proofs.Common.{◌≡◌, map, take}
use Rattle.blk_report.specs.Spread.{late_by}
use Rattle.blk_report.proofs.spreading.latenesses.Given as goal

abbrev pub invariant-loop-service : goal.invariant-loop-service
invariant-loop-service g l = l.values.items ≡ map late_by (take l.service-index l.services)
