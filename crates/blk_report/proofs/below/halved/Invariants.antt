use Rattle.std.proofs.Common.{◌≡◌, ◌++◌, ◌-◌, map, take, nat_lt, nat_le}
use Rattle.std.specs.List.{filter}
use Rattle.blk_report.proofs.below.halved.Given as goal

-- the others so far, behind those below the pivot
abbrev pub invariant-loop-number : goal.invariant-loop-number
invariant-loop-number g l = l.halves.items ≡ filter (λ x. nat_lt x l.pivot) l.numbers ++ map (λ x. x - l.pivot) (filter (λ x. nat_le l.pivot x) (take l.number-index l.numbers))
