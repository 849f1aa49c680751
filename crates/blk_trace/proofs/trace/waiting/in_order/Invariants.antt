use Rattle.std.proofs.Common.{◌≡◌, ◌++◌}
use Rattle.std.specs.List.{flat_map}
use Rattle.std.specs.BTreeMap.{values}
use Rattle.blk_trace.proofs.trace.waiting.in_order.Given as goal

-- the bios so far and those of the requests that are left are all of them
abbrev pub invariant-loop-request : goal.invariant-loop-request
invariant-loop-request g l = l.bios.items ++ flat_map (λ bios. bios) l.request-iterator ≡ flat_map (λ bios. bios) (values l.requests)
