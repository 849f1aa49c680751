use Rattle.std.proofs.Common.{◌≡◌, replicate}
use Rattle.blk_arrivals.proofs.builder.empty_plugs.Given as goal

abbrev pub invariant-loop : goal.invariant-loop
invariant-loop l = l.held.items ≡ replicate l.counter 0
