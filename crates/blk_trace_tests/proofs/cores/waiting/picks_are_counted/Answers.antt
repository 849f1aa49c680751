use Rattle.std.proofs.Common.{ap, ◌∙◌}
use Rattle.std.specs.FinMap as map
use Rattle.std.specs.Ordering.{nat_cmp}
use Rattle.blk_sched.specs.Meaning.{Meaning}
use Rattle.blk_trace_tests.proofs.cores.waiting.picks_are_counted.Goals as goal

pub insert-requires-clause-new : goal.insert-requires-clause-new
insert-requires-clause-new g c = ap (λ (m : Meaning). map.get m.pending c.queued.result.id) c.in-Ok.ensures ∙ map.get-empty nat_cmp c.queued.result.id
