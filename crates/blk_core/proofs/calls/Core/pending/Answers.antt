use Rattle.std.proofs.Common.{refl, arith}
use Rattle.std.specs.FinMap as map
use Rattle.blk_core.proofs.Ties.{pending_is}
use Rattle.blk_core.proofs.calls.Core.pending.Goals as goal

pub overflow_add-requeued : goal.overflow_add-requeued
overflow_add-requeued g c =
    let is = pending_is c.self.inside.trace.setup c.self.inside.trace.events (g.S.Scheduler.meaning c.self.inside.scheduler) c.self.inside.tags.items c.self.inside.requeued c.self.inside.released (map.len (g.S.Scheduler.meaning c.self.inside.scheduler).pending) c.requeued.result c.requeued-2.result c.self.invariant refl c.requeued.ensures c.requeued-2.ensures in
    omega (arith, is.0, is.1, c.self.invariant.legal.not_too_long)

pub overflow_add-result : goal.overflow_add-result
overflow_add-result g c =
    let is = pending_is c.self.inside.trace.setup c.self.inside.trace.events (g.S.Scheduler.meaning c.self.inside.scheduler) c.self.inside.tags.items c.self.inside.requeued c.self.inside.released c.pending.result c.requeued.result c.requeued-2.result c.self.invariant c.pending.ensures c.requeued.ensures c.requeued-2.ensures in
    omega (arith, is.0, is.1, c.self.invariant.legal.not_too_long)

pub returns : goal.returns
returns g c =
    rw (← c.self.view_is) (pending_is c.self.inside.trace.setup c.self.inside.trace.events (g.S.Scheduler.meaning c.self.inside.scheduler) c.self.inside.tags.items c.self.inside.requeued c.self.inside.released c.pending.result c.requeued.result c.requeued-2.result c.self.invariant c.pending.ensures c.requeued.ensures c.requeued-2.ensures).0
