use Rattle.std.proofs.Common.{rules, refl, arith}
use Rattle.blk_trace.specs.declared.event.Event.TheVariants.{Depth}
use Rattle.blk_core.proofs.Pushed.{pushed, unbroken, ready_for}
use Rattle.blk_core.proofs.Ties.{tied_set}
use Rattle.blk_core.proofs.calls.Core.set_depth.Goals as goal

pub add-requires-clause-unbroken : goal.add-requires-clause-unbroken
add-requires-clause-unbroken g c =
    unbroken c.self.inside.trace.setup c.self.inside.trace.events c.prepare.new.trace _ (Depth c.args.depth) c.in-Ok.ensures.ok c.self.invariant.legal
    (search rules, search rules)
    (omega arith)

pub add-requires-clause-prepared : goal.add-requires-clause-prepared
add-requires-clause-prepared g c = ready_for c.self.inside.trace.setup c.self.inside.trace.events c.prepare.new.trace _ (Depth c.args.depth) c.in-Ok.ensures.ok tt

pub invariant_of-self-2 : goal.invariant_of-self-2
invariant_of-self-2 g c =
    tied_set c.self.inside.trace.setup c.add.new.self.setup c.self.inside.trace.events c.add.new.self.events (g.S.Scheduler.meaning c.self.inside.scheduler) c.self.inside.tags.items c.self.inside.requeued c.self.inside.released c.args.depth
    (pushed c.self.inside.trace.setup c.self.inside.trace.events c.prepare.new.trace c.add.new.self (Depth c.args.depth) _ _ c.in-Ok.ensures.ok c.add.ensures.added c.add.ensures.legal)
    c.self.invariant

pub returns-clause-set : goal.returns-clause-set
returns-clause-set g c =
    let p = pushed c.self.inside.trace.setup c.self.inside.trace.events c.prepare.new.trace c.add.new.self (Depth c.args.depth) _ _ c.in-Ok.ensures.ok c.add.ensures.added c.add.ensures.legal in
    rw (← c.self.view_is) ((p.same, p.added), refl, refl, refl, refl)
