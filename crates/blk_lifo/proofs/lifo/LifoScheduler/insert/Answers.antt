use Rattle.std.proofs.Common.{subst, sym, ap, ◌∙◌}
use Rattle.blk_lifo.specs.Inside.Stacks.{HaveDistinctIds}
use Rattle.blk_lifo.proofs.Lists.{distinct_pushed}
use Rattle.blk_lifo.proofs.Stack.{new_id, entered, view}
use Rattle.blk_lifo.proofs.lifo.LifoScheduler.insert.Goals as goal

pub invariant_of-self : goal.invariant_of-self
invariant_of-self g c = subst HaveDistinctIds (sym c.in_err-push.ensures.items) c.self.invariant

pub invariant_of-self-2 : goal.invariant_of-self-2
invariant_of-self-2 g c =
    subst HaveDistinctIds (sym c.in_ok-push.ensures.items)
    (distinct_pushed c.self.inside.requests.items c.args.queued c.self.invariant (new_id c.self.inside.requests.items c.self.inside.open_picks c.args.self.now c.args.queued c.self.view_is c.requires.new))

pub returns-clause-ok : goal.returns-clause-ok
returns-clause-ok g c =
    ap (λ l. view l c.self.inside.open_picks) c.in_ok-push.ensures.items
    ∙ entered c.self.inside.requests.items c.self.inside.open_picks c.args.self.now c.args.queued c.self.view_is c.requires.new
