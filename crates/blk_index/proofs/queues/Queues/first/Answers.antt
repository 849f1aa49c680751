use Rattle.std.proofs.lemmas.Option.{IfSome_then}
use Rattle.blk_index.proofs.Served.{none_then}
use Rattle.blk_index.proofs.Splits.{queue_is, first_here, nothing_here}
use Rattle.blk_index.proofs.queues.Queues.first.Goals as goal

pub returns-clause-some : goal.returns-clause-some
returns-clause-some g c = IfSome_then c.first.result c.first.ensures.some (λ id best.
    first_here c.self.inside.queues.items c.self.inside.waiting c.args.hw c.args.self.now c.index.result.now c.self.view_is c.self.invariant
    (queue_is c.self.inside.queues.items c.self.inside.waiting c.args.hw c.index.result.now c.self.invariant c.requires c.index.ensures) id best)

pub returns-clause-none : goal.returns-clause-none
returns-clause-none g c = none_then c.first.result _ _ c.first.ensures.none (
    nothing_here c.self.inside.queues.items c.self.inside.waiting c.args.hw c.args.self.now c.index.result.now c.self.view_is c.self.invariant
    (queue_is c.self.inside.queues.items c.self.inside.waiting c.args.hw c.index.result.now c.self.invariant c.requires c.index.ensures))
