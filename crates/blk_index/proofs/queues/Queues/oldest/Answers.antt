use Rattle.std.proofs.lemmas.Option.{IfSome_then}
use Rattle.blk_index.proofs.Served.{none_then}
use Rattle.blk_index.proofs.Splits.{queue_is, oldest_here, none_here}
use Rattle.blk_index.proofs.queues.Queues.oldest.Goals as goal

pub returns-clause-some : goal.returns-clause-some
returns-clause-some g c = IfSome_then c.oldest.result c.oldest.ensures.some (λ id best.
    oldest_here c.self.inside.queues.items c.self.inside.waiting c.args.hw c.args.self.now c.index.result.now c.self.view_is c.self.invariant
    (queue_is c.self.inside.queues.items c.self.inside.waiting c.args.hw c.index.result.now c.self.invariant c.requires c.index.ensures) c.args.dir id best)

pub returns-clause-none : goal.returns-clause-none
returns-clause-none g c = none_then c.oldest.result _ _ c.oldest.ensures.none (
    none_here c.self.inside.queues.items c.self.inside.waiting c.args.hw c.args.self.now c.index.result.now c.self.view_is c.self.invariant
    (queue_is c.self.inside.queues.items c.self.inside.waiting c.args.hw c.index.result.now c.self.invariant c.requires c.index.ensures) c.args.dir)
