use Rattle.std.proofs.lemmas.Option.{IfSome_then}
use Rattle.blk_index.proofs.Served.{none_then}
use Rattle.blk_index.proofs.Splits.{queue_is, newest_here, none_fits_here}
use Rattle.blk_index.proofs.queues.Queues.candidate.Goals as goal

pub returns-clause-some : goal.returns-clause-some
returns-clause-some g c = IfSome_then c.candidate.result c.candidate.ensures.some (λ r best.
    newest_here c.self.inside.queues.items c.self.inside.waiting c.args.hw c.args.self.now c.index.result.now c.self.view_is c.self.invariant
    (queue_is c.self.inside.queues.items c.self.inside.waiting c.args.hw c.index.result.now c.self.invariant c.requires c.index.ensures) c.args.limits.now c.args.newcomer.now r.0 r.1 best)

pub returns-clause-none : goal.returns-clause-none
returns-clause-none g c = none_then c.candidate.result _ _ c.candidate.ensures.none (
    none_fits_here c.self.inside.queues.items c.self.inside.waiting c.args.hw c.args.self.now c.index.result.now c.self.view_is c.self.invariant
    (queue_is c.self.inside.queues.items c.self.inside.waiting c.args.hw c.index.result.now c.self.invariant c.requires c.index.ensures) c.args.limits.now c.args.newcomer.now)
