use Rattle.std.proofs.Common.{rules, refl}
use Rattle.blk_index.proofs.Splits.{queue_is, not_there, entered_split, entered_view}
use Rattle.blk_index.proofs.queues.Queues.insert.Goals as goal

pub insert-requires : goal.insert-requires
insert-requires g c =
    not_there c.self.inside.queues.items c.self.inside.waiting c.args.queued.hw c.args.self.now c.index_mut.result.now c.args.queued.id c.self.view_is c.self.invariant
    (queue_is c.self.inside.queues.items c.self.inside.waiting c.args.queued.hw c.index_mut.result.now c.self.invariant c.requires.hw c.index_mut.ensures.value) c.requires.new

pub invariant_of-self-2 : goal.invariant_of-self-2
invariant_of-self-2 g c =
    entered_split c.self.inside.queues.items c.self.inside.waiting c.args.queued.hw c.args.self.now c.index_mut.result.now c.insert.new.self c.args.queued c.self.view_is c.self.invariant c.requires.hw
    (queue_is c.self.inside.queues.items c.self.inside.waiting c.args.queued.hw c.index_mut.result.now c.self.invariant c.requires.hw c.index_mut.ensures.value) refl c.requires.new c.in_ok-insert.ensures.ok c.in-Some.waiting (search rules)

pub returns-clause-ok : goal.returns-clause-ok
returns-clause-ok g c =
    entered_view c.self.inside.queues.items c.self.inside.waiting c.args.queued.hw c.args.self.now c.index_mut.result.now c.insert.new.self c.args.queued c.self.view_is c.self.invariant c.requires.hw
    (queue_is c.self.inside.queues.items c.self.inside.waiting c.args.queued.hw c.index_mut.result.now c.self.invariant c.requires.hw c.index_mut.ensures.value) refl c.requires.new c.in_ok-insert.ensures.ok
