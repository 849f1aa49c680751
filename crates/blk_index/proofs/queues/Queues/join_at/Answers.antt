use Rattle.blk_index.proofs.Splits.{queue_is, touch_here, joined_view, joined_split}
use Rattle.blk_index.proofs.queues.Queues.join_at.Goals as goal

pub join_at-requires : goal.join_at-requires
join_at-requires g c =
    touch_here c.self.inside.queues.items c.self.inside.waiting c.args.hw c.args.self.now c.index_mut.result.now c.args.newcomer.now c.args.id c.args.side c.self.view_is c.self.invariant
    (queue_is c.self.inside.queues.items c.self.inside.waiting c.args.hw c.index_mut.result.now c.self.invariant c.requires.hw c.index_mut.ensures.value) c.requires.touch

pub invariant_of-self-2 : goal.invariant_of-self-2
invariant_of-self-2 g c =
    joined_split c.self.inside.queues.items c.self.inside.waiting c.args.hw c.args.now c.args.self.now c.index_mut.result.now c.join_at.new.self c.args.id c.args.newcomer.now c.args.side c.self.view_is c.self.invariant c.requires.hw
    (queue_is c.self.inside.queues.items c.self.inside.waiting c.args.hw c.index_mut.result.now c.self.invariant c.requires.hw c.index_mut.ensures.value) c.in_ok-join_at.ensures.joined

pub returns-clause-joined : goal.returns-clause-joined
returns-clause-joined g c =
    joined_view c.self.inside.queues.items c.self.inside.waiting c.args.hw c.args.now c.args.self.now c.index_mut.result.now c.join_at.new.self c.args.id c.args.newcomer.now c.args.side c.self.view_is c.self.invariant c.requires.hw
    (queue_is c.self.inside.queues.items c.self.inside.waiting c.args.hw c.index_mut.result.now c.self.invariant c.requires.hw c.index_mut.ensures.value) c.in_ok-join_at.ensures.joined
