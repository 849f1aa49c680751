use Rattle.std.proofs.Common.{◌∙◌, ◌-◌, ap, sym, refl}
use Rattle.blk_index.specs.Inside.Queues.{all_pending}
use Rattle.blk_index.proofs.Splits.{queue_is, nothing_taken, still_split, taken_view, taken_split, one_waits}
use Rattle.blk_index.proofs.queues.Queues.remove.Goals as goal

pub invariant_of-self : goal.invariant_of-self
invariant_of-self g c =
    still_split c.self.inside.queues.items c.self.inside.waiting c.args.hw c.index_mut.result.now c.remove.new.self c.args.id c.self.invariant
    (queue_is c.self.inside.queues.items c.self.inside.waiting c.args.hw c.index_mut.result.now c.self.invariant c.requires c.index_mut.ensures.value) (sym c.in_default.ensures.value) c.in_default.ensures.removed

pub returns-in_default-clause-same : goal.returns-in_default-clause-same
returns-in_default-clause-same g c =
    ap all_pending (nothing_taken c.self.inside.queues.items c.self.inside.waiting c.args.hw c.index_mut.result.now c.remove.new.self c.args.id c.self.invariant
    (queue_is c.self.inside.queues.items c.self.inside.waiting c.args.hw c.index_mut.result.now c.self.invariant c.requires c.index_mut.ensures.value) (sym c.in_default.ensures.value) c.in_default.ensures.removed)
    ∙ c.self.view_is

pub overflow_sub-self : goal.overflow_sub-self
overflow_sub-self g c =
    one_waits c.self.inside.queues.items c.self.inside.waiting c.args.hw c.args.self.now c.index_mut.result.now c.remove.new.self c.args.id c.in-Some.queued c.self.view_is c.self.invariant c.requires
    (queue_is c.self.inside.queues.items c.self.inside.waiting c.args.hw c.index_mut.result.now c.self.invariant c.requires c.index_mut.ensures.value) (sym c.in-Some.ensures.value) c.in-Some.ensures.removed

pub invariant_of-self-2 : goal.invariant_of-self-2
invariant_of-self-2 g c =
    taken_split c.self.inside.queues.items c.self.inside.waiting c.args.hw c.args.self.now c.index_mut.result.now c.remove.new.self c.args.id c.in-Some.queued c.self.view_is c.self.invariant c.requires
    (queue_is c.self.inside.queues.items c.self.inside.waiting c.args.hw c.index_mut.result.now c.self.invariant c.requires c.index_mut.ensures.value) (sym c.in-Some.ensures.value) c.in-Some.ensures.removed (c.self.inside.waiting - 1) refl

pub returns-clause-removed : goal.returns-clause-removed
returns-clause-removed g c =
    taken_view c.self.inside.queues.items c.self.inside.waiting c.args.hw c.args.self.now c.index_mut.result.now c.remove.new.self c.args.id c.in-Some.queued c.self.view_is c.self.invariant c.requires
    (queue_is c.self.inside.queues.items c.self.inside.waiting c.args.hw c.index_mut.result.now c.self.invariant c.requires c.index_mut.ensures.value) (sym c.in-Some.ensures.value) c.in-Some.ensures.removed
