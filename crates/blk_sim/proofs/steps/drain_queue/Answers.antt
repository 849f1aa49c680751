use Rattle.std.proofs.Common.{arith, ◌∙◌, refl}
use Rattle.std.proofs.lemmas.Result.{err_from_is_err_and}
use Rattle.blk_sim.proofs.Events.{enters_took}
use Rattle.blk_sim.proofs.Chains.{moved_none, moved_more, moved_all, moved_refused, counted_out, queue_drained, none_enters}
use Rattle.blk_sim.proofs.steps.drain_queue.Goals as goal

pub returns-then-len-eq0-clause-entered : goal.returns-then-len-eq0-clause-entered
returns-then-len-eq0-clause-entered g c = none_enters g.S.Scheduler.policy c.args.hw c.args.queue.now.requests c.args.core.now (omega (arith, c.len.ensures.value, c.if-len-eq0.true))

pub loop-request-init : goal.loop-request-init
loop-request-init g c = record { moved = moved_none _ _ _ _; setup = refl; limits = refl; depth = refl; came = refl; counted = refl }

pub loop-request-preserved : goal.loop-request-preserved
loop-request-preserved g c =
    let i = c.loop-request.invariant in
    let e = c.in_ok-release.ensures.entered in
    record {
      moved = moved_more g.S.Scheduler.policy c.args.hw c.args.queue.now.requests c.loop-request.queue.requests c.in-Some.request c.take_first.new.self.requests c.args.core.now c.loop-request.core c.release.new.core c.in-Some.ensures.some i.moved e;
      setup = (enters_took g.S.Scheduler.policy c.args.hw c.in-Some.request c.loop-request.core c.release.new.core e).setup ∙ i.setup;
      limits = c.take_first.ensures.limits ∙ i.limits;
      depth = c.take_first.ensures.depth ∙ i.depth;
      came = c.take_first.ensures.bios_in ∙ i.came;
      counted = counted_out _ _ _ _ _ c.in-Some.request c.in-Some.ensures.some c.in-Some.ensures.counted i.counted;
    }

pub returns-in_err-release-clause-refused : goal.returns-in_err-release-clause-refused
returns-in_err-release-clause-refused g c = let p = err_from_is_err_and c.from_residual.result c.from_residual.ensures.1 in rw (p.1, p.2) (moved_refused _ _ _ _ c.in-Some.request c.take_first.new.self.requests _ _ _ c.in-Some.ensures.some c.loop-request.invariant.moved c.in_err-release.ensures.refused)

pub returns-clause-emptied : goal.returns-clause-emptied
returns-clause-emptied g c =
    let i = c.loop-request.invariant in
    c.in_default.ensures.none.1 ∙ queue_drained c.args.queue.now c.loop-request.queue i.depth i.limits c.in_default.ensures.none.0 i.came i.counted

pub returns-clause-entered : goal.returns-clause-entered
returns-clause-entered g c = moved_all g.S.Scheduler.policy c.args.hw c.args.queue.now.requests c.loop-request.queue.requests c.args.core.now c.loop-request.core c.in_default.ensures.none.0 c.loop-request.invariant.moved
