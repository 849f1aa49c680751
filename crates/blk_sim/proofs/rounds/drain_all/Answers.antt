use Rattle.std.proofs.Common.{arith, ◌≡◌, ◌<◌, ◌∙◌, refl, ap, subst}
use Rattle.std.proofs.lemmas.Result.{err_from_is_err_and}
use Rattle.blk_trace.specs.Setups.{Setup}
use Rattle.blk_sim.specs.Moves.{Drains}
use Rattle.blk_sim.specs.Refusals.{IsDrainRefused}
use Rattle.blk_sim.proofs.Chains.{drain_none, drain_more}
use Rattle.blk_sim.proofs.Events.{chain_took}
use Rattle.blk_sim.proofs.Keeping.{kept_drained}
use Rattle.blk_sim.proofs.rounds.drain_all.Goals as goal

pub loop-hw-init : goal.loop-hw-init
loop-hw-init g c = record { drained = drain_none _ _ _ _; setup = refl; as_many = refl; limits = c.requires.limits }

pub loop-hw-preserved : goal.loop-hw-preserved
loop-hw-preserved g c =
    let i = c.loop-hw.invariant in
    let d : Drains g.S.Scheduler.policy c.args.core.now.setup.hw c.loop-hw.hw c.loop-hw.queues.items c.loop-hw.core c.drain.new.queues.items c.drain.new.core =
    subst (λ (s : Setup). Drains g.S.Scheduler.policy s.hw c.loop-hw.hw c.loop-hw.queues.items c.loop-hw.core c.drain.new.queues.items c.drain.new.core) i.setup c.in_ok-drain.ensures.drained in
    let kept = kept_drained c.args.core.now.setup.hw c.loop-hw.hw c.loop-hw.queues.items c.drain.new.queues.items d.emptied in
    record {
      drained = drain_more g.S.Scheduler.policy c.args.core.now.setup.hw c.loop-hw.hw c.args.queues.now.items c.loop-hw.queues.items c.drain.new.queues.items c.args.core.now c.loop-hw.core c.drain.new.core i.drained d;
      setup = (chain_took g.S.Scheduler.policy c.loop-hw.hw _ c.loop-hw.core c.drain.new.core d.entered).setup ∙ i.setup;
      as_many = d.emptied.as_many ∙ i.as_many;
      limits = λ s q at. let x = kept.each s q at in x.2 ∙ i.limits s x.0 x.1;
    }

pub returns-in_err-drain-clause-refused : goal.returns-in_err-drain-clause-refused
returns-in_err-drain-clause-refused g c = let p = err_from_is_err_and c.from_residual.result c.from_residual.ensures.1 in rw (p.1, p.2) (
    let i = c.loop-hw.invariant in
    let hw : c.hw-count.result ≡ c.args.core.now.setup.hw = c.hw-count.ensures.value ∙ ap (λ (s : Setup). s.hw) (c.setup.ensures ∙ c.trace.ensures.setup) in
    let below : c.loop-hw.hw < c.args.core.now.setup.hw = omega arith in
    record {
      hw = c.loop-hw.hw;
      below = below;
      between = c.loop-hw.queues.items;
      middle = c.loop-hw.core;
      drained = i.drained;
      refused = subst (λ (s : Setup). IsDrainRefused g.S.Scheduler.policy s.hw c.loop-hw.hw c.loop-hw.queues.items c.loop-hw.core c.in_err-drain.field-0.0) i.setup c.in_err-drain.ensures.refused;
    })
