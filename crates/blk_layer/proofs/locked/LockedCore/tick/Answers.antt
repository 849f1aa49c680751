use Rattle.std.proofs.Common.{◌≡◌, ◌∙◌, sym, true, false}
use Rattle.std.proofs.Math.Logic.{∥∥₁_map}
use Rattle.blk_core.specs.Calls.{Ends}
use Rattle.blk_layer.proofs.Moving.{tick_stays, stays_either}
use Rattle.blk_layer.proofs.Ruled.{either, ended}
use Rattle.blk_layer.proofs.Answered.{tick_answer}
use Rattle.blk_layer.proofs.locked.LockedCore.tick.Goals as goal

pub invariant_of-self : goal.invariant_of-self
invariant_of-self g c =
    let locked = c.args.self.now in
    let new = c.tick.new.self in
    let S = g.S.Scheduler in
    let stays = stays_either (λ _. Ends g.S.Scheduler.policy.told_tick locked.core new) locked.core new c.tick.result (λ _. tick_stays g.S.Scheduler.policy.told_tick locked.core new) c.tick.ensures.ended c.tick.ensures.same in
    record {
      named = stays.setup ∙ locked.named;
      counted = locked.counted ∙ sym stays.dones;
      all_out = locked.all_out;
      none = locked.none;
      full = λ off. let clash : true ≡ false = sym c.requires ∙ off in absurd (cc);
      ran = ∥∥₁_map locked.ran (either S.policy g.L.Named.map g.L.Named.queues g.L.Named.start (λ _. Ends S.policy.told_tick locked.core new) locked.core new c.tick.result (λ _. ended S.policy g.L.Named.map g.L.Named.queues g.L.Named.start locked.core new) c.tick.ensures.ended c.tick.ensures.same);
    }

pub returns-clause-answer : goal.returns-clause-answer
returns-clause-answer g c =
    let locked = c.args.self.now in
    tick_answer g.S.Scheduler.policy.told_tick locked.core c.tick.new.self c.tick.result c.tick.ensures.ended c.tick.ensures.round c.tick.ensures.fault
