use Rattle.std.proofs.Common.{◌∙◌, sym, ap}
use Rattle.std.proofs.Math.Logic.{∥∥₁_map}
use Rattle.blk_core.specs.Calls.{SetsDepth}
use Rattle.blk_trace.specs.Setups.{Setup}
use Rattle.blk_layer.proofs.Moving.{depth_stays, stays_either}
use Rattle.blk_layer.proofs.Ruled.{either, set}
use Rattle.blk_layer.proofs.Rounds.{either_full, depth_full}
use Rattle.blk_layer.proofs.Answered.{depth_answer}
use Rattle.blk_layer.proofs.locked.LockedCore.set_depth.Goals as goal

pub invariant_of-self : goal.invariant_of-self
invariant_of-self g c =
    let locked = c.args.self.now in
    let new = c.set_depth.new.self in
    let S = g.S.Scheduler in
    let stays = stays_either (λ _. SetsDepth locked.core c.args.depth new) locked.core new c.set_depth.result (λ _. depth_stays locked.core c.args.depth new) c.set_depth.ensures.set c.set_depth.ensures.same in
    record {
      named = stays.setup ∙ locked.named;
      counted = locked.counted ∙ sym stays.dones;
      all_out = locked.all_out;
      none = locked.none;
      full = λ off. either_full (λ _. SetsDepth locked.core c.args.depth new) locked.core new c.set_depth.result (λ _. depth_full locked.core c.args.depth new) c.set_depth.ensures.set c.set_depth.ensures.same (locked.full off);
      ran = ∥∥₁_map locked.ran (either S.policy g.L.Named.map g.L.Named.queues g.L.Named.start (λ _. SetsDepth locked.core c.args.depth new) locked.core new c.set_depth.result (λ _. set S.policy g.L.Named.map g.L.Named.queues g.L.Named.start locked.core c.args.depth new) c.set_depth.ensures.set c.set_depth.ensures.same);
    }

pub returns-clause-answer : goal.returns-clause-answer
returns-clause-answer g c =
    let locked = c.args.self.now in
    depth_answer locked.core g.L.Named.setup.depth c.args.depth c.set_depth.result (ap (λ (s : Setup). s.depth) locked.named) c.set_depth.ensures.no_fault c.set_depth.ensures.fault
