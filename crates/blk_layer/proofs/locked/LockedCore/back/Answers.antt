use Rattle.std.proofs.Common.{◌∙◌, sym}
use Rattle.std.proofs.Math.Logic.{∥∥₁_map}
use Rattle.blk_core.specs.Calls.{RequeuesTag}
use Rattle.blk_layer.proofs.Moving.{back_stays, stays_either}
use Rattle.blk_layer.proofs.Ruled.{either, taken_back}
use Rattle.blk_layer.proofs.Rounds.{either_full, back_full}
use Rattle.blk_layer.proofs.locked.LockedCore.back.Goals as goal

pub invariant_of-self : goal.invariant_of-self
invariant_of-self g c =
    let locked = c.args.self.now in
    let new = c.back.new.self in
    let S = g.S.Scheduler in
    let stays = stays_either (λ id. RequeuesTag locked.core c.args.tag id new) locked.core new c.back.result (back_stays locked.core c.args.tag new) c.back.ensures.back c.back.ensures.same in
    record {
      named = stays.setup ∙ locked.named;
      counted = locked.counted ∙ sym stays.dones;
      all_out = locked.all_out;
      none = locked.none;
      full = λ off. either_full (λ id. RequeuesTag locked.core c.args.tag id new) locked.core new c.back.result (back_full locked.core c.args.tag new) c.back.ensures.back c.back.ensures.same (locked.full off);
      ran = ∥∥₁_map locked.ran (either S.policy g.L.Named.map g.L.Named.queues g.L.Named.start (λ id. RequeuesTag locked.core c.args.tag id new) locked.core new c.back.result (taken_back S.policy g.L.Named.map g.L.Named.queues g.L.Named.start locked.core c.args.tag new) c.back.ensures.back c.back.ensures.same);
    }
