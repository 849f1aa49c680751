use Rattle.std.proofs.Common.{◌∙◌, ◌+◌, sym, ap}
use Rattle.std.proofs.Math.Logic.{∥∥₁_map}
use Rattle.blk_layer.proofs.Moving.{done_more}
use Rattle.blk_layer.proofs.Ruled.{completed}
use Rattle.blk_layer.proofs.Rounds.{completed_full}
use Rattle.blk_layer.proofs.locked.LockedCore.done.Goals as goal

pub invariant_of-self-2 : goal.invariant_of-self-2
invariant_of-self-2 g c =
    let locked = c.args.self.now in
    let S = g.S.Scheduler in
    let done = c.in_ok-done.ensures.done in
    record {
      named = done.3.0 ∙ locked.named;
      counted = c.add.ensures.total ∙ ap (λ n. n + 1) locked.counted ∙ sym (done_more S.policy.told_done locked.core c.args.tag c.done.new.self done);
      all_out = locked.all_out;
      none = locked.none;
      full = λ off. completed_full S.policy locked.core c.args.tag c.done.new.self done (locked.full off);
      ran = ∥∥₁_map locked.ran (completed S.policy g.L.Named.map g.L.Named.queues g.L.Named.start locked.core c.args.tag c.done.new.self done);
    }
