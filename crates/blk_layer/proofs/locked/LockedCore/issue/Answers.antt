use Rattle.std.proofs.Common.{◌∙◌, sym}
use Rattle.std.proofs.Math.Logic.{∥∥₁_map}
use Rattle.blk_core.specs.Calls.{Issues}
use Rattle.blk_layer.proofs.Ruled.{asked}
use Rattle.blk_layer.proofs.Rounds.{either_full, issued_full}
use Rattle.blk_layer.proofs.locked.LockedCore.issue.Goals as goal

pub invariant_of-self : goal.invariant_of-self
invariant_of-self g c =
    let locked = c.args.self.now in
    let new = c.issue.new.self in
    let S = g.S.Scheduler in
    let goes = asked S.policy g.L.Named.map g.L.Named.queues g.L.Named.start locked.core c.args.hw c.args.tag new c.requires.one c.issue.result c.issue.ensures.issued c.issue.ensures.same in
    record {
      named = goes.0.setup ∙ locked.named;
      counted = locked.counted ∙ sym goes.0.dones;
      all_out = locked.all_out;
      none = locked.none;
      full = λ off. either_full (λ found. Issues S.policy.serves S.policy.chooses locked.core c.args.hw c.args.tag found new) locked.core new c.issue.result (issued_full S.policy locked.core c.args.hw c.args.tag new) c.issue.ensures.issued c.issue.ensures.same (locked.full off);
      ran = ∥∥₁_map locked.ran goes.1;
    }
