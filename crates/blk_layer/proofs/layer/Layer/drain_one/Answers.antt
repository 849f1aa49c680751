use Rattle.std.proofs.Common.{◌∙◌, ap, sym, subst, List, ℕ}
use Rattle.std.proofs.Math.Logic.{∥∥₁_map}
use Rattle.blk_layer.specs.Submitting.{IsMoveAllAnswer}
use Rattle.blk_layer.proofs.Moved.{all_stay, all_limits}
use Rattle.blk_queues.specs.Maps.{IsHwCount}
use Rattle.blk_trace.specs.Setups.{Setup}
use Rattle.blk_layer.proofs.Mapped.{all_mapped, all_there}
use Rattle.blk_layer.proofs.Ruled.{all_moved}
use Rattle.blk_layer.proofs.Rounds.{all_moved_full}
use Rattle.blk_layer.proofs.layer.Layer.drain_one.Goals as goal

pub invariant_of-staged : goal.invariant_of-staged
invariant_of-staged g c =
    let staged = c.deref_mut-staged.result.now in
    let core = c.deref_mut-locked.result.now.core in
    let serves = g.S.Scheduler.policy.serves in
    let answer : IsMoveAllAnswer serves staged.queue core g.L.Named.map c.move_all.new.queue c.move_all.new.core c.move_all.result =
    subst (λ (map : List ℕ). IsMoveAllAnswer serves staged.queue core map c.move_all.new.queue c.move_all.new.core c.move_all.result) c.self.invariant.4 c.move_all.ensures in
    record {
      limits = all_limits serves staged.queue core g.L.Named.map c.move_all.new.queue c.move_all.new.core c.move_all.result answer ∙ staged.limits;
      mapped = all_mapped serves g.L.Named.map staged.queue core c.move_all.new.queue c.move_all.new.core c.move_all.result answer staged.mapped;
    }

pub invariant_of-locked : goal.invariant_of-locked
invariant_of-locked g c =
    let staged = c.deref_mut-staged.result.now in
    let queue = staged.queue in
    let locked = c.deref_mut-locked.result.now in
    let S = g.S.Scheduler in
    let answer : IsMoveAllAnswer S.policy.serves queue locked.core g.L.Named.map c.move_all.new.queue c.move_all.new.core c.move_all.result =
    subst (λ (map : List ℕ). IsMoveAllAnswer S.policy.serves queue locked.core map c.move_all.new.queue c.move_all.new.core c.move_all.result) c.self.invariant.4 c.move_all.ensures in
    let stays = all_stay S.policy.serves queue locked.core g.L.Named.map c.move_all.new.queue c.move_all.new.core c.move_all.result answer in
    record {
      named = stays.setup ∙ locked.named;
      counted = locked.counted ∙ sym stays.dones;
      all_out = locked.all_out;
      none = locked.none;
      full = λ off. all_moved_full S.policy queue locked.core g.L.Named.map c.move_all.new.queue c.move_all.new.core c.move_all.result answer (locked.full off);
      ran = ∥∥₁_map locked.ran (all_moved S.policy g.L.Named.map g.L.Named.queues g.L.Named.start queue locked.core c.move_all.new.queue c.move_all.new.core c.move_all.result staged.mapped answer);
    }

pub returns-clause-there : goal.returns-clause-there
returns-clause-there g c =
    let staged = c.deref_mut-staged.result.now in
    let locked = c.deref_mut-locked.result.now in
    let serves = g.S.Scheduler.policy.serves in
    let answer : IsMoveAllAnswer serves staged.queue locked.core g.L.Named.map c.move_all.new.queue c.move_all.new.core c.move_all.result =
    subst (λ (map : List ℕ). IsMoveAllAnswer serves staged.queue locked.core map c.move_all.new.queue c.move_all.new.core c.move_all.result) c.self.invariant.4 c.move_all.ensures in
    let stays = all_stay serves staged.queue locked.core g.L.Named.map c.move_all.new.queue c.move_all.new.core c.move_all.result answer in
    all_there serves g.L.Named.map g.L.Named.setup.hw staged.queue locked.core c.move_all.new.queue c.move_all.new.core c.move_all.result answer staged.mapped
    (subst (λ (map : List ℕ). IsHwCount map g.L.Named.setup.hw) c.self.invariant.4 c.self.invariant.1)
    (ap (λ (s : Setup). s.hw) (stays.setup ∙ locked.named))
