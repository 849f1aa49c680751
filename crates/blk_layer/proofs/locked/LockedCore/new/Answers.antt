use Rattle.std.proofs.Common.{◌≡◌, ◌∙◌, sym, ap, refl, []}
use Rattle.blk_layer.specs.Closing.{done_count}
use Rattle.blk_layer.proofs.Ruled.{no_calls}
use Rattle.blk_layer.proofs.Rounds.{none_ended}
use Rattle.blk_layer.proofs.locked.LockedCore.new.Goals as goal

none_done : done_count [] ≡ 0
unfolding done_count
none_done = refl

pub invariant_of-result-clause-counted : goal.invariant_of-result-clause-counted
invariant_of-result-clause-counted g c = c.requires.total ∙ sym (ap done_count c.requires.empty ∙ none_done)

pub invariant_of-result-clause-ran : goal.invariant_of-result-clause-ran
invariant_of-result-clause-ran g c =
    let S = g.S.Scheduler in
    ∣ no_calls S.policy g.L.Named.map g.L.Named.queues g.L.Named.start c.args.core c.requires.start c.requires.empty ∣₁

pub invariant_of-result-clause-full : goal.invariant_of-result-clause-full
invariant_of-result-clause-full g c = λ _. none_ended c.args.core.setup c.args.core.events c.requires.empty
