use Rattle.std.proofs.Common.{arith, ◌≡◌, ◌∙◌, ap, subst}
use Rattle.blk_trace.specs.Setups.{Setup}
use Rattle.blk_sim.specs.Rounds.{GiveNothing}
use Rattle.blk_sim.proofs.Rounding.{nothing_more}
use Rattle.blk_sim.proofs.rounds.issue_tag.Goals as goal

pub loop-k-preserved : goal.loop-k-preserved
loop-k-preserved g c =
    let hw : c.hw-count.result ≡ c.args.core.now.setup.hw = c.hw-count.ensures.value ∙ ap (λ (s : Setup). s.hw) (c.setup.ensures ∙ c.trace.ensures.setup) in
    let more = nothing_more g.S.Scheduler.policy c.args.tag c.hw-count.result c.loop-k.k c.args.core.now c.loop-k.core c.issue.new.core c.in_ok-issue.field-0 hw c.loop-k.invariant.same c.in_ok-issue.ensures.asked c.in-None.is c.loop-k.invariant.nothing in
    record { same = more.0; nothing = more.1 }

pub returns-clause-given : goal.returns-clause-given
returns-clause-given g c =
    let hw : c.hw-count.result ≡ c.args.core.now.setup.hw = c.hw-count.ensures.value ∙ ap (λ (s : Setup). s.hw) (c.setup.ensures ∙ c.trace.ensures.setup) in
    let end : c.loop-k.k ≡ c.args.core.now.setup.hw = omega arith in
    (subst (λ n. GiveNothing g.S.Scheduler.policy c.args.tag n c.args.core.now) end c.loop-k.invariant.nothing, c.loop-k.invariant.same)
