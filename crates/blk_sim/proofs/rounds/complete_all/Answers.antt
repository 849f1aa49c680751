use Rattle.std.proofs.Common.{arith, ◌≡◌, ◌<◌, ◌≤◌, ◌∙◌, length, refl, sym, ap}
use Rattle.std.proofs.lemmas.Option.{slice_get_within}
use Rattle.blk_trace.specs.Setups.{Setup}
use Rattle.blk_trace.specs.Events.{open_count}
use Rattle.blk_core.specs.Opens.{open_issues}
use Rattle.blk_sim.proofs.Chains.{complete_none, complete_idle}
use Rattle.blk_sim.proofs.Rounding.{done_step}
use Rattle.blk_sim.proofs.rounds.complete_all.Goals as goal

pub loop-tag-init : goal.loop-tag-init
loop-tag-init g c = complete_none _ _

pub returns-then-unfinished-eq0 : goal.returns-then-unfinished-eq0
returns-then-unfinished-eq0 g c =
    let depth : c.depth-depth.result ≡ c.args.core.now.setup.depth = c.depth-depth.ensures.value ∙ ap (λ (s : Setup). s.depth) (c.setup.ensures ∙ c.trace.ensures.setup) in
    let below : c.loop-tag.tag ≤ c.args.core.now.setup.depth = omega arith in
    let legal = c.trace-in-loop-tag.ensures.legal in
    let few : length (open_issues c.loop-tag.core.events) ≡ open_count c.loop-tag.core.events = c.open_picks_are_open_issues.ensures.all c.loop-tag.core.setup c.loop-tag.core.events legal in
    let zero_open : open_count c.loop-tag.core.events ≡ 0 = sym (ap open_count c.trace-in-loop-tag.ensures.events) ∙ sym c.unfinished.ensures.value ∙ c.if-unfinished-eq0.true in
    complete_idle g.S.Scheduler.policy c.loop-tag.tag c.args.core.now.setup.depth c.args.core.now c.loop-tag.core below c.loop-tag.invariant (λ tag is.
    let at = (c.listed_issues_are_open.ensures c.loop-tag.core.events is.id tag).1 (is, refl) in
    let within : at.0 < length (open_issues c.loop-tag.core.events) = slice_get_within (open_issues c.loop-tag.core.events) at.0 (is.id, tag) at.1 in
    absurd (omega (arith, within, few, zero_open)))

pub loop-tag-preserved : goal.loop-tag-preserved
loop-tag-preserved g c = done_step g.S.Scheduler.policy c.loop-tag.tag c.args.core.now c.loop-tag.core c.done.new.core c.done.result c.loop-tag.invariant c.done.ensures.completed c.done.ensures.refused c.done.ensures.same
