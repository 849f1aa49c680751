use Rattle.std.proofs.Common.{rules, arith, ◌≡◌, ◌<◌, ◌≤◌, ◌∙◌, ap, subst}
use Rattle.std.specs.Prelude.{IsTrue, false}
use Rattle.blk_trace.specs.Depths.{depth_now}
use Rattle.blk_sim.specs.Inside.Given.{IsGiven}
use Rattle.blk_sim.specs.declared.refusal.SimReason.TheVariants as why
use Rattle.blk_core.specs.declared.refusals.IssueFault.TheVariants as issue
use Rattle.blk_sim.proofs.Chains.{issue_none, issue_given, issue_passed}
use Rattle.blk_sim.proofs.Rounding.{all_given}
use Rattle.blk_sim.proofs.rounds.issue_all.Goals as goal
use Rattle.blk_sim.proofs.rounds.issue_all.Goals.{in-Ok-true, in-Err+else-not-is_used}

pub loop-tag-init : goal.loop-tag-init
loop-tag-init g c = issue_none _ _

pub returns-in-Ok-false-clause-issued : goal.returns-in-Ok-false-clause-issued
returns-in-Ok-false-clause-issued g c =
    let depth : c.depth_now-depth.result ≡ depth_now c.args.core.now.setup c.args.core.now.events = c.depth_now-depth.ensures.value ∙ ap (λ s. depth_now s c.trace-2.result.now.events) c.trace-2.ensures.setup ∙ ap (depth_now c.args.core.now.setup) c.trace-2.ensures.events in
    let below : c.loop-tag.tag ≤ depth_now c.args.core.now.setup c.args.core.now.events = omega arith in
    all_given g.S.Scheduler.policy c.loop-tag.tag c.args.core.now c.loop-tag.core c.issue_tag.new.core c.in-Ok-false.field-0 c.in-Ok-false.field-0-test below c.loop-tag.invariant c.in-Ok-false.ensures.given

pub returns-then-not-is_used-clause-refused : goal.returns-then-not-is_used-clause-refused
returns-then-not-is_used-clause-refused g c =
    let depth : c.depth_now-depth.result ≡ depth_now c.args.core.now.setup c.args.core.now.events = c.depth_now-depth.ensures.value ∙ ap (λ s. depth_now s c.trace-2.result.now.events) c.trace-2.ensures.setup ∙ ap (depth_now c.args.core.now.setup) c.trace-2.ensures.events in
    let below : c.loop-tag.tag < depth_now c.args.core.now.setup c.args.core.now.events = omega arith in
    record {
      tag = c.loop-tag.tag;
      below = below;
      middle = c.loop-tag.core;
      issued = c.loop-tag.invariant;
      refused = c.in-Err.ensures.refused (λ e. let yes : IsTrue false = c.if-not-is_used.ensures.1 e in absurd (cc));
    }

pub loop-tag-preserved : goal.loop-tag-preserved
loop-tag-preserved g c = elim c.match-issue_tag.branch [
  | in-Ok-true w ↦ issue_given g.S.Scheduler.policy c.loop-tag.tag c.args.core.now c.loop-tag.core c.issue_tag.new.core c.loop-tag.invariant
      (subst (λ v. IsGiven g.S.Scheduler.policy c.loop-tag.tag c.loop-tag.core v c.issue_tag.new.core) w.in-Ok-true.field-0-test w.in-Ok-true.ensures.given)
  | in-Err+else-not-is_used w ↦
      let used : w.in-Err.why ≡ why.Issue issue.SlotUsed = search rules in
      issue_passed g.S.Scheduler.policy c.loop-tag.tag c.args.core.now c.loop-tag.core c.issue_tag.new.core c.loop-tag.invariant (w.in-Err.ensures.used used) w.in-Err.ensures.same
]
