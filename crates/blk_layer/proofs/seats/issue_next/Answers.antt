use Rattle.std.proofs.Common.{◌∙◌, length, sym, ap, subst, inr, arith, length-append, ◌∷◌, []}
use Rattle.std.proofs.Math.Logic.{∥∥₁_map}
use Rattle.blk_tags.specs.Tags.{Set, Seat, tag_or_first}
use Rattle.blk_layer.specs.Inside.Next.{WantsTag}
use Rattle.blk_layer.specs.declared.seats.NoNext.TheVariants.{Tried}
use Rattle.blk_core.specs.State.{CoreState}
use Rattle.blk_core.specs.Tries.{IsNoneIssued}
use Rattle.blk_layer.proofs.Moving.{tried_stays}
use Rattle.blk_layer.proofs.Ruled.{tried}
use Rattle.blk_layer.proofs.Rounds.{tried_full}
use Rattle.blk_layer.proofs.InHand.{given_back}
use Rattle.blk_layer.proofs.Tries.{each_tried, one_tried, used_up}
use Rattle.blk_layer.proofs.seats.issue_next.Goals as goal

pub returns-in_default-clause-tried : goal.returns-in_default-clause-tried
returns-in_default-clause-tried g c = λ _.
    let tries = each_tried c.args.tags.now.depth (tag_or_first c.args.tags.now.depth c.loop.from) c.loop.seat.steps c.get_from.new.seat.steps c.in_default.ensures.steps in
    omega (arith, tries, c.loop.invariant.tries, ap (λ (s : Set). s.depth) c.requires.set)

pub invariant_of-core : goal.invariant_of-core
invariant_of-core g c =
    let locked = c.loop.core in
    let S = g.S.Scheduler in
    let stays = tried_stays S.policy.serves S.policy.chooses S.policy.told_tick locked.core c.args.hw c.in-Some.tag c.try_issue.new.self c.try_issue.result c.try_issue.ensures.issued c.try_issue.ensures.fault in
    record {
      named = stays.setup ∙ locked.named;
      counted = locked.counted ∙ sym stays.dones;
      all_out = locked.all_out;
      none = locked.none;
      full = λ off. tried_full S.policy locked.core c.args.hw c.in-Some.tag c.try_issue.new.self c.try_issue.result c.try_issue.ensures.issued c.try_issue.ensures.fault (locked.full off);
      ran = ∥∥₁_map locked.ran (tried S.policy g.L.Named.map g.L.Named.queues g.L.Named.start locked.core c.args.hw c.in-Some.tag c.try_issue.new.self c.requires.one c.try_issue.result c.try_issue.ensures.issued c.try_issue.ensures.fault);
    }

pub invariant_of-core-in-Err-1 : goal.invariant_of-core-in-Err-1
invariant_of-core-in-Err-1 g c =
    let locked = c.loop.core in
    let S = g.S.Scheduler in
    let stays = tried_stays S.policy.serves S.policy.chooses S.policy.told_tick locked.core c.args.hw c.in-Some.tag c.try_issue.new.self c.try_issue.result c.try_issue.ensures.issued c.try_issue.ensures.fault in
    record {
      named = stays.setup ∙ locked.named;
      counted = locked.counted ∙ sym stays.dones;
      all_out = locked.all_out;
      none = locked.none;
      full = λ off. tried_full S.policy locked.core c.args.hw c.in-Some.tag c.try_issue.new.self c.try_issue.result c.try_issue.ensures.issued c.try_issue.ensures.fault (locked.full off);
      ran = ∥∥₁_map locked.ran (tried S.policy g.L.Named.map g.L.Named.queues g.L.Named.start locked.core c.args.hw c.in-Some.tag c.try_issue.new.self c.requires.one c.try_issue.result c.try_issue.ensures.issued c.try_issue.ensures.fault);
    }

pub returns-then-not-is_used_up-clause-none : goal.returns-then-not-is_used_up-clause-none
returns-then-not-is_used_up-clause-none g c =
    let policy = g.S.Scheduler.policy in
    inr (c.in-Some.tag, subst (λ (old : CoreState). IsNoneIssued policy.serves policy.chooses policy.told_tick old c.args.hw c.in-Some.tag c.in-Err.why c.try_issue.new.self) c.loop.invariant.core c.in-Err.ensures.fault)

pub returns-then-not-is_used_up-clause-kept : goal.returns-then-not-is_used_up-clause-kept
returns-then-not-is_used_up-clause-kept g c =
    let back = given_back c.loop.seat c.get_from.new.seat c.give.new.seat c.in-Some.tag _ _ c.in-Some.ensures.some c.give.ensures c.in-Some.ensures.free in
    (back.0 ∙ c.loop.invariant.set, back.1 ∙ c.loop.invariant.tags)

pub loop-preserved : goal.loop-preserved
loop-preserved g c =
    let policy = g.S.Scheduler.policy in
    let back = given_back c.loop.seat c.get_from.new.seat c.give.new.seat c.in-Some.tag _ _ c.in-Some.ensures.some c.give.ensures c.in-Some.ensures.free in
    let wants : WantsTag (Tried c.in-Err.why) = c.is_used_up.ensures.yes c.if-not-is_used_up.false in
    let vain = used_up policy c.args.core.now.core c.loop.core.core c.args.hw c.in-Some.tag c.in-Err.why c.try_issue.new.self c.loop.invariant.core c.in-Err.ensures.fault wants in
    let more = one_tried c.args.tags.now.depth (tag_or_first c.args.tags.now.depth c.loop.from) c.in-Some.tag c.loop.seat.steps c.get_from.new.seat.steps c.in-Some.ensures.steps in
    let given = ap (λ (s : Seat). length s.steps) c.give.ensures ∙ length-append c.get_from.new.seat.steps (c.in-Some.tag ∷ []) in
    record {
      set = back.0 ∙ c.loop.invariant.set;
      tags = back.1 ∙ c.loop.invariant.tags;
      core = vain.0;
      tries = omega (arith, more, given, c.loop.invariant.tries);
      last = vain.1;
    }
