use Rattle.std.proofs.Common.{ℕ, get_or, subst, arith}
use Rattle.std.proofs.lemmas.List.{get_or_default}
use Rattle.blk_blame.specs.Groups.{IsGroup}
use Rattle.blk_blame.specs.declared.late_groups.LateGroup.{LateGroup}
use Rattle.blk_blame.proofs.Pushing.{pushed}
use Rattle.blk_blame.proofs.blamed.groups_of.Goals as goal

pub loop-late_group-preserved : goal.loop-late_group-preserved
loop-late_group-preserved c =
    let old = c.loop-late_group.invariant in
    let n : ℕ = c.loop-late_group.late_group-index in
    let new =
    pushed (λ k x. (d : LateGroup) → IsGroup c.args.by c.args.requests.now c.args.account.now (get_or c.args.late_groups.now k d) x) n c.loop-late_group.groups.items c.in_ok-group_of.field-0 c.push.new.self.items old.each c.in_ok-push.ensures.items
    (λ k e h d. old.so_far k e h d)
    (λ d. subst (λ (h : LateGroup). IsGroup c.args.by c.args.requests.now c.args.account.now h c.in_ok-group_of.field-0) (get_or_default c.args.late_groups.now n _ d c.loop-late_group-test.true) c.in_ok-group_of.ensures) in
    record { each = new.0; so_far = λ k e h d. new.1 k e h d }

pub returns : goal.returns
returns c = record {
  one_each = omega (arith, c.loop-late_group.invariant.each, c.loop-late_group-test.false, c.loop-late_group.auto.late_group-index-end);
  each = λ k d e h. c.loop-late_group.invariant.so_far k e (omega (arith, h, c.loop-late_group.invariant.each)) d;
}
