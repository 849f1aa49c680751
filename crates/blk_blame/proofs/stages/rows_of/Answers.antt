use Rattle.std.proofs.Common.{ℕ, get_or, subst, arith}
use Rattle.std.proofs.lemmas.List.{get_or_default}
use Rattle.blk_bio.specs.declared.bio.Dir.{Dir}
use Rattle.blk_blame.specs.Stages.{IsStageRow}
use Rattle.blk_blame.specs.declared.stages.Stage.{Stage}
use Rattle.blk_blame.proofs.Pushing.{pushed}
use Rattle.blk_blame.proofs.stages.rows_of.Goals as goal

pub loop-pair-preserved : goal.loop-pair-preserved
loop-pair-preserved c =
    let old = c.loop-pair.invariant in
    let n : ℕ = c.loop-pair.pair-index in
    let new =
    pushed (λ k x. (d : Stage × Dir) → IsStageRow c.args.requests.now (get_or c.args.stages.now k d).1 (get_or c.args.stages.now k d).0 x) n c.loop-pair.rows.items c.in_ok-stage_row.field-0 c.push.new.self.items old.each c.in_ok-push.ensures.items
    (λ k e h d. old.so_far k e h d)
    (λ d. subst (λ (s : Stage × Dir). IsStageRow c.args.requests.now s.1 s.0 c.in_ok-stage_row.field-0) (get_or_default c.args.stages.now n _ d c.loop-pair-test.true) c.in_ok-stage_row.ensures) in
    record { each = new.0; so_far = λ k e h d. new.1 k e h d }

pub returns : goal.returns
returns c = record {
  one_each = omega (arith, c.loop-pair.invariant.each, c.loop-pair-test.false, c.loop-pair.auto.pair-index-end);
  each = λ k d e h. c.loop-pair.invariant.so_far k e (omega (arith, h, c.loop-pair.invariant.each)) d;
}
