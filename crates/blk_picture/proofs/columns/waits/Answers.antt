use Rattle.std.proofs.Common.{◌≡◌, ◌+◌, ◌-◌, ◌∙◌, ℕ, get_or, sym, ap, arith}
use Rattle.std.proofs.lemmas.List.{get_or_read}
use Rattle.blk_picture.specs.Columns.{before}
use Rattle.blk_picture.proofs.Counting.{before_none, before_more, before_few, waits_push, waits_none}
use Rattle.blk_picture.proofs.columns.waits.Goals as goal

pub loop-round-init : goal.loop-round-init
loop-round-init c = record {
  came = sym (before_none c.args.entered.now);
  went = sym (before_none c.args.gone.now);
  waits = c.new-waits.ensures.items ∙ sym (waits_none c.args.entered.now c.args.gone.now);
}

pub overflow_add-all_came : goal.overflow_add-all_came
overflow_add-all_came c =
    let r : ℕ = c.loop-round.round in
    let read : c.index.result.now ≡ get_or c.in_ok-came.came.items r 0 = get_or_read c.in_ok-came.came.items r c.index.result.now (let h = c.loop-round-test.true in omega (arith, h, c.in_ok-came.ensures.each)) c.index.ensures 0 in
    omega (arith, read, c.loop-round.invariant.came, c.in_ok-came.ensures.counts r c.loop-round-test.true, before_more c.args.entered.now r, before_few c.args.entered.now (r + 1), c.requires.entered)

pub overflow_add-all_went : goal.overflow_add-all_went
overflow_add-all_went c =
    let r : ℕ = c.loop-round.round in
    let read : c.index-in-loop-round.result.now ≡ get_or c.in_ok-went.went.items r 0 = get_or_read c.in_ok-went.went.items r c.index-in-loop-round.result.now (let h = c.loop-round-test.true in omega (arith, h, c.in_ok-went.ensures.each)) c.index-in-loop-round.ensures 0 in
    omega (arith, read, c.loop-round.invariant.went, c.in_ok-went.ensures.counts r c.loop-round-test.true, before_more c.args.gone.now r, before_few c.args.gone.now (r + 1), c.requires.gone)

pub loop-round-preserved : goal.loop-round-preserved
loop-round-preserved c =
    let old = c.loop-round.invariant in
    let r : ℕ = c.loop-round.round in
    let h = c.loop-round-test.true in
    let one : c.index.result.now ≡ get_or c.in_ok-came.came.items r 0 = get_or_read c.in_ok-came.came.items r c.index.result.now (omega (arith, h, c.in_ok-came.ensures.each)) c.index.ensures 0 in
    let two : c.index-in-loop-round.result.now ≡ get_or c.in_ok-went.went.items r 0 = get_or_read c.in_ok-went.went.items r c.index-in-loop-round.result.now (omega (arith, h, c.in_ok-went.ensures.each)) c.index-in-loop-round.ensures 0 in
    let came : c.loop-round.all_came + c.index.result.now ≡ before c.args.entered.now (r + 1) =
    omega (arith, one, old.came, c.in_ok-came.ensures.counts r h, before_more c.args.entered.now r) in
    let went : c.loop-round.all_went + c.index-in-loop-round.result.now ≡ before c.args.gone.now (r + 1) =
    omega (arith, two, old.went, c.in_ok-went.ensures.counts r h, before_more c.args.gone.now r) in
    record {
      came = came;
      went = went;
      waits = waits_push c.args.entered.now c.args.gone.now r _ c.loop-round.waits.items _ old.waits c.in_ok-push.ensures.items (c.saturating_sub.ensures ∙ ap (λ x. x - (c.loop-round.all_went + c.index-in-loop-round.result.now)) came ∙ ap (λ x. before c.args.entered.now (r + 1) - x) went);
    }
