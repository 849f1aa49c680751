use Rattle.std.proofs.Common.{ℕ, ap, sym, ◌∙◌, arith}
use Rattle.std.proofs.lemmas.List.{get_or_default}
use Rattle.std.proofs.lemmas.List.Sums.{sum_by_more}
use Rattle.blk_blame.specs.Stages.{way_time}
use Rattle.blk_blame.proofs.Glue.{nobody}
use Rattle.blk_blame.proofs.stages.stage_sum.Goals as goal

pub loop-request-preserved : goal.loop-request-preserved
loop-request-preserved c =
    let i : ℕ = c.loop-request.request-index in
    let next = sum_by_more (way_time c.args.dir c.args.stage) c.args.requests.now i nobody c.loop-request-test.true in
    let here = ap (way_time c.args.dir c.args.stage) (get_or_default c.args.requests.now i nobody _ c.loop-request-test.true) ∙ sym c.way_time.ensures in
    record { so_far = omega (arith, c.loop-request.invariant.so_far, next, here); small = omega (arith, c.loop-request.invariant.small) }
