use Rattle.std.proofs.Common.{◌≡◌, ◌-◌, ◌++◌, ◌∙◌, ap, arith, take, drop}
use Rattle.blk_picture.specs.Columns.{peaks_of}
use Rattle.blk_picture.proofs.Counting.{peaks_next, peaks_done}
use Rattle.blk_picture.proofs.columns.peaks.Goals as goal

pub loop-column-init : goal.loop-column-init
loop-column-init c = ap (λ l. l ++ peaks_of c.args.per (c.args.columns - 0) c.args.numbers.now) c.new-peaks.ensures.items ∙ ap (λ n. peaks_of c.args.per n c.args.numbers.now) (let z : c.args.columns - 0 ≡ c.args.columns = omega arith in z)

pub loop-column-preserved : goal.loop-column-preserved
loop-column-preserved c =
    peaks_next c.args.per c.args.columns c.loop-column.column c.loop-column.rest.now c.split_at.result.0.now c.split_at.result.1.now c.loop-column.peaks.items c.push.new.self.items _ c.greatest.result c.loop-column-test.true (c.split_at.ensures.front ∙ ap (λ n. take n c.loop-column.rest.now) c.min.ensures) (c.split_at.ensures.back ∙ ap (λ n. drop n c.loop-column.rest.now) c.min.ensures) c.greatest.ensures c.in_ok-push.ensures.items c.loop-column.invariant

pub returns : goal.returns
returns c = peaks_done c.args.per c.args.columns c.loop-column.column c.loop-column.rest.now c.loop-column.peaks.items _ c.loop-column-test.false c.loop-column.invariant
