use Rattle.std.proofs.Common.{◌≡◌, ◌∙◌, ap, arith}
use Rattle.std.specs.Prelude.{slice_index_or}
use Rattle.blk_picture.specs.Scales.{shown_at}
use Rattle.blk_picture.specs.Columns.{no_column, drawn_columns}
use Rattle.blk_picture.specs.Made.{made}
use Rattle.blk_picture.proofs.Made.{made_none, made_push}
use Rattle.blk_picture.proofs.shapes.drawn_columns.Goals as goal

pub loop-number-init : goal.loop-number-init
loop-number-init c = made_none (λ n. slice_index_or c.args.columns.now (shown_at c.args.scale.now n) no_column) c.new-drawn.result.items c.new-drawn.ensures.items

pub loop-number-preserved : goal.loop-number-preserved
loop-number-preserved c =
    made_push (λ n. slice_index_or c.args.columns.now (shown_at c.args.scale.now n) no_column) c.loop-number.number c.loop-number.drawn.items _ _ c.loop-number.invariant c.in_ok-push.ensures.items (c.column_or.ensures ∙ ap (λ k. slice_index_or c.args.columns.now k no_column) (c.shown_at-column.ensures ∙ ap (shown_at c.args.scale.now) c.from.ensures))

pub returns : goal.returns
unfolding drawn_columns
returns c =
    let all : c.loop-number.number ≡ c.args.scale.now.drawn = let a = c.loop-number-test.false in let b = c.loop-number.auto.number-end in omega (arith, a, b) in
    c.loop-number.invariant ∙ ap (made (λ n. slice_index_or c.args.columns.now (shown_at c.args.scale.now n) no_column)) all
