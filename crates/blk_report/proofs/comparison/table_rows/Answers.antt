use Rattle.std.proofs.Common.{◌∙◌, ap, map, arith}
use Rattle.blk_report.specs.Table.{table_row}
use Rattle.blk_report.proofs.Tables.{one_more, all_rows}
use Rattle.blk_report.proofs.comparison.table_rows.Goals as goal

pub loop-place-preserved : goal.loop-place-preserved
loop-place-preserved c =
    rw (c.in_ok-push.ensures.items, c.loop-place.invariant, c.in_ok-table_row.ensures)
    (one_more c.args.names.now c.args.reports.now c.loop-place.place _ _ c.requires c.loop-place-test.true)

pub returns : goal.returns
returns c =
    c.loop-place.invariant ∙ ap (map (λ p. table_row p.0 p.1)) (all_rows c.args.names.now c.args.reports.now c.loop-place.place c.requires (let a = c.loop-place-test.false in omega (arith, a)))
