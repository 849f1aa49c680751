use Rattle.std.proofs.Common.{◌≡◌, ◌∙◌, ◌+◌, ◌-◌, ◌≤◌, ◌++◌, ap, sym, arith, true, false, length, take, drop, List, ℕ}
use Rattle.std.proofs.lemmas.List.{take_all}
use Rattle.answer.specs.Lines.{answer_lines}
use Rattle.blk_capture.specs.declared.table.RequestRow.{RequestRow}
use Rattle.blk_capture_text.specs.TableText.{table_parts, table_lines}
use Rattle.blk_capture_text.proofs.Tables.{more_rows, taken_more}
use Rattle.blk_capture_text.proofs.table.table_text.Goals as goal

pub loop-end-preserved : goal.loop-end-preserved
loop-end-preserved c =
    let rows : List RequestRow = c.args.rows.now in
    let end = c.loop-end.end in
    let more = c.min-end-in-loop-end.result in
    let within : end + more ≤ length rows = omega (arith, c.loop-end.invariant.within, c.min-end-in-loop-end.ensures) in
    record {
      within = within;
      text =
          c.in_ok-extend_from_slice.ensures.items
          ∙ ap (λ l. l ++ c.as_slice.result.now) c.loop-end.invariant.text
          ∙ ap (λ l. answer_lines (table_parts true (take end rows)) ++ l) (c.as_slice.ensures.value ∙ c.in_ok-more.ensures)
          ∙ more_rows (take end rows) _
          ∙ ap (λ l. answer_lines (table_parts true l)) (taken_more rows end more);
    }

pub returns : goal.returns
unfolding table_lines
returns c = c.loop-end.invariant.text ∙ ap (λ l. answer_lines (table_parts true l)) (take_all c.loop-end.end c.args.rows.now c.loop-end-test.false)
