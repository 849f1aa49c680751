use Rattle.std.proofs.Common.{◌∙◌, ap, ◌++◌, arith, decimal}
use Rattle.text_output.proofs.Drafts.{added}
use Rattle.blk_records.specs.Inside.Cells.{rest_of_line}
use Rattle.blk_records.proofs.PlainRows.{decimal_plain}
use Rattle.blk_records.proofs.Rows.{row_is}
use Rattle.blk_records.proofs.writing.push_numbers.Goals as goal

pub returns : goal.returns
returns c =
    let written = c.put_rest-draft.ensures.written ∙ ap (λ t. t ++ rest_of_line c.args.others.now 0) c.put_number-head.ensures.written in
    let start = c.in_ok-start.ensures in
    record { text = added _ _ _ _ _ _ _ start.at.0 start.text (written ∙ row_is _ (decimal c.args.first) c.args.others.now 0 (decimal_plain c.args.first) (omega (arith, c.requires.some))) }
