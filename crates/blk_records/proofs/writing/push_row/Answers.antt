use Rattle.std.proofs.Common.{◌∙◌, ap, ◌++◌}
use Rattle.text_output.proofs.Drafts.{added}
use Rattle.blk_records.specs.Inside.Cells.{rest_of_line}
use Rattle.blk_records.proofs.Rows.{row_is}
use Rattle.blk_records.proofs.writing.push_row.Goals as goal

pub returns : goal.returns
returns c =
    let written = c.put_rest-draft.ensures.written ∙ ap (λ t. t ++ rest_of_line c.args.numbers.now c.args.blanks) c.put-head.ensures.written in
    let start = c.in_ok-start.ensures in
    record { text = added _ _ _ _ _ _ _ start.at.0 start.text (written ∙ row_is _ c.args.word.now c.args.numbers.now c.args.blanks c.requires.word.1 c.requires.some) }
