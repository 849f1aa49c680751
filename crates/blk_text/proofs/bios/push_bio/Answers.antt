use Rattle.std.proofs.Common.{◌∙◌}
use Rattle.blk_text.proofs.Rows.{bio_is}
use Rattle.text_output.proofs.Drafts.{added}
use Rattle.blk_text.proofs.bios.push_bio.Goals as goal

pub returns-clause-text : goal.returns-clause-text
returns-clause-text c =
    let written = rw (c.put_two-placed.ensures.written, c.put-way.ensures.written, c.put_two-named.ensures.written, c.put-head.ensures.written) at c.put-draft.ensures.written in
    let row = rw (c.id-id.ensures, c.first.ensures.value, c.sectors.ensures.value) at written in
    let letter = rw c.dir.ensures at c.letter.ensures in
    let start = c.in_ok-start.ensures in
    added _ _ _ _ _ _ _ start.at.0 start.text (row ∙ bio_is _ c.args.bio.now c.letter.result letter)
