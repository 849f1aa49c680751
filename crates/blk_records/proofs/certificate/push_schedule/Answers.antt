use Rattle.std.proofs.Common.{◌<◌, [], ◌∷◌, length, arith}
use Rattle.std.specs.List.{zip}
use Rattle.text_output.specs.Drafts.{draft_text}
use Rattle.blk_records.specs.Certificate.{served_cells}
use Rattle.blk_records.specs.Tables.{row_by}
use Rattle.blk_records.proofs.ClaimLaws.{length_zip, paired}
use Rattle.blk_records.proofs.DraftLemmas.{one_more_at, none_first, whole}
use Rattle.blk_records.proofs.certificate.push_schedule.Goals as goal

pub loop-i-init : goal.loop-i-init
loop-i-init c = record { text = none_first (draft_text c.args.draft.now) }

pub loop-i-preserved : goal.loop-i-preserved
loop-i-preserved c =
    let in_both : c.loop-i.i < length (zip c.args.commands.now c.args.rounds.now) = omega (arith, length_zip c.args.commands.now c.args.rounds.now c.requires, c.loop-i-test.true) in
    let pair = paired c.args.commands.now c.args.rounds.now c.loop-i.i (record { id = 0; release = 0; due = 0 }) c.requires c.loop-i-test.true in
    record {
      text = one_more_at (λ s. row_by served_cells s ∷ []) (draft_text c.args.draft.now) [] (zip c.args.commands.now c.args.rounds.now) c.loop-i.i (record { id = 0; release = 0; due = 0 }, 0)
          (draft_text c.loop-i.draft) (draft_text c.push_numbers.new.draft) in_both c.loop-i.invariant.text (rw pair c.in_ok-push_numbers.ensures.text);
    }

pub returns : goal.returns
returns c = record {
  text = whole (row_by served_cells) (draft_text c.args.draft.now) [] (zip c.args.commands.now c.args.rounds.now) c.loop-i.i (draft_text c.loop-i.draft)
      (omega (arith, length_zip c.args.commands.now c.args.rounds.now c.requires)) c.loop-i.invariant.text;
}
