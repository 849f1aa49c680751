use Rattle.std.proofs.Common.{◌∷◌, ◌∙◌, [], ap, sym, arith}
use Rattle.blk_records.specs.Commands.{command_cells, depth_number}
use Rattle.blk_records.specs.Tables.{row_by}
use Rattle.blk_records.specs.Titles.{title_by}
use Rattle.blk_records.specs.declared.commands.TheConstants.{COMMANDS}
use Rattle.blk_records.specs.Texts.{rows_text}
use Rattle.blk_records.proofs.CommandLaws.{rows_are}
use Rattle.blk_records.proofs.DraftLemmas.{one_first, one_more_at, whole}
use Rattle.text_output.specs.Drafts.{draft_text}
use Rattle.blk_records.proofs.commands.commands_text.Goals as goal

pub loop-i-init : goal.loop-i-init
loop-i-init c =
    record {
      text = one_first (title_by COMMANDS depth_number (COMMANDS.latest, c.args.depth)) (draft_text c.new-draft.result) (draft_text c.push.new.draft) c.new-draft.ensures c.in_ok-push.ensures.text;
    }

pub loop-i-preserved : goal.loop-i-preserved
loop-i-preserved c = record {
  text = one_more_at (λ c. row_by command_cells c ∷ []) [] (title_by COMMANDS depth_number (COMMANDS.latest, c.args.depth) ∷ []) c.args.commands.now c.loop-i.i (record { id = 0; release = 0; due = 0 })
      (draft_text c.loop-i.draft) (draft_text c.push_numbers.new.draft) c.loop-i-test.true c.loop-i.invariant.text c.in_ok-push_numbers.ensures.text;
}

pub returns : goal.returns
returns c =
    let all = whole (row_by command_cells) [] (title_by COMMANDS depth_number (COMMANDS.latest, c.args.depth) ∷ []) c.args.commands.now c.loop-i.i (draft_text c.loop-i.draft) (omega arith) c.loop-i.invariant.text in
    rw (all ∙ ap rows_text (sym (rows_are c.args.depth c.args.commands.now))) at c.finish.ensures
