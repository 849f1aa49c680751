use Rattle.std.proofs.Common.{◌∙◌, length, map, ap, sym}
use Rattle.std.specs.List.{zip}
use Rattle.blk_records.specs.Titles.{counted_numbers, title_by}
use Rattle.blk_records.specs.declared.schedule.TheConstants.{SCHEDULE}
use Rattle.blk_records.specs.Certificate.{served_cells}
use Rattle.blk_records.specs.Schedule.{viewed}
use Rattle.blk_records.specs.Tables.{row_by}
use Rattle.blk_records.specs.Texts.{rows_text}
use Rattle.blk_records.proofs.DraftLemmas.{two_first}
use Rattle.blk_records.proofs.ScheduleLaws.{rows_are}
use Rattle.text_output.specs.Drafts.{draft_text}
use Rattle.blk_records.proofs.schedule.schedule_text.Goals as goal

pub returns : goal.returns
returns c =
    let schedule = c.args.schedule.now in
    let commands = c.as_slice-commands.ensures.value in
    let rounds = c.as_slice.ensures.value in
    let title = title_by SCHEDULE counted_numbers (SCHEDULE.latest, (schedule.depth, length schedule.commands.items)) in
    let lines = map (row_by served_cells) (zip schedule.commands.items schedule.rounds.items) in
    let all = two_first title lines (draft_text c.new-draft.result) (draft_text c.push.new.draft) (draft_text c.push_schedule.new.draft) c.new-draft.ensures (rw commands at c.in_ok-push.ensures.text) (rw (commands, rounds) at c.in_ok-push_schedule.ensures.text) in
    rw (all ∙ ap rows_text (sym (rows_are (viewed schedule)))) at c.finish.ensures
