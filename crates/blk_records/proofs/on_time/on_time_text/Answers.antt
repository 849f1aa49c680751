use Rattle.std.proofs.Common.{◌≡◌, ◌∙◌, ◌∷◌, ◌++◌, [], List, ℕ, length, map, ap, sym}
use Rattle.std.specs.List.{zip}
use Rattle.blk_records.specs.Certificate.{served_cells}
use Rattle.text_output.specs.Drafts.{draft_text}
use Rattle.blk_records.specs.OnTime.{on_time_claimed}
use Rattle.blk_records.specs.Tables.{row_by}
use Rattle.blk_records.specs.Texts.{rows_text}
use Rattle.blk_records.specs.Titles.{counted_numbers, title_by}
use Rattle.blk_records.specs.declared.on_time.TheConstants.{ON_TIME}
use Rattle.blk_records.proofs.DraftLemmas.{two_first, rows_text-append}
use Rattle.blk_records.proofs.OnTimeLaws.{numbers_row, window_row, rows_are}
use Rattle.blk_records.proofs.on_time.on_time_text.Goals as goal

pub returns : goal.returns
returns c =
    let certificate = c.args.certificate.now in
    let commands = c.as_slice-commands.ensures.value in
    let cover = c.as_slice-cover.ensures.value in
    let rounds = c.as_slice.ensures.value in
    let title = title_by ON_TIME counted_numbers (ON_TIME.latest, (certificate.depth, length certificate.commands.items)) in
    let numbers = numbers_row (certificate.on_time, length certificate.cover.items) in
    let windows = map window_row certificate.cover.items in
    let lines = map (row_by served_cells) (zip certificate.commands.items certificate.rounds.items) in
    let first = two_first title (numbers ∷ []) (draft_text c.new-draft.result) (draft_text c.push.new.draft) (draft_text c.push-2.new.draft) c.new-draft.ensures (rw commands at c.in_ok-push.ensures.text) (rw cover at c.in_ok-push-2.ensures.text) in
    let second : draft_text c.push_cover.new.draft ≡ rows_text ((title ∷ numbers ∷ []) ++ windows) =
    rw cover at c.in_ok-push_cover.ensures.text ∙ ap (λ (k : List ℕ). k ++ rows_text windows) first ∙ sym (rows_text-append (title ∷ numbers ∷ []) windows) in
    let third : draft_text c.push_schedule.new.draft ≡ rows_text (((title ∷ numbers ∷ []) ++ windows) ++ lines) =
    rw (commands, rounds) at c.in_ok-push_schedule.ensures.text ∙ ap (λ (k : List ℕ). k ++ rows_text lines) second ∙ sym (rows_text-append ((title ∷ numbers ∷ []) ++ windows) lines) in
    rw (third ∙ ap rows_text (sym (rows_are (on_time_claimed certificate)))) at c.finish.ensures
