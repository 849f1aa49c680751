use Rattle.std.proofs.Common.{◌≡◌, ◌++◌, ◌∷◌, ◌∙◌, [], List, ℕ, length, map, ap, sym}
use Rattle.std.specs.List.{zip}
use Rattle.blk_records.specs.Titles.{counted_numbers, title_by}
use Rattle.blk_records.specs.declared.certificate.TheConstants.{CERTIFICATE}
use Rattle.blk_records.specs.Certificate.{claimed, served_cells}
use Rattle.blk_records.specs.Inside.Certificate.{bound_row}
use Rattle.blk_records.specs.Tables.{row_by}
use Rattle.blk_records.specs.Texts.{rows_text}
use Rattle.blk_records.proofs.DraftLemmas.{two_first, rows_text-append}
use Rattle.blk_records.proofs.ClaimLaws.{rows_are}
use Rattle.text_output.specs.Drafts.{draft_text}
use Rattle.blk_records.proofs.certificate.certificate_text.Goals as goal

pub returns : goal.returns
returns c =
    let certificate = c.args.certificate.now in
    let commands = c.as_slice-commands.ensures.value in
    let rounds = c.as_slice-rounds.ensures.value in
    let title = title_by CERTIFICATE counted_numbers (CERTIFICATE.latest, (certificate.depth, length certificate.commands.items)) in
    let bound = bound_row certificate.bound in
    let lines = map (row_by served_cells) (zip certificate.commands.items certificate.rounds.items) in
    let first = two_first title (bound ∷ []) (draft_text c.new-draft.result) (draft_text c.push.new.draft) (draft_text c.push_bound.new.draft) c.new-draft.ensures (rw commands at c.in_ok-push.ensures.text) c.in_ok-push_bound.ensures.text in
    let all : draft_text c.push_schedule.new.draft ≡ rows_text ((title ∷ bound ∷ []) ++ lines) =
    rw (commands, rounds) at c.in_ok-push_schedule.ensures.text ∙ ap (λ (k : List ℕ). k ++ rows_text lines) first ∙ sym (rows_text-append (title ∷ bound ∷ []) lines) in
    rw (all ∙ ap rows_text (sym (rows_are (claimed certificate)))) at c.finish.ensures
