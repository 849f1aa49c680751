use Rattle.std.proofs.Common.{◌≡◌, ◌∙◌, List, ℕ, IfOk, map, sym, ap}
use Rattle.std.proofs.lemmas.Result.{IfOk-weaker}
use Rattle.csv.specs.Reading.{default_config, records, strip_bom}
use Rattle.text_output.specs.Drafts.{draft_text}
use Rattle.blk_records.specs.Texts.{rows_text}
use Rattle.blk_text.specs.Script.{scripted, script_rows, SpellsVersion}
use Rattle.blk_text.specs.SetupRecord.{setup_row}
use Rattle.blk_text.specs.declared.setup.TheConstants.{LATEST}
use Rattle.blk_text.specs.StepRecords.{step_row}
use Rattle.blk_arrivals.proofs.Spelling.{script_title, rows_are, text_spells, three_first}
use Rattle.blk_arrivals.proofs.text.script_text.Goals as goal
use Rattle.blk_arrivals.proofs.text.script_text.Goals.{After-finish}

written : (c : After-finish) → IfOk c.finish.result (λ v. v.items ≡ rows_text (script_rows LATEST (scripted c.args.script.now)))
written c =
    let s = scripted c.args.script.now in
    let all : draft_text c.push_lines.new.draft ≡ rows_text (script_rows LATEST s) =
    three_first (script_title s) (setup_row s.setup) (map step_row s.lines) (draft_text c.new-draft.result) (draft_text c.push.new.draft) (draft_text c.push_setup.new.draft) (draft_text c.push_lines.new.draft) c.new-draft.ensures
    (rw (c.depth.ensures.value, c.hw.ensures.value) at c.in_ok-push.ensures.text) c.in_ok-push_setup.ensures.text (rw c.as_slice.ensures.value at c.in_ok-push_lines.ensures)
    ∙ ap rows_text (sym (rows_are s)) in
    rw all at c.finish.ensures

pub returns-clause-text : goal.returns-clause-text
returns-clause-text c = written c

pub returns-clause-spells : goal.returns-clause-spells
returns-clause-spells c =
    let s = scripted c.args.script.now in
    IfOk-weaker c.finish.result (λ v. v.items ≡ rows_text (script_rows LATEST s)) (λ v. SpellsVersion LATEST (records default_config (strip_bom v.items)) s) (λ v e. text_spells s v.items c.requires e) (written c)
