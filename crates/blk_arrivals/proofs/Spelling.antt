-- The text of a script is that of its records.
use Rattle.std.proofs.Common.{◌≡◌, ◌∙◌, ℕ, List, [], ◌∷◌, ◌++◌, get_or, map, refl, sym, ap, append-nil, arith}
use Rattle.csv.specs.Reading.{default_config, records, strip_bom}
use Rattle.blk_records.specs.Sources.{Row}
use Rattle.blk_records.specs.Reads.{with_next}
use Rattle.blk_records.specs.Texts.{rows_text}
use Rattle.blk_records.proofs.DraftLemmas.{rows_text-append, two_first}
use Rattle.blk_records.proofs.Each.{rows_map}
use Rattle.text_grammar.specs.Parts.{all_rows}
use Rattle.blk_records.specs.Titles.{title_by}
use Rattle.blk_text.specs.Script.{Scripted, IsScript, IsScriptOf, IsLineOf, SpellsVersion, script_rows, step, title_numbers, title_of}
use Rattle.blk_text.specs.declared.script.TheConstants.{SCRIPT}
use Rattle.blk_text.specs.SetupRecord.{setup_row}
use Rattle.blk_text.specs.declared.setup.TheConstants.{LATEST}
use Rattle.blk_text.proofs.ScriptLaws.{read_back_is}
use Rattle.blk_text.specs.declared.script.Line.{Line}
use Rattle.blk_text.specs.declared.script.Line.TheVariants as line
use Rattle.blk_text.specs.StepRecords.{step_row}

-- the first record of a script
abbrev pub script_title : Scripted → Row
script_title s = title_by SCRIPT title_numbers (LATEST, title_of s)

row_is : (s : Scripted) (l : Line) → (step LATEST s.setup.hw s.submitters).rows_of l ≡ step_row l ∷ []
row_is s (line.Bio b) = refl
row_is s l = refl

-- the records of a script, one by one
pub rows_are : (s : Scripted) → script_rows LATEST s ≡ script_title s ∷ setup_row s.setup ∷ map step_row s.lines
rows_are s =
    let lines : all_rows (λ _. step LATEST s.setup.hw s.submitters) with_next [] s.lines ≡ map step_row s.lines = rows_map (step LATEST s.setup.hw s.submitters) step_row (row_is s) [] s.lines in
    ap (λ (rows : List Row). script_title s ∷ setup_row s.setup ∷ rows) (append-nil (all_rows (λ _. step LATEST s.setup.hw s.submitters) with_next [] s.lines) ∙ lines)

stands : (l : Line) → IsLineOf LATEST l
stands (line.Depth d) = omega arith
stands l = tt

pub is_latest : (s : Scripted) → IsScript s → IsScriptOf LATEST s
is_latest s h = record {
  is_version = (omega arith, omega arith);
  tags = h.title.depth.1;
  steps = λ k d l. stands (get_or s.lines k d);
}

pub text_spells : (s : Scripted) (text : List ℕ) → IsScript s → text ≡ rows_text (script_rows LATEST s) → SpellsVersion LATEST (records default_config (strip_bom text)) s
text_spells s text h is = rw is (read_back_is LATEST s h (is_latest s h))

-- a title, a setup, and the records of steps
pub three_first : (a b : Row) (cs : List Row) (none one two three : List ℕ) → none ≡ [] → one ≡ none ++ rows_text (a ∷ []) → two ≡ one ++ rows_text (b ∷ []) → three ≡ two ++ rows_text cs → three ≡ rows_text (a ∷ b ∷ cs)
three_first a b cs none one two three e p q r = r ∙ ap (λ (k : List ℕ). k ++ rows_text cs) (two_first a (b ∷ []) none one two e p q) ∙ sym (rows_text-append (a ∷ b ∷ []) cs)
