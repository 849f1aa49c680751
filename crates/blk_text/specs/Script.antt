-- A script: a title, a setup, and a record for each step.
use Rattle.std.specs.Prelude.{◌≡◌, ◌≤◌, ◌<◌, ◌^◌, ℕ, List, [], ◌∷◌, length, All}
use Rattle.std.specs.Prelude.{Err}
use Rattle.blk_bio.specs.Bios.{Bio, IsBio, IsBioAnswer}
use Rattle.blk_bio.specs.declared.bio.BioFault.{BioFault}
use Rattle.blk_bio.specs.declared.limits.TheConstants.{MAX_QUEUES, MAX_SOFT_QUEUES, MAX_SOFT_DEPTH}
use Rattle.blk_trace.specs.Setups.{Setup}
use Rattle.csv.specs.Reading.{default_config, records, strip_bom}
use Rattle.blk_records.specs.Sources.{Row}
use Rattle.blk_records.specs.Texts.{rows_text}
use Rattle.blk_records.specs.Reads.{items_of}
use Rattle.blk_records.specs.Kinds.{row, row_below, StandsFrom, RowSaid, said_record}
use Rattle.blk_records.specs.Titles.{IsVersion, title_record}
use Rattle.blk_text.specs.SetupRecord.{IsWholeSetup, setup}
use Rattle.blk_text.specs.Versions.{most_tags}
use Rattle.blk_text.specs.declared.setup.TheConstants.{LATEST, WIDTH}
use Rattle.blk_records.specs.declared.fault.TextReason.{TextReason}
use Rattle.blk_records.specs.declared.fault.TextReason.TheVariants as why
use Rattle.text_grammar.specs.declared.Repeats.TheVariants as repeats
use Rattle.text_grammar.specs.Parts.{Part, then, tested, seen_as, Spells}
use Rattle.blk_trace.specs.declared.event.TheConstants.{MAX_TAGS}
use Rattle.blk_text.specs.StepKinds.{step_table}
use Rattle.blk_text.specs.declared.bios.TheConstants.{BIO}
use Rattle.blk_text.specs.declared.heads.TheConstants.{TICK, DONE, BACK, DEPTH}
use Rattle.blk_text.specs.declared.script.TheConstants.{FLUSH, DRAIN, STEP_ISSUE, RUN, MAX_RUN, MAX_STEPS, SCRIPT}
use Rattle.blk_text.specs.declared.script.Line.{Line}
use Rattle.blk_text.specs.declared.script.Line.TheVariants as line
use Rattle.blk_text.specs.declared.script.Script.{Script}

-- title: blk-script, version, depth, hardware queues, soft depth, submitters
pub record Title : Type 0 where
  pub depth : ℕ
  pub hw : ℕ
  pub soft_depth : ℕ
  pub submitters : ℕ

abbrev pub title_numbers : List (Title → ℕ)
title_numbers = (λ t. t.depth) ∷ (λ t. t.hw) ∷ (λ t. t.soft_depth) ∷ (λ t. t.submitters) ∷ []

-- the row of a step, for these numbers of hardware queues and submitters, and what it says
abbrev pub step_said : (hw submitters : ℕ) → Line → RowSaid
step_said hw submitters (line.Bio b) = (row_below submitters BIO, (b.id.submitter, (b.id.serial, (b.dir, (b.first, (b.sectors, tt))))))
step_said hw submitters (line.Flush submitter) = (row_below submitters FLUSH, (submitter, tt))
step_said hw submitters (line.Drain h) = (row_below hw DRAIN, (h, tt))
step_said hw submitters (line.Issue h tag) = (row_below hw STEP_ISSUE, (h, (tag, tt)))
step_said hw submitters (line.Done tag) = (row DONE, (tag, tt))
step_said hw submitters (line.Back tag) = (row BACK, (tag, tt))
step_said hw submitters (line.Depth depth) = (row DEPTH, (depth, tt))
step_said hw submitters line.Tick = (row TICK, tt)
step_said hw submitters (line.Run n) = (row RUN, (n, tt))

-- the bio of a step, if it has one, is a bio
abbrev pub IsRight : Line → Type 0
IsRight l = (b : Bio) → l ≡ line.Bio b → IsBio b

-- there is no such bio, for this reason
abbrev pub HasNoSuchBio : Line → ℕ → TextReason → Type 0
HasNoSuchBio l k w = (b : Bio) × (f : BioFault) × (l ≡ line.Bio b) × (k ≡ 1) × (w ≡ why.Bio f) × IsBioAnswer b.id b.dir b.first b.sectors (Err f)

-- the numbers of a step lie in their ranges, for these numbers of hardware queues and submitters
abbrev pub LineFits : ℕ → ℕ → Line → Type 0
LineFits hw submitters (line.Bio b) = (b.id.submitter < submitters) × (b.id.serial < 2 ^ 64) × IsBio b
LineFits hw submitters (line.Flush submitter) = submitter < submitters
LineFits hw submitters (line.Drain h) = h < hw
LineFits hw submitters (line.Issue h tag) = (h < hw) × (tag < MAX_TAGS)
LineFits hw submitters (line.Done tag) = tag < MAX_TAGS
LineFits hw submitters (line.Back tag) = tag < MAX_TAGS
LineFits hw submitters (line.Depth depth) = depth < 2 ^ 64
LineFits hw submitters line.Tick = Unit {0}
LineFits hw submitters (line.Run n) = (1 ≤ n) × (n ≤ MAX_RUN)

-- a step stands in a version, however many hardware queues and submitters there are
abbrev pub IsLineOf : ℕ → Line → Type 0
IsLineOf version l = StandsFrom (step_said 1 1 l).0.since version

-- a title's numbers lie in their ranges, but for the least number of submitters
pub record IsTitle (version : ℕ) (t : Title) : Type 0 where
  pub depth : (1 ≤ t.depth) × (t.depth ≤ most_tags version)
  pub hw : (1 ≤ t.hw) × (t.hw ≤ MAX_QUEUES)
  pub soft_depth : (1 ≤ t.soft_depth) × (t.soft_depth ≤ MAX_SOFT_DEPTH)
  pub submitters : (1 ≤ t.submitters) × (t.submitters ≤ MAX_SOFT_QUEUES)

-- a script: its setup, its soft depth and submitters, and its steps
pub record Scripted : Type 0 where
  pub setup : Setup
  pub soft_depth : ℕ
  pub submitters : ℕ
  pub lines : List Line

-- a script as its records see it
abbrev pub scripted : Script → Scripted
scripted s = record { setup = s.setup; soft_depth = s.soft_depth; submitters = s.submitters; lines = s.lines.items }

-- the numbers of a script's title
abbrev pub title_of : Scripted → Title
title_of s = record { depth = s.setup.depth; hw = s.setup.hw; soft_depth = s.soft_depth; submitters = s.submitters }

-- the numbers of a script lie in their ranges, as the latest version has them
pub record IsScript (s : Scripted) : Type 0 where
  pub title : IsTitle LATEST (title_of s)
  pub enough : s.setup.hw ≤ s.submitters
  pub setup : IsWholeSetup s.setup
  pub lines : All (LineFits s.setup.hw s.submitters) s.lines
  pub short : length s.lines ≤ MAX_STEPS

-- a script can be spelled in a version: it has no more tags than that, and no other steps
pub record IsScriptOf (version : ℕ) (s : Scripted) : Type 0 where
  pub is_version : IsVersion LATEST version
  pub tags : s.setup.depth ≤ most_tags version
  pub steps : All (IsLineOf version) s.lines

-- a title whose numbers lie in their own ranges
abbrev pub plain_title : Part Row TextReason (ℕ × Title)
plain_title = title_record SCRIPT title_numbers IsTitle

-- as many submitters as hardware queues at least
abbrev pub IsEnough : ℕ × Title → Type 0
IsEnough t = t.1.hw ≤ t.1.submitters

-- fewer submitters are out of range too, once the title's own ranges hold
abbrev pub TooFew : ℕ × Title → ℕ → TextReason → Type 0
TooFew t k w = (k ≡ 1) × (w ≡ why.Range) × (t.1.submitters < t.1.hw)

abbrev pub script_title_part : Part Row TextReason (ℕ × Title)
script_title_part = tested plain_title IsEnough TooFew

-- a step by its table
abbrev pub plain_step : ℕ → ℕ → ℕ → Part Row TextReason Line
plain_step version hw submitters = seen_as (step_said hw submitters) (said_record why.Count WIDTH (step_table hw submitters) version)

-- a step of a version, for these numbers of hardware queues and submitters
abbrev pub step : ℕ → ℕ → ℕ → Part Row TextReason Line
step version hw submitters = tested (plain_step version hw submitters) IsRight HasNoSuchBio

-- a setup and steps, at most `MAX_STEPS`
abbrev pub script_body : ℕ × Title → Part Row TextReason (Setup × List Line)
script_body t = then (setup t.1.depth t.1.hw) (λ s. items_of (repeats.AtMost MAX_STEPS) (λ _. step t.0 t.1.hw t.1.submitters))

-- a title, a setup and steps
abbrev pub script_form : Part Row TextReason ((ℕ × Title) × (Setup × List Line))
script_form = then script_title_part script_body

-- what the records of a script of a version tell
abbrev pub script_value : ℕ → Scripted → (ℕ × Title) × (Setup × List Line)
script_value version s = ((version, title_of s), (s.setup, s.lines))

-- the records of a script in a version
abbrev pub script_rows : ℕ → Scripted → List Row
script_rows version s = script_form.rows_of (script_value version s)

-- the records spell this script in this version
abbrev pub SpellsVersion : ℕ → List Row → Scripted → Type 0
SpellsVersion version rows s = Spells script_form rows (script_value version s)

-- the records spell this script, in one of the versions
abbrev pub SpellsScript : List Row → Scripted → Type 0
SpellsScript rows s = (version : ℕ) × SpellsVersion version rows s

-- the first fault of a script
abbrev pub ScriptFault : List Row → ℕ → TextReason → Type 0
ScriptFault = script_form.Wrong

-- the records spell one script at most, in one version
abbrev pub OneScript : List Row → Type 0
OneScript rows = (version other : ℕ) → (s t : Scripted) → SpellsVersion version rows s → SpellsVersion other rows t → (version ≡ other) × (s ≡ t)

-- the text of a script in a version reads back as records that spell it
abbrev pub ScriptReadsBack : ℕ → Scripted → Type 0
ScriptReadsBack version s = IsScript s → IsScriptOf version s → SpellsVersion version (records default_config (strip_bom (rows_text (script_rows version s)))) s
