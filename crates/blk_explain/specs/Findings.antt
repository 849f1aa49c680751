-- What is found in a text, as the reader of its form finds it.
use Rattle.std.specs.Prelude.{◌≡◌, ◌-◌, ℕ, List, [], get_or}
use Rattle.csv.specs.Reading.{default_config, records, strip_bom}
use Rattle.edd_commands.specs.declared.Command.{Command}
use Rattle.blk_trace.specs.Traces.{Traced}
use Rattle.blk_records.specs.Sources.{Row}
use Rattle.blk_records.specs.Commands.{SpellsCommands, CommandsFault}
use Rattle.blk_records.specs.Certificate.{Claim, SpellsClaim, ClaimFault}
use Rattle.blk_records.specs.OnTime.{OnTimeClaim, SpellsOnTime, OnTimeClaimFault}
use Rattle.blk_records.specs.Schedule.{ScheduleView, SpellsSchedule, ScheduleFault}
use Rattle.blk_records.specs.declared.fault.TextReason.{TextReason}
use Rattle.blk_capture.specs.declared.record.Record.{Record}
use Rattle.blk_capture_text.specs.Captures.{SpellsCapture, CaptureTextFault}
use Rattle.blk_text.specs.Script.{Scripted, SpellsScript, ScriptFault}
use Rattle.blk_text.specs.TraceForm.{SpellsTrace, TraceTextFault}
use Rattle.blk_explain.specs.Forms.{form_name}
use Rattle.blk_explain.specs.declared.forms.TextForm.{TextForm}
use Rattle.blk_explain.specs.declared.forms.TextForm.TheVariants as form
use Rattle.blk_explain.specs.declared.findings.Finding.{Finding}
use Rattle.blk_explain.specs.declared.findings.Finding.TheVariants as finding

-- the records of a text
abbrev pub rows_of : List ℕ → List Row
rows_of bytes = records default_config (strip_bom bytes)

-- the record of this number, from 1 on, without fields where there is none
abbrev pub row_at : List Row → ℕ → Row
row_at rows n = get_or rows (n - 1) []

-- what the first record begins with
abbrev pub name_in : List Row → List ℕ
name_in rows = get_or (row_at rows 1) 0 []

-- the records spell a text of this form
abbrev pub IsText : TextForm → List Row → Type 0
IsText form.Commands rows = (depth : ℕ) × (commands : List Command) × SpellsCommands rows depth commands
IsText form.Certificate rows = (c : Claim) × SpellsClaim rows c
IsText form.OnTime rows = (c : OnTimeClaim) × SpellsOnTime rows c
IsText form.Schedule rows = (s : ScheduleView) × SpellsSchedule rows s
IsText form.Capture rows = (all : List Record) × SpellsCapture rows all
IsText form.Script rows = (s : Scripted) × SpellsScript rows s
IsText form.Trace rows = (t : Traced) × SpellsTrace rows t

-- the first fault of a text of this form
abbrev pub FaultOf : TextForm → List Row → ℕ → TextReason → Type 0
FaultOf form.Commands = CommandsFault
FaultOf form.Certificate = ClaimFault
FaultOf form.OnTime = OnTimeClaimFault
FaultOf form.Schedule = ScheduleFault
FaultOf form.Capture = CaptureTextFault
FaultOf form.Script = ScriptFault
FaultOf form.Trace = TraceTextFault

-- what is found: by the name that the first record begins with, what the reader of that form finds
abbrev pub IsFound : List Row → Finding → Type 0
IsFound rows finding.Untitled = (f : TextForm) → ¬ (name_in rows ≡ form_name f)
IsFound rows (finding.Good found) = (name_in rows ≡ form_name found) × IsText found rows
IsFound rows (finding.Faulty found fault) = (name_in rows ≡ form_name found) × FaultOf found rows fault.at fault.why
