-- The kinds of jobs, a row for each: what text it gives, and why it fails.
use Rattle.std.specs.Prelude.{◌≡◌, ◌++◌, ◌∷◌, ⊤, ℕ, Bool, true, List, [], Option, codes}
use Rattle.blk_records.specs.Sources.{Row}
use Rattle.blk_records.specs.Commands.{CommandsFault}
use Rattle.blk_records.specs.Proof.{SpellsProof, ProofFault}
use Rattle.blk_records.specs.Schedule.{SpellsSchedule, ScheduleFault}
use Rattle.blk_text.specs.Script.{SpellsScript, ScriptFault}
use Rattle.blk_text.specs.TraceForm.{SpellsTrace, TraceTextFault}
use Rattle.blk_args.specs.CommandLine.{program_version}
use Rattle.blk_args.specs.declared.inputs.Running.TheVariants as running
use Rattle.blk_args.specs.declared.inputs.TextJob.{TextJob}
use Rattle.blk_args.specs.declared.inputs.TextJob.TheVariants as text_job
use Rattle.blk_args.specs.declared.words.Job.{Job}
use Rattle.blk_args.specs.declared.words.Job.TheVariants as job
use Rattle.blk_cli.specs.declared.failure.Failure.{Failure}
use Rattle.blk_cli.specs.declared.failure.Failure.TheVariants as failure
use Rattle.blk_cli.specs.Said.{Said, IsAlone}
use Rattle.blk_cli.specs.Inputs.{Of, FailsOver}
use Rattle.blk_cli.specs.Comparing.{IsRunText, HasNoRunText, TellsRun}
use Rattle.blk_cli.specs.OfTraces.{IsTellingText, IsTraceOutputFailure}
use Rattle.blk_cli.specs.Certificates.{SpellsList, IsSolved, IsOracleFailure, IsCheckText, IsBad}
use Rattle.blk_cli.specs.Drawing.{IsScheduleDrawn}
use Rattle.blk_cli.specs.Judging.{IsJudgedText, IsJudgeFailure, TellsEmpty}
use Rattle.blk_cli.specs.Importing.{IsCaptureWritten, IsCaptureFailure}
use Rattle.blk_cli.specs.Explaining.{IsTextExplained, IsExplainFailure}
use Rattle.blk_cli.specs.Tuning.{IsTrial, FailsToTry}
use Rattle.blk_cli.specs.Loading.{IsLoadOf, IsLoadFailure, SaysTimes}
use Rattle.blk_cli.specs.Unflushed.{TellsPlugs}

-- a job that answers a text alone
abbrev pub AnswersText : Job → Type 0
AnswersText (job.OfText (text_job.OfScript (running.Drawn l))) = ⊥
AnswersText (job.OfText (text_job.Judge e)) = ⊥
AnswersText (job.Tune t) = ⊥
AnswersText (job.Import i) = ⊥
AnswersText job.Explain = ⊥
AnswersText (job.Load sched l w true) = ⊥
AnswersText j = ⊤

-- a job whose answer is good, if it has one
abbrev pub AnswersGood : Job → Type 0
AnswersGood job.Explain = ⊥
AnswersGood j = ⊤

-- a job that asks its input for nothing
abbrev pub ReadsNothing : Job → Type 0
ReadsNothing job.Version = ⊤
ReadsNothing (job.Refuse r) = ⊤
ReadsNothing (job.Load sched l w t) = ⊤
ReadsNothing j = ⊥

-- the line with the program's name and version
abbrev pub version_line : List ℕ
version_line = codes "blk " ++ (program_version ++ 10 ∷ [])

-- the text that a job over a text gives of the records of its input, where these are known, and why it gives none, where the reader has
-- failed or hasn't
abbrev pub GivesText : TextJob → Option (List Row) → List ℕ → Type 0
GivesText (text_job.OfScript r) input text = Of SpellsScript (IsRunText r) input text
GivesText (text_job.OfTrace t) input text = Of SpellsTrace (IsTellingText t) input text
GivesText (text_job.OfList s) input text = Of SpellsList (IsSolved s) input text
GivesText (text_job.Check o) input text = Of SpellsProof (IsCheckText o) input text
GivesText (text_job.Judge e) input text = Of SpellsSchedule (IsJudgedText e) input text
GivesText text_job.Draw input text = Of SpellsSchedule IsScheduleDrawn input text

-- what is said beside it, of the same records
abbrev pub TellsOf : TextJob → Option (List Row) → Said → Type 0
TellsOf (text_job.OfScript r) input s = Of SpellsScript (TellsRun r) input s
TellsOf (text_job.Judge e) input s = Of SpellsSchedule TellsEmpty input s
TellsOf j input s = IsAlone s

abbrev pub HasNoText : TextJob → Option (List Row) → Bool → Failure → Type 0
HasNoText (text_job.OfScript r) input failed f = FailsOver SpellsScript ScriptFault (HasNoRunText r) input failed f
HasNoText (text_job.OfTrace t) input failed f = FailsOver SpellsTrace TraceTextFault (IsTraceOutputFailure t) input failed f
HasNoText (text_job.OfList s) input failed f = FailsOver SpellsList CommandsFault IsOracleFailure input failed f
HasNoText (text_job.Check o) input failed f = FailsOver SpellsProof ProofFault IsBad input failed f
HasNoText (text_job.Judge e) input failed f = FailsOver SpellsSchedule ScheduleFault IsJudgeFailure input failed f
HasNoText text_job.Draw input failed f = FailsOver SpellsSchedule ScheduleFault IsJudgeFailure input failed f

-- the answer of a job to its words and its input: the records and the bytes, where they are known; a refusal has none
abbrev pub GivesAnswer : List (List ℕ) → Job → Option (List Row) → Option (List ℕ) → Said → Type 0
GivesAnswer words job.Version input bytes s = (s.text ≡ version_line) × IsAlone s
GivesAnswer words (job.OfText j) input bytes s = GivesText j input s.text × TellsOf j input s
GivesAnswer words (job.Tune t) input bytes s = Of SpellsScript (IsTrial words t) input s.text × Of SpellsScript TellsPlugs input s
GivesAnswer words (job.Import i) input bytes s = IsCaptureWritten words i bytes s
GivesAnswer words (job.Refuse r) input bytes s = ⊥
GivesAnswer words job.Explain input bytes s = IsTextExplained bytes s
GivesAnswer words (job.Load sched l w t) input bytes s = IsLoadOf sched w l s.text × SaysTimes t s

-- and why it has none
abbrev pub HasNoAnswer : List (List ℕ) → Job → Option (List Row) → Option (List ℕ) → Bool → Failure → Type 0
HasNoAnswer words job.Version input bytes failed f = f ≡ failure.Memory
HasNoAnswer words (job.OfText j) input bytes failed f = HasNoText j input failed f
HasNoAnswer words (job.Tune t) input bytes failed f = FailsToTry words input failed f
HasNoAnswer words (job.Import i) input bytes failed f = IsCaptureFailure words i bytes failed f
HasNoAnswer words (job.Refuse r) input bytes failed f = f ≡ failure.Words r
HasNoAnswer words job.Explain input bytes failed f = IsExplainFailure failed f
HasNoAnswer words (job.Load sched l w t) input bytes failed f = IsLoadFailure sched l f
