-- How a run of the program ends: its status, what stands on standard output, and what is said beside it or of why there is nothing.
use Rattle.std.specs.Prelude.{◌≡◌, ◌⊎◌, ◌++◌, ◌∷◌, [], ⊤, codes, ℕ, Bool, true, false, if◌then◌else◌, List, Option, None, Some, Result, Ok, Err, String, map, string_bytes}
use Rattle.text_output.specs.declared.output.Output.{Output}
use Rattle.text_output.specs.Outputs.{Stream, IsWritten, IsCut, stream_of}
use Rattle.blk_records.specs.Sources.{Row, Source}
use Rattle.blk_records.specs.Names.{text_reason_name}
use Rattle.blk_records.specs.declared.fault.TextFault.{TextFault}
use Rattle.blk_records.specs.declared.fault.TextReason.{TextReason}
use Rattle.blk_records.specs.declared.fault.TextReason.TheVariants as why
use Rattle.blk_args.specs.declared.words.Job.{Job}
use Rattle.blk_args.specs.Asked.{Asks, AreFaulty, NameNone}
use Rattle.blk_schedulers.specs.declared.Loaded.{Loaded}
use Rattle.blk_schedulers.specs.declared.Unsettled.{Unsettled}
use Rattle.blk_schedulers.specs.declared.numbers.Load.{Load}
use Rattle.blk_schedulers.specs.declared.sched.Sched.{Sched}
use Rattle.blk_args.specs.declared.words.Job.TheVariants as job
use Rattle.blk_cli.specs.declared.Answered.{Answered}
use Rattle.blk_cli.specs.declared.Ended.{Ended}
use Rattle.blk_cli.specs.declared.NoText.{NoText}
use Rattle.blk_cli.specs.declared.NoText.TheVariants as none
use Rattle.blk_cli.specs.declared.failure.Failure.{Failure}
use Rattle.blk_cli.specs.declared.failure.Failure.TheVariants as failure
use Rattle.blk_cli.specs.Lines.{more_line, status_of, write_fault, LineOn, OwnLine}
use Rattle.blk_args.specs.declared.words.Import.{Import}
use Rattle.blk_args.specs.declared.words.Kept.{Kept}
use Rattle.blk_capture_text.specs.declared.source.UnreadCapture.TheVariants as unread
use Rattle.blk_cli.specs.Importing.{IsImportInputFailure, IsSummaryInputFailure, IsCaptureFailure}
use Rattle.blk_cli.specs.Loading.{IsTextOfRun, IsFailureOfRun}
use Rattle.blk_cli.specs.Said.{Said, said_of}
use Rattle.blk_cli.specs.Gives.{GivesAnswer, HasNoAnswer, AnswersText, AnswersGood, ReadsNothing}

-- the words ask for a job that answers this
abbrev pub Answers : List (List ℕ) → Option (List Row) → Option (List ℕ) → Said → Type 0
Answers words input bytes s = (j : Job) × Asks words j × GivesAnswer words j input bytes s

-- they ask for nothing but what is good
abbrev pub AskForGood : List (List ℕ) → Type 0
AskForGood words = (j : Job) → Asks words j → AnswersGood j

-- and for nothing but texts alone
abbrev pub AskForTexts : List (List ℕ) → Type 0
AskForTexts words = (j : Job) → Asks words j → AnswersText j

-- they ask for nothing that needs the input: for jobs that read none of it, or for no job at all
abbrev pub AskForNoInput : List (List ℕ) → Type 0
AskForNoInput words = (j : Job) → Asks words j → ReadsNothing j

-- of some faults of a text more is said than their name: of a title that is another, and of a text that is too long
abbrev pub says_more : TextReason → Bool
says_more why.Title = true
says_more why.TooLong = true
says_more w = false

-- a failure that is the fault of a text
abbrev pub IsOfText : Failure → TextFault → Type 0
IsOfText f fault = (f ≡ failure.Text fault) ⊎ (f ≡ failure.Unread (unread.Text fault))

-- what is said of a failure: itself, or that memory ran out; or, of such a fault, more than that
abbrev pub IsFailureOf : Failure → NoText → Type 0
IsFailureOf f (none.Failure g) = (g ≡ f) ⊎ (g ≡ failure.Memory)
IsFailureOf f (none.Told fault text) = IsOfText f fault × (says_more fault.why ≡ true)
IsFailureOf f n = ⊥

-- why a job has no answer
abbrev pub IsWithoutAnswer : List (List ℕ) → Job → Option (List Row) → Option (List ℕ) → Bool → NoText → Type 0
IsWithoutAnswer words j input bytes failed n = (f : Failure) × HasNoAnswer words j input bytes failed f × IsFailureOf f n

abbrev pub IsImportNoText : Kept → List (List ℕ) → Import → Option (List ℕ) → Bool → NoText → Type 0
IsImportNoText k words i bytes failed n = (f : Failure) × IsImportInputFailure k words i bytes failed f × IsFailureOf f n

abbrev pub IsSummaryNoText : Import → Option (List ℕ) → Bool → NoText → Type 0
IsSummaryNoText i bytes failed n = (f : Failure) × IsSummaryInputFailure i bytes failed f × IsFailureOf f n

abbrev pub IsCaptureUnwritten : List (List ℕ) → Import → Option (List ℕ) → Bool → NoText → Type 0
IsCaptureUnwritten words i bytes failed n = (f : Failure) × IsCaptureFailure words i bytes failed f × IsFailureOf f n

-- or there is none: the job that they ask for fails, memory ran out before they were read, or they ask for nothing
abbrev pub IsWithout : List (List ℕ) → Option (List Row) → Option (List ℕ) → Bool → NoText → Type 0
IsWithout words input bytes failed (none.Failure f) = ((j : Job) × Asks words j × HasNoAnswer words j input bytes failed f) ⊎ (f ≡ failure.Memory)
IsWithout words input bytes failed (none.Told fault text) =
    (j : Job) × Asks words j × (f : Failure) × HasNoAnswer words j input bytes failed f × IsOfText f fault × (says_more fault.why ≡ true)
IsWithout words input bytes failed (none.Usage text) = AreFaulty words
IsWithout words input bytes failed none.Excluded = NameNone words

-- the status and the line then
abbrev pub status_without : NoText → ℕ
status_without (none.Failure f) = status_of f
status_without (none.Told fault text) = 1
status_without (none.Usage text) = 2
status_without none.Excluded = 2

-- the line on a fault of a text of which more is said than its name
abbrev pub line_told : TextFault → List ℕ → List ℕ
line_told fault text = more_line fault.at (text_reason_name fault.why) text

abbrev pub LineWithout : NoText → (List ℕ → Type 0) → Type 0
LineWithout (none.Failure f) P = LineOn f P
LineWithout (none.Told fault text) P = P (line_told fault text.items)
LineWithout (none.Usage text) P = P (string_bytes text)
LineWithout none.Excluded P = OwnLine P

-- a line was said whole; or its writer failed, and took a first part of it and nothing else
abbrev pub SaysLine : List ℕ → Stream → Stream → Bool → Type 0
SaysLine line old new true = IsWritten line old new
SaysLine line old new false = IsCut line old new

-- a run ended with this status and said this line
abbrev pub EndsSaying : ℕ → List ℕ → Stream → Stream → Ended → Type 0
EndsSaying status line old new ended = (ended.status ≡ status) × SaysLine line old new ended.said

-- with those of a failure; and with those of why there is nothing
abbrev pub EndsFailing : Failure → Stream → Stream → Ended → Type 0
EndsFailing f old new ended = (ended.status ≡ status_of f) × LineOn f (λ line. SaysLine line old new ended.said)

abbrev pub EndsWithout : NoText → Stream → Stream → Ended → Type 0
EndsWithout n old new ended = (ended.status ≡ status_without n) × LineWithout n (λ line. SaysLine line old new ended.said)

-- the status of an answer, by whether what was looked at is good
abbrev pub status_with : Bool → ℕ
status_with good = if good then 0 else 1

-- its note was said, where it has one
abbrev pub SaysBeside : Option (List ℕ) → Stream → Stream → Bool → Type 0
SaysBeside None old new said = (new ≡ old) × (said ≡ true)
SaysBeside (Some line) old new said = SaysLine line old new said

-- its text was written whole, and its note said; or the writer of the text failed, and took a first part of it and nothing else
abbrev pub EndsPut : Said → Stream → Stream → Stream → Stream → Ended → Type 0
EndsPut s old new faults_old faults_new ended =
    (IsWritten s.text old new × (ended.status ≡ status_with s.good) × SaysBeside s.note faults_old faults_new ended.said)
    ⊎ (IsCut s.text old new × EndsSaying 3 write_fault faults_old faults_new ended)

-- how a run ends, given its input and what both writers hold before and after: it wrote the text of its answer, or nothing at all
abbrev pub RunEnds : List (List ℕ) → Option (List Row) → Option (List ℕ) → Bool → Stream → Stream → Stream → Stream → Ended → Type 0
RunEnds words input bytes failed old new faults_old faults_new ended =
    ((s : Said) × Answers words input bytes s × EndsPut s old new faults_old faults_new ended)
    ⊎ ((n : NoText) × IsWithout words input bytes failed n × (new ≡ old) × EndsWithout n faults_old faults_new ended)

-- the same of words, of records that are read, and of writers, by what they hold
abbrev pub RunEndsOn : {W F A : Type 0} → (W → Option (List ℕ)) → (F → Option (List ℕ)) → List (String A) → Source → Source → Output W → Output W → Output F → Output F → Ended → Type 0
RunEndsOn held said words unread read old new faults_old faults_new ended =
    RunEnds (map string_bytes words) unread.left unread.bytes read.failed (stream_of held old) (stream_of held new) (stream_of said faults_old) (stream_of said faults_new) ended

-- what a job comes to where loads may end so: a load's text and its failure are those of the load that it asks for
abbrev pub HasRun : (Sched → Load → Result Loaded Unsettled → Type 0) → Job → Result Answered NoText → Type 0
HasRun ends_as (job.Load s l w t) (Ok a) = IsTextOfRun ends_as s l w a.text.items
HasRun ends_as (job.Load s l w t) (Err (none.Failure f)) = IsFailureOfRun ends_as s l f
HasRun ends_as (job.Load s l w t) (Err n) = ⊥
HasRun ends_as j r = ⊤

-- there is no job
abbrev pub IsAskedNothing : Result Answered NoText → Type 0
IsAskedNothing (Ok a) = ⊥
IsAskedNothing (Err (none.Failure f)) = f ≡ failure.Memory
IsAskedNothing (Err (none.Told fault text)) = ⊥
IsAskedNothing (Err n) = ⊤

-- that of the job that the words ask for; or there is none, since they ask for no job, or memory ran out before they were read
abbrev pub IsRunOf : (Sched → Load → Result Loaded Unsettled → Type 0) → List (List ℕ) → Result Answered NoText → Type 0
IsRunOf ends_as words r = ((j : Job) × Asks words j × HasRun ends_as j r) ⊎ IsAskedNothing r

-- a run ends with it
abbrev pub EndsAs : {W F : Type 0} → (W → Option (List ℕ)) → (F → Option (List ℕ)) → Result Answered NoText → Output W → Output W → Output F → Output F → Ended → Type 0
EndsAs held said (Ok a) old new faults_old faults_new ended =
    EndsPut (said_of a) (stream_of held old) (stream_of held new) (stream_of said faults_old) (stream_of said faults_new) ended
EndsAs held said (Err n) old new faults_old faults_new ended = (new ≡ old) × EndsWithout n (stream_of said faults_old) (stream_of said faults_new) ended
