-- What is written of a capture, what is said of what that leaves out, its arrivals as a script, and why there is nothing.
use Rattle.std.specs.Prelude.{◌≡◌, ◌⊎◌, ◌++◌, ◌∷◌, ◌≤◌, ◌==◌, ◌&&◌, ⊤, ℕ, Bool, true, false, if◌then◌else◌, List, [], map, Option, None, Some, IfSome, unwrap_or}
use Rattle.std.specs.Option.{option_map_or}
use Rattle.edd_commands.specs.Order.{IsFirstFault}
use Rattle.blk_arrivals.specs.Scripts.{script_of, script_rules}
use Rattle.blk_arrivals.specs.declared.terms.ArrivalsFault.TheVariants as arrivals
use Rattle.blk_arrivals.specs.declared.terms.TheConstants.{USUAL_DEPTH}
use Rattle.blk_arrivals.specs.declared.terms.Terms.{Terms}
use Rattle.answer.specs.Lines.{answer_lines}
use Rattle.answer.specs.declared.answer.Part.{Part}
use Rattle.blk_cli.specs.Certificates.{IsMostText}
use Rattle.blk_cli.specs.Forms.{written_in}
use Rattle.blk_schedulers.specs.declared.form.Form.{Form}
use Rattle.edd_commands.specs.declared.Command.{Command}
use Rattle.blk_capture.specs.Counting.{AreInRounds}
use Rattle.blk_capture.specs.Requests.{times_of}
use Rattle.blk_bio.specs.declared.bio.Dir.TheVariants.{Read, Write}
use Rattle.blk_blame.specs.Blamed.{IsBlameAnswer, IsEachAnswer}
use Rattle.blk_blame.specs.Drawing.{IsBlamePicture}
use Rattle.blk_blame.specs.TightestSaid.{IsTightestAnswer}
use Rattle.blk_blame.specs.declared.grouped.GroupedBy.{GroupedBy}
use Rattle.blk_blame.specs.declared.grouped.GroupedBy.TheVariants as grouped
use Rattle.blk_blame.specs.declared.tightest.OnTimeTarget.{OnTimeTarget}
use Rattle.blk_capture.specs.Summaries.{IsMostInFlight}
use Rattle.blk_capture.specs.declared.fates.Fate.{Fate}
use Rattle.blk_capture.specs.declared.record.Record.{Record}
use Rattle.blk_capture.specs.declared.requests.CapturedBio.{CapturedBio}
use Rattle.blk_capture.specs.declared.requests.Entry.{Entry}
use Rattle.blk_capture.specs.declared.requests.Entry.TheVariants as entry
use Rattle.blk_capture.specs.declared.requests.CapturedRequest.{CapturedRequest}
use Rattle.blk_capture_text.specs.Counts.{records_counted}
use Rattle.blk_capture_text.specs.Imports.{IsImport, IsImportFault, first_time}
use Rattle.blk_capture_text.specs.declared.counts.RecordCounts.{RecordCounts}
use Rattle.blk_capture_text.specs.Shown.{IsShown, IsSummaryAnswer}
use Rattle.blk_capture_text.specs.Streaming.{HasStreamed}
use Rattle.blk_capture_text.specs.Streams.{IsCaptureTold, IsStreamFault}
use Rattle.blk_capture_text.specs.declared.lines.StreamedCapture.{StreamedCapture}
use Rattle.blk_capture_text.specs.SummaryText.{counts_of, notice_line}
use Rattle.blk_capture_text.specs.declared.importing.ImportAsked.{ImportAsked}
use Rattle.blk_capture_text.specs.declared.numbers.UnusedCounts.{UnusedCounts}
use Rattle.blk_capture_text.specs.declared.shown.ShownImport.TheVariants as shown
use Rattle.blk_records.specs.Reads.{IsOutside}
use Rattle.blk_records.specs.Texts.{rows_text}
use Rattle.blk_replayed.specs.Replays.{AreUnreplayed}
use Rattle.blk_replayed.specs.Text.{WantedReplays, IsReplaysText}
use Rattle.blk_replayed.specs.Shown.{IsReplayScheduleText, IsReplayTableText}
use Rattle.blk_schedulers.specs.Made.{IsSchedFault}
use Rattle.blk_schedulers.specs.declared.plans.Plan.{Plan}
use Rattle.blk_schedulers.specs.declared.sched.SchedFault.{SchedFault}
use Rattle.blk_text.specs.Script.{IsScript, script_rows}
use Rattle.blk_text.specs.declared.setup.TheConstants.{LATEST}
use Rattle.blk_args.specs.Asked.{AsksPlans}
use Rattle.blk_args.specs.Times.{MAX_NUMBER}
use Rattle.blk_args.specs.declared.blaming.BlameBy.{BlameBy}
use Rattle.blk_args.specs.declared.blaming.BlameBy.TheVariants as by_whom
use Rattle.blk_args.specs.declared.blaming.Blaming.{Blaming}
use Rattle.blk_args.specs.declared.blaming.ShownBlame.{ShownBlame}
use Rattle.blk_args.specs.declared.blaming.ShownBlame.TheVariants as shown_blame
use Rattle.blk_args.specs.declared.blaming.TightestAsked.{TightestAsked}
use Rattle.blk_args.specs.declared.words.Import.{Import}
use Rattle.blk_args.specs.declared.replaying.GridReplaying.{GridReplaying}
use Rattle.blk_args.specs.declared.replaying.Replaying.{Replaying}
use Rattle.blk_args.specs.declared.replaying.ShownReplay.{ShownReplay}
use Rattle.blk_args.specs.declared.replaying.ShownReplay.TheVariants as shown_as
use Rattle.blk_args.specs.declared.words.Kept.{Kept}
use Rattle.blk_args.specs.declared.words.Kept.TheVariants as kept
use Rattle.blk_args.specs.declared.words.Written.{Written}
use Rattle.blk_args.specs.declared.words.Written.TheVariants as written
use Rattle.blk_capture_text.specs.Source.{IsCaptureRead, IsCaptureUnread}
use Rattle.blk_capture_text.specs.declared.source.CaptureRead.{CaptureRead}
use Rattle.blk_capture_text.specs.declared.source.Printed.{Printed}
use Rattle.blk_capture.specs.declared.requests.Matched.{Matched}
use Rattle.blk_cli.specs.Explaining.{IsExplainFailure}
use Rattle.blk_cli.specs.Notes.{IsDoubtTold, IsSourceTold}
use Rattle.blk_cli.specs.Said.{Said, IsAlone}
use Rattle.blk_cli.specs.declared.importing.TheConstants.{USUAL_TAGS}
use Rattle.blk_cli.specs.declared.failure.Failure.{Failure}
use Rattle.blk_cli.specs.declared.failure.Failure.TheVariants as failure

-- what is asked of the import
abbrev pub entry_asked : Bool → Entry
entry_asked true = entry.Queue
entry_asked false = entry.Insert

abbrev pub most_asked : Option ℕ → ℕ
most_asked None = MAX_NUMBER
most_asked (Some n) = n

abbrev pub asked_of : Import → ImportAsked
asked_of i = record {
  options = record { read_expire = i.read_expire; write_expire = i.write_expire; entry = entry_asked i.from_queue };
  skip = i.skip;
  first = most_asked i.first;
}

-- how its arrivals become a script
abbrev pub terms_of : Import → ℕ → Option ℕ → Terms
terms_of i round depth = record { round = round; depth = option_map_or (λ n. n) depth USUAL_DEPTH; read_expire = i.read_expire; write_expire = i.write_expire }

-- the line on what was passed over or not matched, where there is any
abbrev pub line_on : UnusedCounts → Option (List ℕ)
line_on c = if (c.passed == 0) && (c.unmatched == 0) then None else Some (notice_line c)

-- a note behind what is told before it
abbrev pub noted : List ℕ → Option (List ℕ) → Option (List ℕ)
noted [] note = note
noted (c ∷ told) note = Some ((c ∷ told) ++ unwrap_or note [])

-- how many requests the device takes at once
abbrev pub tags_asked : Option ℕ → ℕ
tags_asked tags = unwrap_or tags USUAL_TAGS

-- what is dubious of the requests is said before what is said else
pub record IsNoteOf (tags : ℕ) (line : Option (List ℕ)) (records : List Record) (requests : List CapturedRequest) (fates : List Fate) (note : Option (List ℕ)) : Type 0 where
  pub most : ℕ
  pub is_most : IsMostInFlight requests most
  pub told : List ℕ
  pub doubts : IsDoubtTold records requests most tags (counts_of fates).unmatched told
  pub is : note ≡ noted told line

-- the requests of a capture that are taken, and what is said beside what is written of them
pub record IsTakenOf (i : Import) (records : List Record) (requests : List CapturedRequest) (note : Option (List ℕ)) : Type 0 where
  pub bios : List CapturedBio
  pub fates : List Fate
  pub absorbed : ℕ
  pub left_out : ℕ
  pub is_import : IsImport records (asked_of i) requests bios fates absorbed left_out
  pub is_note : IsNoteOf (tags_asked i.source.tags) (line_on (counts_of fates)) records requests fates note

-- this is written of them
pub record IsMadeOf (writes : List CapturedRequest → List ℕ → Type 0) (i : Import) (records : List Record) (s : Said) : Type 0 where
  pub requests : List CapturedRequest
  pub taken : IsTakenOf i records requests s.note
  pub is_text : writes requests s.text
  pub good : s.good ≡ true

-- too many requests would be taken, or memory ran out
abbrev pub IsOutputFailure : Import → List Record → Failure → Type 0
IsOutputFailure i records (failure.Import f) = IsImportFault records (asked_of i) f
IsOutputFailure i records failure.Memory = ⊤
IsOutputFailure i records f = ⊥

-- by what the table of whose requests were late is put together, where there is one
abbrev pub grouped_by : BlameBy → Option GroupedBy
grouped_by by_whom.Process = Some grouped.Process
grouped_by by_whom.Processor = Some grouped.Processor
grouped_by by_whom.Nobody = None

-- what the late ones of requests are blamed on, each of them, and the certificate of how many can be on time, that of the commands that count them
abbrev pub IsWholeBlame : Blaming → ℕ → List CapturedRequest → List ℕ → Type 0
IsWholeBlame b begin requests text = (parts : List Part) × IsBlameAnswer (grouped_by b.by) b.most begin requests parts × (text ≡ written_in b.form parts)

abbrev pub IsEachBlame : Form → ℕ → List CapturedRequest → List ℕ → Type 0
IsEachBlame f begin requests text = (parts : List Part) × IsEachAnswer begin requests parts × (text ≡ written_in f parts)

pub record IsBlameCertificate (requests : List CapturedRequest) (text : List ℕ) : Type 0 where
  pub commands : List Command
  pub rounds : List ℕ
  pub counted : AreInRounds (map times_of requests) commands rounds
  pub certificate : IsMostText (1, commands) text

-- the least deadline of a direction's requests, which were due by the import
abbrev pub aim_by : Import → ℕ → Bool → OnTimeTarget
aim_by i share true = record { dir = Write; expire = i.write_expire; share = share }
aim_by i share false = record { dir = Read; expire = i.read_expire; share = share }

abbrev pub aim_of : Import → TightestAsked → OnTimeTarget
aim_of i asked = aim_by i asked.share asked.writes

abbrev pub IsTightestText : Form → OnTimeTarget → List CapturedRequest → List ℕ → Type 0
IsTightestText f aim requests text = (parts : List Part) × IsTightestAnswer requests aim parts × (text ≡ written_in f parts)

-- this of those that are taken, as is asked for, and what is said beside it
abbrev pub IsBlameText : ShownBlame → Blaming → Import → ℕ → List CapturedRequest → List ℕ → Type 0
IsBlameText shown_blame.Whole b i begin requests text = IsWholeBlame b begin requests text
IsBlameText shown_blame.Each b i begin requests text = IsEachBlame b.form begin requests text
IsBlameText shown_blame.Certificate b i begin requests text = IsBlameCertificate requests text
IsBlameText (shown_blame.Tightest asked) b i begin requests text = IsTightestText b.form (aim_of i asked) requests text
IsBlameText shown_blame.Picture b i begin requests text = IsBlamePicture begin requests text

abbrev pub IsBlamingText : Blaming → Import → ℕ → List CapturedRequest → List ℕ → Type 0
IsBlamingText b i begin requests text = IsBlameText b.shown b i begin requests text

-- a scheduler isn't made of its settings, for a reason like this, or memory ran out; or too many requests would be taken
abbrev pub IsNotReplayed : (SchedFault → Type 0) → Failure → Type 0
IsNotReplayed why (failure.Sched f) = why f
IsNotReplayed why failure.Memory = ⊤
IsNotReplayed why f = ⊥

abbrev pub IsReplayFailure : (SchedFault → Type 0) → Import → List Record → Failure → Type 0
IsReplayFailure why i records (failure.Sched f) = why f
IsReplayFailure why i records f = IsOutputFailure i records f

-- what is asked of replays under each scheduler, and under each setting of a grid, whose settings are shown with their expiries
abbrev pub each_wanted : Replaying → WantedReplays
each_wanted r = record { plans = r.plans; by = r.by; top = r.top; expiries = false; form = r.form }

abbrev pub grid_wanted : GridReplaying → List Plan → WantedReplays
grid_wanted g plans = record { plans = plans; by = g.by; top = g.top; expiries = true; form = g.form }

-- what is said of requests in replays of the grid that the words ask for, and why nothing is
abbrev pub IsGridText : List (List ℕ) → GridReplaying → List CapturedRequest → List ℕ → Type 0
IsGridText words g requests text = (plans : List Plan) × AsksPlans words plans × IsReplaysText (grid_wanted g plans) requests text

abbrev pub IsGridUnreplayed : List (List ℕ) → SchedFault → Type 0
IsGridUnreplayed words f = (plans : List Plan) × AsksPlans words plans × AreUnreplayed plans f

-- one replay of them, as a schedule or a table, whose times are from the first record on
abbrev pub IsOneReplayText : Plan → ShownReplay → List Record → List CapturedRequest → List ℕ → Type 0
IsOneReplayText p shown_as.Schedule records requests text = IsReplayScheduleText p requests text
IsOneReplayText p shown_as.Table records requests text = IsReplayTableText p (first_time records) requests text

-- its arrivals as a script: a text of records that spell it, and nothing beside it
pub record IsScripted (t : Terms) (records : List Record) (s : Said) : Type 0 where
  pub is_script : IsScript (script_of t records)
  pub is_text : s.text ≡ rows_text (script_rows LATEST (script_of t records))
  pub alone : IsAlone s

-- why they are none
abbrev pub IsScriptFailure : Terms → List Record → Failure → Type 0
IsScriptFailure t records (failure.Arrivals f) = (f ≡ arrivals.Memory) ⊎ IsFirstFault (script_rules t records) f
IsScriptFailure t records failure.Memory = ⊤
IsScriptFailure t records f = ⊥

-- what is written of a capture whose records are kept, by what is asked for in words, and why nothing is
abbrev pub IsImported : Kept → List (List ℕ) → Import → List Record → Said → Type 0
IsImported kept.Schedule words i records s = IsMadeOf (IsShown shown.Schedule records) i records s
IsImported kept.Table words i records s = IsMadeOf (IsShown shown.Table records) i records s
IsImported (kept.Script round depth) words i records s = IsScripted (terms_of i round depth) records s
IsImported (kept.Blame b) words i records s = IsMadeOf (IsBlamingText b i (first_time records)) i records s
IsImported (kept.Replay r) words i records s = IsMadeOf (IsReplaysText (each_wanted r)) i records s
IsImported (kept.Grid g) words i records s = IsMadeOf (IsGridText words g) i records s
IsImported (kept.Replayed p how) words i records s = IsMadeOf (IsOneReplayText p how records) i records s

abbrev pub IsImportFailure : Kept → List (List ℕ) → Import → List Record → Failure → Type 0
IsImportFailure (kept.Script round depth) words i records f = IsScriptFailure (terms_of i round depth) records f
IsImportFailure (kept.Replay r) words i records f = IsReplayFailure (AreUnreplayed r.plans) i records f
IsImportFailure (kept.Grid g) words i records f = IsReplayFailure (IsGridUnreplayed words) i records f
IsImportFailure (kept.Replayed p how) words i records f = IsReplayFailure (IsSchedFault p.sched) i records f
IsImportFailure k words i records f = IsOutputFailure i records f

-- what is said of where a capture comes from is said before the note
abbrev pub IsSaidFrom : Option Printed → List Record → Said → Said → Type 0
IsSaidFrom p records base s = (told : List ℕ) × IsSourceTold p records told × (s ≡ record base { note = noted told base.note })

abbrev pub SaysFrom : Option Printed → RecordCounts → Said → Said → Type 0
SaysFrom p counts base s = (rs : List Record) → counts ≡ records_counted rs → IsSaidFrom p rs base s

-- this is written of a capture that was read
pub record IsWrittenOf (k : Kept) (words : List (List ℕ)) (i : Import) (read : CaptureRead) (s : Said) : Type 0 where
  pub base : Said
  pub imported : IsImported k words i read.records.items base
  pub said : IsSaidFrom read.printed read.records.items base s

-- or nothing is, or memory ran out
abbrev pub IsReadCaptureFailure : Kept → List (List ℕ) → Import → CaptureRead → Failure → Type 0
IsReadCaptureFailure k words i read f = IsImportFailure k words i read.records.items f ⊎ (f ≡ failure.Memory)

-- bytes are a capture of the form that is asked for, or that its first lines tell, and this is written of it
pub record IsImportedOf (k : Kept) (words : List (List ℕ)) (i : Import) (bytes : List ℕ) (s : Said) : Type 0 where
  pub read : CaptureRead
  pub is_read : IsCaptureRead i.source.form i.source.device bytes read
  pub written : IsWrittenOf k words i read s

-- they are refused for their first fault
abbrev pub IsCaptureTextFailure : Import → List ℕ → Failure → Type 0
IsCaptureTextFailure i bytes (failure.Unread x) = IsCaptureUnread i.source.form i.source.device bytes x
IsCaptureTextFailure i bytes f = ⊥

-- or nothing is written of the capture that was read
pub record IsRefusedFrom (k : Kept) (words : List (List ℕ)) (i : Import) (bytes : List ℕ) (f : Failure) : Type 0 where
  pub read : CaptureRead
  pub is_read : IsCaptureRead i.source.form i.source.device bytes read
  pub refused : IsImportFailure k words i read.records.items f

abbrev pub IsImportBytesFailure : Kept → List (List ℕ) → Import → List ℕ → Failure → Type 0
IsImportBytesFailure k words i bytes f = IsCaptureTextFailure i bytes f ⊎ IsRefusedFrom k words i bytes f

-- the same of the bytes of the input, where these are known
pub record IsImportedFrom (k : Kept) (words : List (List ℕ)) (i : Import) (input : Option (List ℕ)) (s : Said) : Type 0 where
  pub bytes : List ℕ
  pub given : IfSome input (λ known. bytes ≡ known)
  pub of : IsImportedOf k words i bytes s

pub record IsRefusedInput (k : Kept) (words : List (List ℕ)) (i : Import) (input : Option (List ℕ)) (f : Failure) : Type 0 where
  pub bytes : List ℕ
  pub given : IfSome input (λ known. bytes ≡ known)
  pub of : IsImportBytesFailure k words i bytes f

-- or the reader failed, or memory ran out
abbrev pub IsImportInputFailure : Kept → List (List ℕ) → Import → Option (List ℕ) → Bool → Failure → Type 0
IsImportInputFailure k words i input failed f = IsExplainFailure failed f ⊎ IsRefusedInput k words i input f

-- its numbers are written, which have the line among them, and what is said beside them
pub record IsSummaryOf (i : Import) (records : List Record) (s : Said) : Type 0 where
  pub requests : List CapturedRequest
  pub bios : List CapturedBio
  pub fates : List Fate
  pub absorbed : ℕ
  pub left_out : ℕ
  pub is_import : IsImport records (asked_of i) requests bios fates absorbed left_out
  pub parts : List Part
  pub is_answer : IsSummaryAnswer records requests bios fates left_out parts
  pub is_text : s.text ≡ answer_lines parts
  pub is_note : IsNoteOf (tags_asked i.source.tags) None records requests fates s.note
  pub good : s.good ≡ true

pub record IsSummed (i : Import) (records : List Record) (printed : Option Printed) (s : Said) : Type 0 where
  pub base : Said
  pub summary_of : IsSummaryOf i records base
  pub said : IsSaidFrom printed records base s

abbrev pub SumsUp : Import → StreamedCapture → Said → Type 0
SumsUp i c s = (rs : List Record) → HasStreamed rs c.streamed → IsSummed i rs c.printed s

-- of the records that the bytes of the input tell, where these are known
pub record IsSummedFrom (i : Import) (input : Option (List ℕ)) (s : Said) : Type 0 where
  pub bytes : List ℕ
  pub given : IfSome input (λ known. bytes ≡ known)
  pub records : List Record
  pub printed : Option Printed
  pub told : IsCaptureTold i.source.form i.source.device bytes records printed
  pub summed : IsSummed i records printed s

-- or they have a first fault, the reader failed, or memory ran out
abbrev pub IsSummaryInputFailure : Import → Option (List ℕ) → Bool → Failure → Type 0
IsSummaryInputFailure i input failed (failure.Unread x) = IsStreamFault i.source.form i.source.device input failed x
IsSummaryInputFailure i input failed failure.Memory = ⊤
IsSummaryInputFailure i input failed f = ⊥

-- what is written of a capture by the bytes of the input, and why nothing is: in numbers or otherwise
abbrev pub IsWrittenAs : Written → List (List ℕ) → Import → Option (List ℕ) → Said → Type 0
IsWrittenAs written.Summary words i input s = IsSummedFrom i input s
IsWrittenAs (written.Kept k) words i input s = IsImportedFrom k words i input s

abbrev pub IsWrittenInputFailure : Written → List (List ℕ) → Import → Option (List ℕ) → Bool → Failure → Type 0
IsWrittenInputFailure written.Summary words i input failed f = IsSummaryInputFailure i input failed f
IsWrittenInputFailure (written.Kept k) words i input failed f = IsImportInputFailure k words i input failed f

abbrev pub IsCaptureWritten : List (List ℕ) → Import → Option (List ℕ) → Said → Type 0
IsCaptureWritten words i input s = IsWrittenAs i.written words i input s

abbrev pub IsCaptureFailure : List (List ℕ) → Import → Option (List ℕ) → Bool → Failure → Type 0
IsCaptureFailure words i input failed f = IsWrittenInputFailure i.written words i input failed f
