-- A trace: a title, a setup, and events, each of which has one record, or one and those of its bios.
use Rattle.std.specs.Prelude.{◌≡◌, ◌≤◌, ℕ, List, [], ◌∷◌, length, All, Option, Some, IfSome, unwrap_or}
use Rattle.std.specs.Option.{option_map_or}
use Rattle.blk_bio.specs.Bios.{Bio, IsBio}
use Rattle.blk_bio.specs.Limits.{Limits}
use Rattle.blk_bio.specs.Requests.{Fits}
use Rattle.blk_bio.specs.declared.request.Side.TheVariants as side
use Rattle.blk_bio.specs.declared.limits.TheConstants.{MAX_QUEUES}
use Rattle.blk_trace.specs.declared.trace.TheConstants.{MAX_EVENTS}
use Rattle.blk_bio.specs.declared.rule.TraceRule.{TraceRule}
use Rattle.blk_trace.specs.declared.event.Event.{Event}
use Rattle.blk_trace.specs.Kinds.{enters, bare}
use Rattle.blk_trace.specs.Happened.{Happened}
use Rattle.blk_trace.specs.declared.event.Event.TheVariants.{Tick, Release, Join, Issue, Done, Back, Depth}
use Rattle.blk_trace.specs.Rules.{IsFirstBroken, BreaksNoRule}
use Rattle.blk_trace.specs.Setups.{Setup}
use Rattle.blk_trace.specs.Traces.{Traced}
use Rattle.blk_records.specs.Sources.{Row}
use Rattle.csv.specs.Reading.{default_config, records, strip_bom}
use Rattle.blk_records.specs.Reads.{ended_of, with_next}
use Rattle.blk_records.specs.Texts.{rows_text}
use Rattle.blk_records.specs.Words.{NextStarts}
use Rattle.blk_records.specs.Tables.{FitsCells, word_record}
use Rattle.blk_records.specs.Kinds.{row, StandsFrom, RowSaid, said_record}
use Rattle.blk_records.specs.Titles.{IsVersion, title_record}
use Rattle.blk_text.specs.BioTable.{bio_cells, IsNoSuchBio}
use Rattle.blk_text.specs.SetupRecord.{setup}
use Rattle.blk_text.specs.TraceRecords.{IsTrace}
use Rattle.blk_text.specs.Versions.{most_tags}
use Rattle.blk_text.specs.declared.setup.TheConstants.{LATEST, WIDTH}
use Rattle.blk_text.specs.declared.bios.TheConstants.{BIO, MAX_SUBMITTERS}
use Rattle.blk_records.specs.declared.fault.TextReason.{TextReason}
use Rattle.blk_records.specs.declared.fault.TextReason.TheVariants as why
use Rattle.blk_text.specs.EventKinds.{event_table}
use Rattle.blk_text.specs.declared.heads.TheConstants.{TRACE, TICK, RELEASE, JOIN, ISSUE, DONE, BACK, DEPTH}
use Rattle.text_grammar.specs.declared.Repeats.TheVariants as repeats
use Rattle.text_grammar.specs.Parts.{Part, NextWrong, then, many, over, seen_as, tested, by_word, Spells}

-- title: blk-trace, version, depth, hardware queues, number of events, empty
pub record TraceTitle : Type 0 where
  pub depth : ℕ
  pub hw : ℕ
  pub count : ℕ

abbrev pub trace_numbers : List (TraceTitle → ℕ)
trace_numbers = (λ t. t.depth) ∷ (λ t. t.hw) ∷ (λ t. t.count) ∷ []

-- a title's numbers lie in their ranges
pub record IsTraceTitle (version : ℕ) (t : TraceTitle) : Type 0 where
  pub depth : (1 ≤ t.depth) × (t.depth ≤ most_tags version)
  pub hw : (1 ≤ t.hw) × (t.hw ≤ MAX_QUEUES)
  pub count : t.count ≤ MAX_EVENTS

abbrev pub trace_title_part : Part Row TextReason (ℕ × TraceTitle)
trace_title_part = title_record TRACE trace_numbers IsTraceTitle

-- the first record of an event tells it with the number of its bios in place of these
abbrev pub Head : Type 0
Head = Event ℕ

-- the row of a first record, and what it says
abbrev pub said : Head → RowSaid
said Tick = (row TICK, tt)
said (Release id bios) = (row RELEASE, (id, (bios, tt)))
said (Join id bios) = (row JOIN, (id, (bios, tt)))
said (Issue id tag) = (row ISSUE, (id, (tag, tt)))
said (Done tag) = (row DONE, (tag, tt))
said (Back tag) = (row BACK, (tag, tt))
said (Depth depth) = (row DEPTH, (depth, tt))

-- the first record of an event
abbrev pub first_record : ℕ → Part Row TextReason Head
first_record version = seen_as said (said_record why.Count WIDTH event_table version)

-- what is wrong with a record of a group that does not begin as a bio's: what is wrong with it as the first record of an
-- event, and else that it came too soon
abbrev pub IsNoBio : ℕ → List Row → TextReason → Type 0
IsNoBio version = NextWrong why.Count (λ row w. (over why.Count (first_record version)).Wrong (row ∷ []) 1 w)

-- the record of a bio of a group, by its table
abbrev pub plain_bio : ℕ → Part Row TextReason Bio
plain_bio version =
    seen_as (λ b. (tt, b)) (by_word {K = Unit {0}} (λ _. Bio) (λ _. NextStarts BIO.word) (λ _. word_record why.Count BIO.word (bio_cells MAX_SUBMITTERS) (FitsCells (bio_cells MAX_SUBMITTERS))) (IsNoBio version))

-- the record of a bio that there is
abbrev pub whole_bio : ℕ → Part Row TextReason Bio
whole_bio version = tested (plain_bio version) IsBio IsNoSuchBio

-- a bio of a group joins those before it at the back, within the limits; the first has any size
abbrev pub Tiles : Limits → List Bio → Bio → Type 0
Tiles limits [] b = Unit {0}
Tiles limits (a ∷ before) b = Fits limits (a ∷ before) (b ∷ []) side.Back

-- and one that does not
abbrev pub IsAstray : Limits → List Bio → Bio → ℕ → TextReason → Type 0
IsAstray limits before b k w = (k ≡ 1) × (w ≡ why.Tile) × ¬ Tiles limits before b

-- a bio of a group, after those before it
abbrev pub group_bio : ℕ → Limits → List Bio → Part Row TextReason Bio
group_bio version limits before = tested (whole_bio version) (Tiles limits before) (IsAstray limits before)

-- how many bios follow a first record
abbrev pub bios_after : Head → ℕ
bios_after h = option_map_or (λ p. p.1) (enters h) 0

-- the bios of a group, in this number
abbrev pub group : ℕ → Limits → ℕ → Part Row TextReason (List Bio)
group version limits count = many (repeats.Exactly count) (group_bio version limits) with_next []

-- the first record of an event, and its bios: where no request enters, it tells the event itself
abbrev pub event_told : Happened → Head × List Bio
event_told (Release id bios) = (Release id (length bios), bios)
event_told (Join id bios) = (Join id (length bios), bios)
event_told e = (unwrap_or (bare e) Tick, [])

-- an event by its records
abbrev pub plain_event : ℕ → Limits → Part Row TextReason Happened
plain_event version limits = seen_as event_told (then (first_record version) (λ h. group version limits (bios_after h)))

-- the first rule that an event breaks after those before it, told of the event's first record
abbrev pub BreaksRule : Setup → List Happened → Happened → ℕ → TextReason → Type 0
BreaksRule setup before e k w = (k ≡ 1) × ((rule : TraceRule) × (w ≡ why.Rule rule) × IsFirstBroken setup before e rule)

-- an event that breaks no rule after those before it; its rules are looked for once all its records are read
abbrev pub event : ℕ → Setup → List Happened → Part Row TextReason Happened
event version setup before = tested (plain_event version setup.limits) (BreaksNoRule setup before) (BreaksRule setup before)

-- the event of a first record that no bios follow
abbrev pub alone : Head → Option Happened
alone h = bare h

-- one event more than announced: its rules are looked for where it has one record, and no bio of it is looked at
abbrev pub one_more : ℕ → Setup → List Happened → Part Row TextReason Head
one_more version setup before = tested (first_record version) (λ h. IfSome (alone h) (BreaksNoRule setup before)) (λ h k w. (e : Happened) × (alone h ≡ Some e) × BreaksRule setup before e k w)

-- exactly this number of events, to the end of the text
abbrev pub events_of : ℕ → Setup → ℕ → Part Row TextReason (List Happened)
events_of version setup count = ended_of (repeats.Exactly count) (event version setup) (one_more version setup)

-- a setup and the events
abbrev pub trace_body : ℕ × TraceTitle → Part Row TextReason (Setup × List Happened)
trace_body t = then (setup t.1.depth t.1.hw) (λ s. events_of t.0 s t.1.count)

-- a title with the number of events, a setup, and exactly that many events, each of which breaks no rule after those before it
abbrev pub trace_form : Part Row TextReason ((ℕ × TraceTitle) × (Setup × List Happened))
trace_form = then trace_title_part trace_body

-- the title of a trace
abbrev pub trace_title : Traced → TraceTitle
trace_title t = record { depth = t.setup.depth; hw = t.setup.hw; count = length t.events }

-- what the records of a trace of a version tell
abbrev pub trace_value : ℕ → Traced → (ℕ × TraceTitle) × (Setup × List Happened)
trace_value version t = ((version, trace_title t), (t.setup, t.events))

-- the records of a trace in the latest version, as it is written
abbrev pub trace_rows : Traced → List Row
trace_rows t = trace_form.rows_of (trace_value LATEST t)

-- the records spell this trace in this version, whatever it is prepared for
abbrev pub SpellsTraceIn : ℕ → List Row → Traced → Type 0
SpellsTraceIn version rows t = Spells trace_form rows (trace_value version t)

-- the records spell this trace, in one of the versions
abbrev pub SpellsTrace : List Row → Traced → Type 0
SpellsTrace rows t = (version : ℕ) × SpellsTraceIn version rows t

-- an event stands in a version
abbrev pub IsEventOf : ℕ → Happened → Type 0
IsEventOf version e = StandsFrom (said (event_told e).0).0.since version

-- a trace can be spelled in a version: it has no more tags than that, and no other events
pub record IsTraceOf (version : ℕ) (t : Traced) : Type 0 where
  pub is_version : IsVersion LATEST version
  pub tags : t.setup.depth ≤ most_tags version
  pub kinds : All (IsEventOf version) t.events

-- the first fault of a trace
abbrev pub TraceTextFault : List Row → ℕ → TextReason → Type 0
TraceTextFault = trace_form.Wrong

-- the records spell one trace at most, in one version
abbrev pub OneTrace : List Row → Type 0
OneTrace rows = (version other : ℕ) → (t u : Traced) → SpellsTraceIn version rows t → SpellsTraceIn other rows u → (version ≡ other) × (t.setup ≡ u.setup) × (t.events ≡ u.events)

-- the text of a trace in a version reads back as records that spell it
abbrev pub TraceReadsBack : ℕ → Traced → Type 0
TraceReadsBack version t = IsTrace t → IsTraceOf version t → SpellsTraceIn version (records default_config (strip_bom (rows_text (trace_form.rows_of (trace_value version t))))) t
