-- The forms of texts, by their rows.
use Rattle.std.specs.Prelude.{◌≡◌, ◌⊎◌, ◌++◌, ℕ, List, [], ◌∷◌}
use Rattle.blk_capture_text.specs.declared.reading.TheConstants.{CAPTURE}
use Rattle.blk_capture_text.specs.declared.record.TheConstants.{RECORD_ROW}
use Rattle.blk_records.specs.Kinds.{KindRow, row, title_kind, HasRow}
use Rattle.blk_records.specs.declared.fields.Slot.TheVariants as slot
use Rattle.blk_records.specs.declared.names.FieldName.{FieldName}
use Rattle.blk_records.specs.declared.names.FieldName.TheVariants as name
use Rattle.blk_records.specs.declared.certificate.TheConstants.{BOUND, CERTIFICATE, SERVED_ROW}
use Rattle.blk_records.specs.declared.commands.TheConstants.{COMMAND_ROW, COMMANDS}
use Rattle.blk_records.specs.declared.on_time.TheConstants.{NUMBERS, ON_TIME, WINDOW}
use Rattle.blk_records.specs.declared.schedule.TheConstants.{SCHEDULE}
use Rattle.blk_text.specs.EventKinds.{event_table}
use Rattle.blk_text.specs.StepKinds.{step_kinds}
use Rattle.blk_text.specs.declared.bios.TheConstants.{BIO}
use Rattle.blk_text.specs.declared.heads.TheConstants.{TRACE}
use Rattle.blk_text.specs.declared.script.TheConstants.{SCRIPT}
use Rattle.blk_text.specs.declared.setup.TheConstants.{SETUP}
use Rattle.blk_explain.specs.declared.counts.Counted.{Counted}
use Rattle.blk_explain.specs.declared.counts.Counted.TheVariants as counted
use Rattle.blk_explain.specs.declared.forms.TextForm.{TextForm}
use Rattle.blk_explain.specs.declared.forms.TextForm.TheVariants as form
use Rattle.blk_explain.specs.declared.forms.FormRow.{FormRow}
use Rattle.blk_explain.specs.declared.forms.LaterRecords.{LaterRecords}
use Rattle.blk_explain.specs.declared.forms.LaterRecords.TheVariants as later

-- a record with none of the words of its form, of whose fields but the first, of this name, nothing is known
abbrev pub other_kind : FieldName → KindRow
other_kind n = record { word = []; since = 1; slots = slot.Given ∷ []; names = n ∷ [] }

-- the kinds of records of a form, each by the row that its reader goes by: of its title, of its second record, and of those that begin with
-- none of the words of its later ones
abbrev pub form_kinds : TextForm → KindRow × KindRow × KindRow
form_kinds form.Commands = (title_kind COMMANDS, row COMMAND_ROW, row COMMAND_ROW)
form_kinds form.Certificate = (title_kind CERTIFICATE, row BOUND, row SERVED_ROW)
form_kinds form.OnTime = (title_kind ON_TIME, row NUMBERS, row SERVED_ROW)
form_kinds form.Schedule = (title_kind SCHEDULE, row SERVED_ROW, row SERVED_ROW)
form_kinds form.Capture = (title_kind CAPTURE, row RECORD_ROW, row RECORD_ROW)
form_kinds form.Script = (title_kind SCRIPT, row SETUP, other_kind name.Step)
form_kinds form.Trace = (title_kind TRACE, row SETUP, other_kind name.Event)

-- which of its later records begin with words
abbrev pub form_later : TextForm → LaterRecords
form_later form.OnTime = later.Windows
form_later form.Script = later.Steps
form_later form.Trace = later.Events
form_later f = later.Wordless

-- how many records it announces
abbrev pub form_counted : TextForm → Counted
form_counted form.Certificate = counted.Commands 2
form_counted form.Schedule = counted.Commands 1
form_counted form.OnTime = counted.Windows
form_counted form.Trace = counted.Events
form_counted f = counted.Nothing

abbrev pub form_row : TextForm → FormRow
form_row f = record { title = (form_kinds f).0; second = (form_kinds f).1; later = form_later f; item = (form_kinds f).2; counted = form_counted f }

-- the name that its title begins with
abbrev pub form_name : TextForm → List ℕ
form_name f = (form_row f).title.word

-- the kinds with whose words an author may begin a later record, and all that begin with words
abbrev pub offered_kinds : LaterRecords → List KindRow
offered_kinds later.Wordless = []
offered_kinds later.Windows = row WINDOW ∷ []
offered_kinds later.Steps = step_kinds
offered_kinds later.Events = event_table

abbrev pub worded_kinds : LaterRecords → List KindRow
worded_kinds later.Events = event_table ++ row BIO ∷ []
worded_kinds l = offered_kinds l

-- a kind is one of these that begins with this word, or, where none does, another
abbrev pub IsWorded : List KindRow → KindRow → List ℕ → KindRow → Type 0
IsWorded kinds other word found =
    (HasRow kinds found × (word ≡ found.word))
    ⊎ (((k : KindRow) → HasRow kinds k → ¬ (word ≡ k.word)) × (found ≡ other))

-- the kind of a record of this number that begins with this word
abbrev pub IsRecordKind : FormRow → ℕ → List ℕ → KindRow → Type 0
IsRecordKind row at word found =
    ((at ≡ 1) × (found ≡ row.title))
    ⊎ ((at ≡ 2) × (found ≡ row.second))
    ⊎ (¬ (at ≡ 1) × ¬ (at ≡ 2) × IsWorded (worded_kinds row.later) row.item word found)
