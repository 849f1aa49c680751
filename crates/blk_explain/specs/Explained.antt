-- What a text is, or what is wrong with it.
use Rattle.std.specs.Prelude.{◌≡◌, ◌≢◌, ◌⊎◌, ◌≤◌, ℕ, Option, None, Some, List, [], length, get_or, nat_eq}
use Rattle.strsim.specs.Edits.{levenshtein_row}
use Rattle.blk_records.specs.Kinds.{KindRow}
use Rattle.blk_records.specs.Sources.{Row}
use Rattle.blk_records.specs.declared.fault.TextFault.{TextFault}
use Rattle.blk_records.specs.declared.fault.TextReason.{TextReason}
use Rattle.blk_records.specs.declared.fault.TextReason.TheVariants as why
use Rattle.blk_explain.specs.Forms.{form_row, form_name, IsRecordKind}
use Rattle.blk_explain.specs.Lines.{line_at}
use Rattle.blk_explain.specs.Findings.{rows_of, row_at, name_in, IsFound}
use Rattle.blk_explain.specs.Broken.{LiesIn, LiesInNone}
use Rattle.blk_explain.specs.Counts.{IsTally}
use Rattle.blk_explain.specs.declared.counts.Tally.{Tally}
use Rattle.blk_explain.specs.declared.details.Detail.{Detail}
use Rattle.blk_explain.specs.declared.details.Detail.TheVariants as detail
use Rattle.blk_explain.specs.declared.fields.Allowed.{Allowed}
use Rattle.blk_explain.specs.declared.forms.TextForm.{TextForm}
use Rattle.blk_explain.specs.declared.forms.FormRow.{FormRow}
use Rattle.blk_explain.specs.declared.findings.Finding.{Finding}
use Rattle.blk_explain.specs.declared.findings.Finding.TheVariants as finding

-- how many edits lead from what a text begins with to the name of a form
abbrev pub edits_to : List ℕ → TextForm → ℕ
edits_to found f = levenshtein_row nat_eq found (form_name f) (length (form_name f))

-- no name is nearer
abbrev pub IsNearest : List ℕ → TextForm → Type 0
IsNearest found near = (f : TextForm) → edits_to found near ≤ edits_to found f

-- what is known of the number of records
abbrev pub counted_detail : Option Tally → Detail
counted_detail None = detail.Whole
counted_detail (Some t) = detail.Counted t

-- what is known of a record of this kind with a fault, in a text with this title
abbrev pub IsDetailBy : Row → KindRow → TextReason → Row → Detail → Type 0
IsDetailBy title kind w cells d =
    ((k : ℕ) × (a : Allowed) × LiesIn title kind w cells k a × (d ≡ detail.Field k a))
    ⊎ (LiesInNone title kind w cells × (d ≡ detail.Whole))

-- and of one of this number
abbrev pub IsRecordDetail : FormRow → Row → ℕ → TextReason → Row → Detail → Type 0
IsRecordDetail form title at w cells d = (kind : KindRow) × IsRecordKind form at (get_or cells 0 []) kind × IsDetailBy title kind w cells d

-- what is known of a fault: how many records there are and have to be, or in which field of its record it lies
abbrev pub IsFaultDetail : FormRow → List Row → TextFault → Detail → Type 0
IsFaultDetail form rows fault d =
    ((fault.why ≡ why.Count) × ((t : Option Tally) × IsTally form.counted rows t × (d ≡ counted_detail t)))
    ⊎ ((fault.why ≢ why.Count) × IsRecordDetail form (row_at rows 1) fault.at fault.why (row_at rows fault.at) d)

-- what is known of a finding; of a text that begins with the name of no form, the nearest one, where it is one that an author can have meant
abbrev pub IsDetailOf : List Row → Finding → Detail → Type 0
IsDetailOf rows (finding.Good f) d = d ≡ detail.Whole
IsDetailOf rows (finding.Faulty f fault) d = IsFaultDetail (form_row f) rows fault d
IsDetailOf rows finding.Untitled d = (d ≡ detail.Whole) ⊎ ((near : TextForm) × IsNearest (name_in rows) near × (d ≡ detail.Nearest near))

-- the record that is told about
abbrev pub record_told : Finding → ℕ
record_told (finding.Good f) = 1
record_told (finding.Faulty f fault) = fault.at
record_told finding.Untitled = 1

-- the form of a text that a finding says to have no fault
abbrev pub form_without_fault : Finding → Option TextForm
form_without_fault (finding.Good f) = Some f
form_without_fault (finding.Faulty f fault) = None
form_without_fault finding.Untitled = None

-- what the reader of the named form finds in these bytes, on which line, and what is known of it
pub record IsExplained (bytes : List ℕ) (f : Finding) (line : ℕ) (d : Detail) : Type 0 where
  pub found : IsFound (rows_of bytes) f
  pub line_is : line ≡ line_at bytes (record_told f)
  pub known : IsDetailOf (rows_of bytes) f d
