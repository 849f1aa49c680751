-- Titles, each by its row: the name of a form, a version of it, and numbers.
use Rattle.std.specs.Prelude.{◌≡◌, ◌⊎◌, ◌≤◌, ℕ, Bool, true, cond, nat_le, List, [], ◌∷◌, get_or, set, decimal, Option, IfSome}
use Rattle.std.specs.Option.{option_map_or}
use Rattle.edd_commands.specs.declared.TheConstants.{MAX_COMMANDS}
use Rattle.edd_commands.specs.declared.steps.TheConstants.{MAX_DEPTH}
use Rattle.blk_records.specs.Sources.{Row, TakesRecord}
use Rattle.blk_records.specs.Fields.{Lacks, FieldsSpell}
use Rattle.blk_records.specs.Reads.{IsOutside}
use Rattle.blk_records.specs.Tables.{Cell, cells_by, row_by}
use Rattle.blk_records.specs.declared.fault.TextReason.{TextReason}
use Rattle.blk_records.specs.declared.fault.TextReason.TheVariants as why
use Rattle.blk_records.specs.declared.fields.Slot.{Slot}
use Rattle.blk_records.specs.declared.fields.Slot.TheVariants as slot
use Rattle.blk_records.specs.declared.titles.TitleRow.{TitleRow}
use Rattle.blk_records.specs.declared.titles.Wider.{Wider}
use Rattle.text_grammar.specs.Parts.{Part, NextWrong, record_of}

-- a title begins with the name of its form and a version of it
abbrev pub IsTitled : List ℕ → ℕ → Row → Type 0
IsTitled name version row = (more : Row) × (row ≡ name ∷ decimal version ∷ more)

-- a form has versions from 1 on
abbrev pub IsVersion : ℕ → ℕ → Type 0
IsVersion latest version = (1 ≤ version) × (version ≤ latest)

-- a title is that of a version of the form
abbrev pub IsOfVersion : List ℕ → ℕ → Row → ℕ → Type 0
IsOfVersion name latest row version = IsVersion latest version × IsTitled name version row

-- and of none
abbrev pub HasNoVersion : List ℕ → ℕ → Row → Type 0
HasNoVersion name latest row = (version : ℕ) → IsVersion latest version → ¬ IsTitled name version row

-- a row is the title of the form of this name, whose latest version is this
abbrev pub IsTitleOf : {letters fields : ℕ} → TitleRow letters fields → List ℕ → ℕ → Type 0
IsTitleOf title name latest = (title.word ≡ name) × (title.latest ≡ latest)

-- the most that a number may be in a version, where it may be this much in the first one
abbrev pub most_in : Wider → ℕ → ℕ → ℕ
most_in wider version most = cond (nat_le wider.since version) wider.most most

-- what may stand in its field in a version
abbrev pub slot_in : Wider → ℕ → Slot → Slot
slot_in wider version (slot.Number least most) = slot.Number least (most_in wider version most)
slot_in wider version s = s

-- what may stand in all fields of a title in a version
abbrev pub slots_in : {letters fields : ℕ} → TitleRow letters fields → ℕ → List Slot
slots_in title version = option_map_or (λ wider. set title.slots wider.place (slot_in wider version (get_or title.slots wider.place slot.Given))) title.later title.slots

-- the fields of these numbers of a value
abbrev pub title_cells : {letters fields : ℕ} {V : Type 0} → TitleRow letters fields → List (V → ℕ) → ℕ → List (Cell V)
title_cells title numbers version = cells_by (slots_in title version) numbers

-- the title record of a version and what it tells
abbrev pub title_by : {letters fields : ℕ} {V : Type 0} → TitleRow letters fields → List (V → ℕ) → ℕ × V → Row
title_by title numbers t = title.word ∷ decimal t.0 ∷ row_by (title_cells title numbers t.0) t.1

-- what is wrong with a title record: first its name and version
abbrev pub TitleLacks : {letters fields : ℕ} → TitleRow letters fields → Row → TextReason → Type 0
TitleLacks title row w = ((w ≡ why.Title) × HasNoVersion title.word title.latest row)
    ⊎ ((version : ℕ) × IsVersion title.latest version × IsTitled title.word version row × Lacks (slots_in title version) row w)

-- a title record, whose value has the version and what these numbers tell
abbrev pub title_record : {letters fields : ℕ} {V : Type 0} → TitleRow letters fields → List (V → ℕ) → (ℕ → V → Type 0) → Part Row TextReason (ℕ × V)
title_record title numbers Fits = record_of (title_by title numbers) (λ t. IsVersion title.latest t.0 × Fits t.0 t.1) why.Title (TitleLacks title)

-- a title record tells a version and numbers, by place
abbrev pub TitleTells : {letters fields : ℕ} → TitleRow letters fields → Row → ℕ → List ℕ → Type 0
TitleTells title row version ns = IsOfVersion title.word title.latest row version × FieldsSpell (slots_in title version) row ns

-- a title record that tells them was taken of the records that are left
abbrev pub TakesTitle : {letters fields : ℕ} → TitleRow letters fields → Option (List Row) → Option (List Row) → ℕ → List ℕ → Type 0
TakesTitle title left new version ns = (row : Row) × TakesRecord left new row true × TitleTells title row version ns

-- none was: the next record never came or is wrong, or the fault came from outside
abbrev pub StopsAtTitle : {letters fields : ℕ} → TitleRow letters fields → Bool → Option (List Row) → TextReason → Type 0
StopsAtTitle title failed left w = IfSome left (λ rows. IsOutside failed w ⊎ NextWrong why.Title (TitleLacks title) rows w)

-- a depth and a number of commands
abbrev pub IsCounted : ℕ × ℕ → Type 0
IsCounted t = (1 ≤ t.0) × (t.0 ≤ MAX_DEPTH) × (t.1 ≤ MAX_COMMANDS)

-- a title that tells them
abbrev pub counted_numbers : List (ℕ × ℕ → ℕ)
counted_numbers = (λ t. t.0) ∷ (λ t. t.1) ∷ []

abbrev pub counted_title : {letters fields : ℕ} → TitleRow letters fields → Part Row TextReason (ℕ × (ℕ × ℕ))
counted_title title = title_record title counted_numbers (λ _. IsCounted)
