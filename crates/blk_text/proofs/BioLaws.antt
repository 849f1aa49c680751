-- The record of a bio by itself.
use Rattle.std.proofs.Common.{◌≡◌, ◌∙◌, ℕ, List, [], ◌∷◌, refl, sym, inl, inr, arith, codes, get_or}
use Rattle.std.specs.Prelude.{Err}
use Rattle.blk_bio.specs.Bios.{Bio, IsBio, IsBioAnswer}
use Rattle.blk_bio.specs.declared.bio.BioFault.{BioFault}
use Rattle.blk_bio.specs.declared.bio.Dir.{Dir}
use Rattle.blk_bio.specs.Letters.{direction_text}
use Rattle.blk_records.specs.Sources.{Row}
use Rattle.blk_records.specs.Fields.{Lacks, FieldsSpell}
use Rattle.blk_records.specs.Words.{StartsWith}
use Rattle.blk_records.specs.Reads.{IsRowOf, IsWrongRecord}
use Rattle.blk_records.specs.Tables.{FitsCells, slots_by}
use Rattle.blk_records.specs.declared.fault.TextReason.{TextReason}
use Rattle.blk_records.specs.declared.fault.TextReason.TheVariants as why
use Rattle.blk_records.specs.declared.fields.Slot.TheVariants as slot
use Rattle.blk_records.proofs.TableLaws.{word_line}
use Rattle.blk_text.specs.BioTable.{bio_cells}
use Rattle.blk_text.specs.Inside.BioTable.{bio_record, bio_row}

-- the bio of the numbers of a record
abbrev pub bio_with : List ℕ → Dir → Bio
bio_with ns dir = record { id = record { submitter = get_or ns 1 0; serial = get_or ns 2 0 }; dir = dir; first = get_or ns 4 0; sectors = get_or ns 5 0 }

-- the letter of a direction stands at its place
pub letter_of : (submitters : ℕ) (row : Row) (ns : List ℕ) → FieldsSpell (slot.Given ∷ slots_by (bio_cells submitters)) row ns → (dir : Dir) × (get_or ns 3 0 ∷ [] ≡ direction_text dir)
letter_of submitters row ns s = let at = s.1 3 (omega arith) in (at.1.0, sym at.2 ∙ at.1.1)

-- the table's own, whether it is one or not
plain_line : (submitters : ℕ) (dir : Dir) (row : Row) (ns : List ℕ) → StartsWith (codes "bio") row → FieldsSpell (slot.Given ∷ slots_by (bio_cells submitters)) row ns → get_or ns 3 0 ∷ [] ≡ direction_text dir → (rest : List Row)
    → FitsCells (bio_cells submitters) (bio_with ns dir) × (row ∷ rest ≡ bio_row (bio_with ns dir) ∷ rest)
plain_line submitters dir row ns t s d rest =
    let line = word_line why.Count (codes "bio") (bio_cells submitters) (FitsCells (bio_cells submitters)) (bio_with ns dir) row ns t s (refl, (refl, (d, (refl, (refl, tt))))) (λ f. f) rest in
    (line.fits, line.made)

pub bio_of_numbers : (submitters : ℕ) (dir : Dir) (row : Row) (ns : List ℕ) (b : Bio) → StartsWith (codes "bio") row → FieldsSpell (slot.Given ∷ slots_by (bio_cells submitters)) row ns → get_or ns 3 0 ∷ [] ≡ direction_text dir
    → b ≡ bio_with ns dir → IsBio b → IsRowOf (bio_record submitters) row b
bio_of_numbers submitters dir row ns b t s d e i rest =
    let line = plain_line submitters dir row ns t s d rest in
    rw e (record { fits = (line.0, rw e at i); made = line.1; follows = tt })

pub no_bio_of_numbers : (submitters : ℕ) (dir : Dir) (row : Row) (ns : List ℕ) (f : BioFault) → StartsWith (codes "bio") row → FieldsSpell (slot.Given ∷ slots_by (bio_cells submitters)) row ns → get_or ns 3 0 ∷ [] ≡ direction_text dir
    → IsBioAnswer (bio_with ns dir).id dir (bio_with ns dir).first (bio_with ns dir).sectors (Err f) → IsWrongRecord (bio_record submitters) row (why.Bio f)
no_bio_of_numbers submitters dir row ns f t s d a rest =
    let line = plain_line submitters dir row ns t s d rest in
    inr (bio_with ns dir, rest, record { fits = line.0; made = line.1; follows = tt }, (f, refl, refl, a))

pub bio_lacks : (submitters : ℕ) (row : Row) (w : TextReason) → StartsWith (codes "bio") row → Lacks (slot.Given ∷ slots_by (bio_cells submitters)) row w → IsWrongRecord (bio_record submitters) row w
bio_lacks submitters row w t l rest = inl (refl, inl (t, l))
