-- The record of a bio, as it is read and written.
use Rattle.std.specs.Prelude.{ℕ, ◌∷◌}
use Rattle.blk_bio.specs.Bios.{Bio, IsBio}
use Rattle.blk_records.specs.Sources.{Row}
use Rattle.blk_records.specs.Tables.{FitsCells, row_by, word_record}
use Rattle.blk_records.specs.declared.fault.TextReason.{TextReason}
use Rattle.blk_records.specs.declared.fault.TextReason.TheVariants as why
use Rattle.text_grammar.specs.Parts.{Part, tested}
use Rattle.blk_text.specs.BioTable.{bio_cells, IsNoSuchBio}
use Rattle.blk_text.specs.declared.bios.TheConstants.{BIO, MAX_SUBMITTERS}

-- the record of a bio of a submitter below this number
abbrev pub bio_record : ℕ → Part Row TextReason Bio
bio_record submitters = tested (word_record why.Count BIO.word (bio_cells submitters) (FitsCells (bio_cells submitters))) IsBio IsNoSuchBio

-- the record of a bio, as it is written
abbrev pub bio_row : Bio → Row
bio_row b = BIO.word ∷ row_by (bio_cells MAX_SUBMITTERS) b
