-- The record of a bio by its table.
use Rattle.std.specs.Prelude.{◌≡◌, ℕ, List, Err}
use Rattle.blk_bio.specs.Bios.{Bio, IsBioAnswer}
use Rattle.blk_bio.specs.declared.bio.BioFault.{BioFault}
use Rattle.blk_records.specs.Tables.{Cell}
use Rattle.blk_records.specs.declared.fault.TextReason.{TextReason}
use Rattle.blk_records.specs.declared.fault.TextReason.TheVariants as why
use Rattle.blk_records.specs.Kinds.{below, cells_of}
use Rattle.blk_text.specs.declared.bios.TheConstants.{BIO}

-- submitter, below their number, serial, direction, first, sectors
abbrev pub bio_cells : ℕ → List (Cell Bio)
bio_cells submitters = cells_of (below submitters BIO.slots) (λ b. (b.id.submitter, (b.id.serial, (b.dir, (b.first, (b.sectors, tt))))))

-- there is no such bio, for this reason
abbrev pub IsNoSuchBio : Bio → ℕ → TextReason → Type 0
IsNoSuchBio b k w = (f : BioFault) × (k ≡ 1) × (w ≡ why.Bio f) × IsBioAnswer b.id b.dir b.first b.sectors (Err f)
