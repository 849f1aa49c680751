-- Codes of bios, limits and extents, for records that hold them beside a map.
use Rattle.std.specs.Prelude.{ℕ, ◌≡◌, Bool, true, false, refl}
use Rattle.std.specs.Coded.{Coded, code_by, coded×, coded_ℕ, coded_bool}
use Rattle.blk_bio.specs.declared.bio.BioId.{BioId}
use Rattle.blk_bio.specs.declared.bio.Dir.{Dir}
use Rattle.blk_bio.specs.declared.bio.Dir.TheVariants.{Read, Write}
use Rattle.blk_bio.specs.Bios.{Bio}
use Rattle.blk_bio.specs.Limits.{Limits}
use Rattle.blk_bio.specs.Extents.{Extent}

-- whether a direction is that of reads
abbrev pub is_read : Dir → Bool
is_read Read = true
is_read Write = false

-- the direction of reads, or of writes
abbrev pub dir_from : Bool → Dir
dir_from true = Read
dir_from false = Write

-- a direction, by whether it is that of reads
pub dir_back : (d : Dir) → dir_from (is_read d) ≡ d
dir_back Read = refl
dir_back Write = refl

-- a direction's code
abbrev pub dir_code : Coded Dir
dir_code = code_by Bool coded_bool is_read dir_from dir_back

-- the code of a bio's name
abbrev pub bio_id_code : Coded BioId
bio_id_code = code_by (ℕ × ℕ) (coded× coded_ℕ coded_ℕ) (λ i. (i.submitter, i.serial)) (λ p. record { submitter = p.0; serial = p.1 }) (λ _. refl)

-- a bio's code
abbrev pub bio_code : Coded Bio
bio_code = code_by (BioId × (Dir × (ℕ × ℕ))) (coded× bio_id_code (coded× dir_code (coded× coded_ℕ coded_ℕ))) (λ b. (b.id, (b.dir, (b.first, b.sectors)))) (λ p. record { id = p.0; dir = p.1.0; first = p.1.1.0; sectors = p.1.1.1 }) (λ _. refl)

-- the code of limits
abbrev pub limits_code : Coded Limits
limits_code = code_by (ℕ × ℕ) (coded× coded_ℕ coded_ℕ) (λ l. (l.max_sectors, l.max_segments)) (λ p. record { max_sectors = p.0; max_segments = p.1 }) (λ _. refl)

-- the code of an extent
abbrev pub extent_code : Coded Extent
extent_code = code_by (Dir × (ℕ × (ℕ × ℕ))) (coded× dir_code (coded× coded_ℕ (coded× coded_ℕ coded_ℕ))) (λ e. (e.dir, (e.first, (e.end, e.bios)))) (λ p. record { dir = p.0; first = p.1.0; end = p.1.1.0; bios = p.1.1.1 }) (λ _. refl)
