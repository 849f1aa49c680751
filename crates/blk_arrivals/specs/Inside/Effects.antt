-- What a deed may be.
use Rattle.std.specs.Prelude.{ℕ, ◌≤◌, ◌<◌, ◌+◌}
use Rattle.blk_bio.specs.declared.bio.TheConstants.{MAX_END}
use Rattle.blk_capture.specs.declared.record.Record.{Record}
use Rattle.blk_arrivals.specs.declared.effects.RecordEffect.{RecordEffect}
use Rattle.blk_arrivals.specs.declared.effects.RecordEffect.TheVariants as effect

-- a deed is of one of the submitters, and a bio that comes in by a record has a range of sectors
abbrev pub IsRecordEffect : ℕ → Record → RecordEffect → Type 0
IsRecordEffect count r (effect.Comes s way) = (s < count) × (0 < r.sectors) × (r.first + r.sectors ≤ MAX_END)
IsRecordEffect count r (effect.Unplugs s) = s < count
IsRecordEffect count r effect.Nothing = Unit {0}
