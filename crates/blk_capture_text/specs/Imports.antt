-- What of a capture is taken.
use Rattle.std.specs.Prelude.{ℕ, ◌≡◌, ◌<◌, ◌+◌, min, List, [], ◌∷◌, length, map, All}
use Rattle.edd_commands.specs.declared.TheConstants.{MAX_COMMANDS}
use Rattle.blk_capture.specs.Fates.{ArePassed, AreOfTaken, opens, makes, told}
use Rattle.blk_capture.specs.Parting.{gone_before, part, bio_in, fate_in}
use Rattle.blk_capture.specs.Settled.{IsMatching}
use Rattle.blk_capture.specs.Requests.{AreTimed, HaveBios, AreTallied, AreGone, IsDue}
use Rattle.blk_capture.specs.declared.fates.Fate.{Fate}
use Rattle.blk_capture.specs.declared.record.Record.{Record}
use Rattle.blk_capture.specs.declared.record.TheConstants.{MAX_TIME}
use Rattle.blk_capture.specs.declared.requests.CapturedBio.{CapturedBio}
use Rattle.blk_capture.specs.declared.requests.Options.{Options}
use Rattle.blk_capture.specs.declared.requests.CapturedRequest.{CapturedRequest}
use Rattle.blk_capture_text.specs.declared.importing.ImportAsked.{ImportAsked}
use Rattle.blk_capture_text.specs.declared.importing.ImportFault.{ImportFault}
use Rattle.blk_capture_text.specs.declared.importing.ImportFault.TheVariants as fault

abbrev pub first_time : List Record → ℕ
first_time [] = 0
first_time (r ∷ records) = r.time

-- so long after the first record
abbrev pub begin_after : ℕ → List Record → ℕ
begin_after skip records = min (first_time records + skip) MAX_TIME

-- all requests of a capture, its bios and what became of its records, and how many requests were merged into others or left out
pub record IsWholeImport (records : List Record) (options : Options) (requests : List CapturedRequest) (bios : List CapturedBio) (fates : List Fate) (absorbed left_out : ℕ) : Type 0 where
  pub timed : AreTimed requests
  pub due : All (IsDue options) requests
  pub have_bios : HaveBios requests bios
  pub tallied : AreTallied requests bios
  pub gone : AreGone (length requests) bios
  pub told_each : length fates ≡ length records
  pub passed : ArePassed records fates
  pub below : AreOfTaken (length requests) fates
  pub opened : length requests + absorbed + left_out ≡ told opens records fates
  pub made : length bios ≡ told makes records fates
  pub matching : IsMatching options records requests bios fates absorbed

-- and the part of it that is taken
pub record IsImport (records : List Record) (asked : ImportAsked) (requests : List CapturedRequest) (bios : List CapturedBio) (fates : List Fate) (absorbed left_out : ℕ) : Type 0 where
  pub all_requests : List CapturedRequest
  pub all_bios : List CapturedBio
  pub all_fates : List Fate
  pub all_left : ℕ
  pub whole : IsWholeImport records asked.options all_requests all_bios all_fates absorbed all_left
  pub requests_are : requests ≡ part (begin_after asked.skip records) asked.first all_requests
  pub bios_are : bios ≡ map (bio_in (gone_before (begin_after asked.skip records) all_requests) (length requests)) all_bios
  pub fates_are : fates ≡ map (fate_in (gone_before (begin_after asked.skip records) all_requests) (length requests)) all_fates
  pub left_are : left_out + length requests ≡ all_left + length all_requests

-- so many would be taken, and a schedule may not have them
pub record AreTooMany (records : List Record) (asked : ImportAsked) (count : ℕ) : Type 0 where
  pub requests : List CapturedRequest
  pub bios : List CapturedBio
  pub fates : List Fate
  pub absorbed : ℕ
  pub left_out : ℕ
  pub imported : IsImport records asked requests bios fates absorbed left_out
  pub counted : count ≡ length requests
  pub many : MAX_COMMANDS < count

abbrev pub IsImportFault : List Record → ImportAsked → ImportFault → Type 0
IsImportFault records asked (fault.TooMany n) = AreTooMany records asked n
IsImportFault records asked fault.Memory = Unit {0}
