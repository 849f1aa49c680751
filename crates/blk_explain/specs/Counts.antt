-- How many records a text has, and how many it announces.
use Rattle.std.specs.Prelude.{◌≡◌, ◌==◌, ◌+◌, ◌-◌, ℕ, Bool, not, if◌then◌else◌, List, [], Option, None, Some, length, count_by, get_or}
use Rattle.std.specs.Str.{bytes_eq}
use Rattle.blk_records.specs.Sources.{Row}
use Rattle.blk_text.specs.declared.bios.TheConstants.{BIO}
use Rattle.blk_explain.specs.Findings.{row_at}
use Rattle.blk_explain.specs.Broken.{IsNumberIn}
use Rattle.blk_explain.specs.declared.counts.Counted.{Counted}
use Rattle.blk_explain.specs.declared.counts.Counted.TheVariants as counted
use Rattle.blk_explain.specs.declared.counts.Tally.{Tally}

-- whether a record is of a bio; and how many events the records of a trace tell: those but for the title, the setup and those of bios
abbrev pub is_of_bio : Row → Bool
is_of_bio cells = bytes_eq (get_or cells 0 []) BIO.word

abbrev pub is_no_bio : Row → Bool
is_no_bio row = not (is_of_bio row)

abbrev pub events_in : List Row → ℕ
events_in rows = count_by is_no_bio rows - 2

-- how many events were found, and how many are wanted; where the numbers agree an event has too few bios, of which they say nothing
abbrev pub events_tally : ℕ → ℕ → Option Tally
events_tally found wanted = if found == wanted then None else Some (record { found = found; wanted = wanted })

-- how many records were found, or events, and how many are wanted, where a number of them is announced
abbrev pub IsTally : Counted → List Row → Option Tally → Type 0
IsTally counted.Nothing rows t = t ≡ None
IsTally (counted.Commands heads) rows t = (n : ℕ) × IsNumberIn (row_at rows 1) 3 n × (t ≡ Some (record { found = length rows; wanted = n + heads }))
IsTally counted.Windows rows t =
    (n m : ℕ) × IsNumberIn (row_at rows 1) 3 n × IsNumberIn (row_at rows 2) 2 m × (t ≡ Some (record { found = length rows; wanted = (n + m) + 2 }))
IsTally counted.Events rows t = (n : ℕ) × IsNumberIn (row_at rows 1) 4 n × (t ≡ events_tally (events_in rows) n)
