-- The submitters of a capture, as they are found.
use Rattle.std.specs.Prelude.{ℕ, ◌≡◌, ◌<◌, List, length}
use Rattle.blk_bio.specs.declared.limits.TheConstants.{MAX_SOFT_QUEUES}
use Rattle.blk_capture.specs.declared.record.Record.{Record}
use Rattle.blk_arrivals.specs.declared.coming.ToldBy.{ToldBy}
use Rattle.blk_arrivals.specs.declared.coming.Submitters.{Submitters}
use Rattle.blk_arrivals.specs.Coming.{keys_of, AreFewSubmitters, told_by, submitters_of}

-- the keys are more than there may be submitters
abbrev pub AreMany : List ℕ → Type 0
AreMany keys = MAX_SOFT_QUEUES < length keys

-- the keys of all bios that come in, no more than there may be submitters
abbrev pub AreKeys : ToldBy → List Record → List ℕ → Type 0
AreKeys told records keys = (keys ≡ keys_of told records) × AreFewSubmitters keys

-- by what the submitters of a capture are told apart, and their keys, no more than there may be submitters
abbrev pub AreSubmitters : List Record → Submitters → Type 0
AreSubmitters records s = (s.told ≡ told_by records) × (s.keys.items ≡ submitters_of records) × AreFewSubmitters (submitters_of records)
