-- The events of a trace while they are read.
use Rattle.std.specs.Prelude.{ℕ, List, [], ◌∷◌, Option, Some, None}
use Rattle.blk_bio.specs.Bios.{Bio}
use Rattle.blk_bio.specs.declared.limits.TheConstants.{MAX_SEGMENTS}
use Rattle.blk_trace.specs.Happened.{Happened}
use Rattle.blk_trace.specs.Setups.{Setup}
use Rattle.blk_records.specs.Sources.{Row}
use Rattle.blk_records.specs.Reads.{IsStopped}
use Rattle.blk_records.specs.declared.fault.TextReason.{TextReason}
use Rattle.blk_records.specs.declared.fault.TextReason.TheVariants as why
use Rattle.text_grammar.specs.declared.Repeats.TheVariants as repeats
use Rattle.text_grammar.specs.Parts.{over}
use Rattle.blk_text.specs.TraceForm.{event, one_more}

-- the bios of the request that is made of a group so far
abbrev pub gathered_bios : Option (List Bio) → List Bio
gathered_bios None = []
gathered_bios (Some bios) = bios

-- what is wrong with a record after the last event
abbrev pub IsPast : ℕ → Setup → List Happened → Row → TextReason → Type 0
IsPast version setup before row w = (rest : List Row) → (over why.Count (one_more version setup before)).Wrong (row ∷ rest) 1 w

-- reading a number of events stopped at the record `at`, and `last` was asked for last: all events before the one that was being read are
-- good, and no record past those that it may have was asked for
abbrev pub IsStoppedIn : ℕ → Setup → ℕ → Option (List Row) → ℕ → ℕ → Type 0
IsStoppedIn version setup count left at last = IsStopped (repeats.Exactly count) (event version setup) left 2 MAX_SEGMENTS at last
