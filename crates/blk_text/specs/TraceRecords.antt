-- What the records of a trace can tell.
use Rattle.std.specs.Prelude.{◌≤◌, ◌<◌, ◌^◌, ℕ, List, length, All, IfSome}
use Rattle.blk_bio.specs.Bios.{Bio, IsBio}
use Rattle.blk_bio.specs.declared.limits.TheConstants.{MAX_SEGMENTS}
use Rattle.blk_trace.specs.Happened.{Happened}
use Rattle.blk_trace.specs.Kinds.{enters, issues, ends, sets_depth}
use Rattle.blk_trace.specs.Traces.{Traced}
use Rattle.blk_trace.specs.Legal.{IsLegalTrace}
use Rattle.blk_text.specs.SetupRecord.{IsWholeSetup}
use Rattle.blk_trace.specs.declared.event.TheConstants.{MAX_TAGS}
use Rattle.blk_text.specs.declared.bios.TheConstants.{MAX_SUBMITTERS}

-- the numbers of a bio lie in their ranges
abbrev pub BioFits : Bio → Type 0
BioFits b = (b.id.submitter < MAX_SUBMITTERS) × (b.id.serial < 2 ^ 64) × IsBio b

-- the id of a group lies in its range, as does the number of its bios, and those of each bio
abbrev pub GroupFits : ℕ → List Bio → Type 0
GroupFits id bios = (id < 2 ^ 64) × (1 ≤ length bios) × (length bios ≤ MAX_SEGMENTS) × All BioFits bios

-- the numbers of an event lie in their ranges
abbrev pub EventFits : Happened → Type 0
EventFits e =
    IfSome (enters e) (λ p. GroupFits p.0 p.1)
    × IfSome (issues e) (λ p. (p.0 < 2 ^ 64) × (p.1 < MAX_TAGS))
    × IfSome (ends e) (λ tag. tag < MAX_TAGS)
    × IfSome (sets_depth e) (λ depth. depth < 2 ^ 64)

-- a trace is legal, and its numbers lie in their ranges
pub record IsTrace (t : Traced) : Type 0 where
  pub setup : IsWholeSetup t.setup
  pub events : All EventFits t.events
  pub legal : IsLegalTrace t.setup t.events
