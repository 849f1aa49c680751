-- What is said about a trace that is least late, and of one that has the most on time.
use Rattle.std.specs.Prelude.{◌≡◌, ◌⊎◌, ℕ, List, [], Some, pos}
use Rattle.blk_trace.specs.Happened.{Happened}
use Rattle.blk_trace.specs.Setups.{Setup}
use Rattle.blk_trace.specs.Meaning.{commands_of, rounds_of}
use Rattle.blk_trace.specs.Depths.{capacity_of}
use Rattle.edd_figures.specs.Figures.{shortfall_in}
use Rattle.edd_figures.specs.Misses.{AreMisses}
use Rattle.edd_figures.specs.declared.missing.Crowd.{Crowd}
use Rattle.blk_report.specs.declared.figures.Report.{Report}

-- the report's shortfall is 0, or there are no commands
abbrev pub HasNoShortfall : Setup → List Happened → Report → Type 0
HasNoShortfall setup events r = (commands_of setup events ≡ []) ⊎ (shortfall_in r.figures ≡ Some (pos 0))

-- none of the trace's misses is avoidable
abbrev pub HasNoneAvoidable : Setup → List Happened → Type 0
HasNoneAvoidable setup events = (count late unavoidable avoidable : ℕ) → (windows : List Crowd)
    → AreMisses (commands_of setup events) (rounds_of events) (capacity_of setup events) count late unavoidable avoidable windows → avoidable ≡ 0
