-- How far a trace fell short of the best possible deadlines.
use Rattle.std.specs.Prelude.{◌≡◌, List, length, [], ◌∷◌, ◌++◌}
use Rattle.edd_figures.specs.Figures.{HasFigures}
use Rattle.blk_trace.specs.Depths.{capacity_of}
use Rattle.blk_trace.specs.Happened.{Happened}
use Rattle.blk_trace.specs.Meaning.{commands_of, rounds_of, waiting_of}
use Rattle.blk_trace.specs.Setups.{Setup}
use Rattle.blk_report.specs.declared.figures.Report.{Report}
use Rattle.answer.specs.declared.names.TheConstants as names
use Rattle.answer.specs.declared.answer.Part.{Part}
use Rattle.answer.specs.declared.answer.Part.TheVariants.{Member}
use Rattle.answer.specs.declared.value.Value.TheVariants.{Count}
use Rattle.edd_figures.specs.Answers.{figures_parts}

-- the report of the trace of these events; what its rounds carry is the trace's own capacity
pub record IsReport (setup : Setup) (events : List Happened) (r : Report) : Type 0 where
  pub commands : r.commands ≡ length (commands_of setup events)
  pub waiting : r.waiting ≡ length (waiting_of events)
  pub depth : r.depth ≡ setup.depth
  pub figures : HasFigures (commands_of setup events) (rounds_of events) (capacity_of setup events) r.figures

-- a report
abbrev pub report_parts : Report → List Part
report_parts r =
    (Member names.COMMANDS.now (Count r.commands) ∷ Member names.WAITING.now (Count r.waiting) ∷ Member names.DEPTH.now (Count r.depth) ∷ []) ++ figures_parts r.figures
