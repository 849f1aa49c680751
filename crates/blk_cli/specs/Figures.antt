-- What is written of the figures of a trace: an answer, in lines or as JSON.
use Rattle.std.specs.Prelude.{◌≡◌, ℕ, List}
use Rattle.blk_cli.specs.Forms.{written_in}
use Rattle.blk_report.specs.Late.{AreAllLate, late_parts}
use Rattle.blk_report.specs.Misses.{IsTallied, misses_parts}
use Rattle.blk_report.specs.Services.{services_of}
use Rattle.blk_report.specs.Shortfall.{IsReport, report_parts}
use Rattle.blk_report.specs.Spread.{AreSpreads, spread_parts}
use Rattle.blk_report.specs.declared.delays.LateCommand.{LateCommand}
use Rattle.blk_report.specs.declared.figures.Report.{Report}
use Rattle.blk_report.specs.declared.missing.Tally.{Tally}
use Rattle.blk_report.specs.declared.spreading.Spreads.{Spreads}
use Rattle.blk_args.specs.declared.table.FiguresAsked.{FiguresAsked}
use Rattle.blk_args.specs.declared.table.FiguresAsked.TheVariants as figures
use Rattle.blk_schedulers.specs.declared.form.Form.{Form}
use Rattle.blk_trace.specs.Depths.{capacity_of}
use Rattle.blk_trace.specs.Traces.{Traced}
use Rattle.edd_figures.specs.declared.missing.Crowd.{Crowd}

-- the trace's commands that were late
pub record IsLateText (f : Form) (trace : Traced) (text : List ℕ) : Type 0 where
  pub late : List LateCommand
  pub are_late : AreAllLate (services_of trace.setup trace.events) (capacity_of trace.setup trace.events) late
  pub is_text : text ≡ written_in f (late_parts late)

-- how long they waited and how late they were
pub record IsSpreadText (f : Form) (trace : Traced) (text : List ℕ) : Type 0 where
  pub spreads : Spreads
  pub are_spreads : AreSpreads (services_of trace.setup trace.events) spreads
  pub is_text : text ≡ written_in f (spread_parts spreads)

-- how many commands were late and had to be, on what waits, and on the windows that prove it
pub record IsMissesText (f : Form) (trace : Traced) (text : List ℕ) : Type 0 where
  pub tally : Tally
  pub windows : List Crowd
  pub is_tallied : IsTallied trace.setup trace.events tally windows
  pub is_text : text ≡ written_in f (misses_parts tally windows)

-- the trace's report
pub record IsReportText (f : Form) (trace : Traced) (text : List ℕ) : Type 0 where
  pub report : Report
  pub is_report : IsReport trace.setup trace.events report
  pub is_text : text ≡ written_in f (report_parts report)

-- the text of these figures, in this form
abbrev pub IsFiguresText : FiguresAsked → Form → Traced → List ℕ → Type 0
IsFiguresText figures.Late f trace text = IsLateText f trace text
IsFiguresText figures.Misses f trace text = IsMissesText f trace text
IsFiguresText figures.Spread f trace text = IsSpreadText f trace text
IsFiguresText figures.Report f trace text = IsReportText f trace text
