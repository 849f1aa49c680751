-- A report as text.
use Rattle.std.specs.Prelude.{ℕ, List}
use Rattle.answer.specs.Lines.{answer_lines}
use Rattle.blk_report.specs.declared.figures.Report.{Report}
use Rattle.blk_report.specs.Shortfall.{report_parts}

-- its lines
abbrev pub report_text : Report → List ℕ
report_text r = answer_lines (report_parts r)
