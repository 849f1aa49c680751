use Rattle.std.proofs.Common.{◌≡◌, ◌∙◌, true, false, sym}
use Rattle.blk_args.proofs.Lines.{a_table, a_summary, a_schedule}
use Rattle.blk_args.proofs.words.written_of.Goals as goal
use Rattle.blk_args.proofs.words.written_of.Goals.{else-table-3-via-then-table-3+else-summary-3, else-table-3-via-else-table-3}

pub returns-then-table-4 : goal.returns-then-table-4
returns-then-table-4 c =
    elim c.else-table-3.branch [
      | else-table-3-via-then-table-3+else-summary-3 w ↦ c.unscripted.ensures ∙ a_table _ _ _ _ _ _ _ _ _ _ c.in-Ok.ensures c.is_flagged.ensures c.if-is_flagged.false c.is_flagged-table.ensures c.if-table-4.true c.is_flagged-summary.ensures w.if-summary-3.false c.number_of-depth.ensures
      | else-table-3-via-else-table-3 w ↦ let h : true ≡ false = sym c.if-table-4.true ∙ w.if-table-3.false in cc h
    ]

pub returns-then-summary-4 : goal.returns-then-summary-4
returns-then-summary-4 c =
    c.unscripted-then-summary-4.ensures ∙ a_summary _ _ _ _ _ _ _ _ _ _ c.in-Ok.ensures c.is_flagged.ensures c.if-is_flagged.false c.is_flagged-table.ensures c.if-table-4.false c.is_flagged-summary.ensures c.if-summary-4.true c.number_of-depth.ensures

pub returns-else-summary-4 : goal.returns-else-summary-4
returns-else-summary-4 c =
    c.unscripted-else-summary-4.ensures ∙ a_schedule _ _ _ _ _ _ _ _ _ _ c.in-Ok.ensures c.is_flagged.ensures c.if-is_flagged.false c.is_flagged-table.ensures c.if-table-4.false c.is_flagged-summary.ensures c.if-summary-4.false c.number_of-depth.ensures
