-- The rows of a trial of a script.
use Rattle.std.specs.Prelude.{List}
use Rattle.blk_text.specs.Script.{Scripted}
use Rattle.blk_schedulers.specs.Wanted.{Wanted}
use Rattle.blk_tune.specs.declared.row.TrialRow.{TrialRow}
use Rattle.blk_tune.specs.Row.{AreRowsUnder}
use Rattle.blk_tune.specs.Order.{AreBestFirst}

-- the rows of the grid, each once, the best first; of those that are as good in the grid's order
pub record AreTuned (w : Wanted) (script : Scripted) (rows : List TrialRow) : Type 0 where
  pub in_turn : List TrialRow
  pub are_rows : AreRowsUnder w.grid script in_turn
  pub best_first : AreBestFirst w.by in_turn rows
