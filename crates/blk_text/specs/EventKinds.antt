-- The table of the events of a trace.
use Rattle.std.specs.Prelude.{List, [], ◌∷◌}
use Rattle.blk_records.specs.Kinds.{KindRow, row}
use Rattle.blk_text.specs.declared.heads.TheConstants.{TICK, RELEASE, JOIN, ISSUE, DONE, BACK, DEPTH}

-- the row of each kind's first record
abbrev pub event_table : List KindRow
event_table = row TICK ∷ row RELEASE ∷ row JOIN ∷ row ISSUE ∷ row DONE ∷ row BACK ∷ row DEPTH ∷ []
