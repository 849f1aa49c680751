-- What is said of a request and of a time that is drawn.
use Rattle.std.specs.Prelude.{ℕ, ◌-◌, ◌∷◌, [], Bool, cond, nat_lt, List, codes}
use Rattle.answer.specs.declared.names.TheConstants as names
use Rattle.answer.specs.declared.value.Value.{Value}
use Rattle.answer.specs.declared.value.Value.TheVariants.{Count, Text, Time}
use Rattle.answer.specs.declared.cells.Cell.{Cell}
use Rattle.answer.specs.declared.cells.Layout.TheVariants.{Words}
use Rattle.answer.specs.declared.answer.Part.{Part}
use Rattle.answer.specs.declared.answer.Part.TheVariants.{Line}
use Rattle.answer.specs.Parts.{cell}
use Rattle.answer.specs.Lines.{answer_lines}
use Rattle.blk_lanes.specs.declared.bars.Bar.{Bar}
use Rattle.blk_lanes.specs.declared.bars.Span.{Span}
use Rattle.blk_lanes.specs.declared.bars.Unit.{Unit}
use Rattle.blk_lanes.specs.declared.bars.Unit.TheVariants as unit
use Rattle.blk_lanes.specs.declared.bars.Way.{Way}
use Rattle.blk_lanes.specs.declared.bars.Way.TheVariants as way
use Rattle.blk_lanes.specs.declared.bars.Mark.{Mark}
use Rattle.blk_lanes.specs.declared.bars.Mark.TheVariants as mark

abbrev pub cell_behind : List ℕ → Value → Cell
cell_behind words value = cell (Words words) [] value

abbrev pub time_value : Unit → ℕ → Value
time_value unit.Rounds t = Count t
time_value unit.Nanoseconds t = Time t

abbrev pub way_words : Way → List ℕ
way_words way.Read = codes "read "
way_words way.Write = codes "write "
way_words way.Unknown = codes "command "

abbrev pub mark_words : Mark → List ℕ
mark_words mark.OnTime = codes "on time"
mark_words mark.Spare = names.SPARE.now
mark_words mark.Full = names.FULL.now
mark_words mark.Stall = names.STALL.now
mark_words mark.Arrival = names.ARRIVAL.now
mark_words mark.Gap = names.GAP.now

-- how far apart the deadline and the dispatch of a request are, and which comes first
abbrev pub bar_apart : Bar → ℕ
bar_apart b = cond (nat_lt b.due b.to) (b.to - b.due) (b.due - b.to)

abbrev pub apart_words : Bar → List ℕ
apart_words b = cond (nat_lt b.due b.to) (codes ", late by ") (codes ", early by ")

-- of a request: its way and its number, when it came in, was due and went out, how late or early it was, and why
abbrev pub bar_part : Unit → Bar → Part
bar_part u b = Line (record {
  cells =
      cell_behind (way_words b.way) (Count b.id) ∷ cell_behind (codes ": in ") (time_value u b.from) ∷ cell_behind (codes ", due ") (time_value u b.due)
      ∷ cell_behind (codes ", out ") (time_value u b.to) ∷ cell_behind (apart_words b) (time_value u (bar_apart b)) ∷ cell_behind (codes ": ") (Text (mark_words b.mark)) ∷ [];
  end = [];
})

abbrev pub span_words : Span → List ℕ
span_words s = cond s.stall (codes "stall from ") (codes "crowded window from ")

-- of a stall or a crowded window: its ends, how many requests lie in it, and how many dispatches
abbrev pub span_part : Unit → Span → Part
span_part u s = Line (record {
  cells =
      cell_behind (span_words s) (time_value u s.from) ∷ cell_behind (codes " to ") (time_value u s.to) ∷ cell_behind (codes ": requests ") (Count s.requests)
      ∷ cell_behind (codes ", carries ") (Count s.carries) ∷ [];
  end = [];
})

-- as text
unfoldable pub bar_fact : Unit → Bar → List ℕ
bar_fact u b = answer_lines (bar_part u b ∷ [])

unfoldable pub span_fact : Unit → Span → List ℕ
span_fact u s = answer_lines (span_part u s ∷ [])
