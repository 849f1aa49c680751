-- What the pictures of traces show. How it is drawn, `tools/pictures.py` looks at.
use Rattle.std.specs.Prelude.{ℕ, ℤ, pos, negsuc, suc, ◌≡◌, ◌+◌, ◌-◌, ◌*◌, min, List, Option, Some, None, map}
use Rattle.edd_commands.specs.declared.steps.Step.{Step}
use Rattle.edd_commands.specs.declared.TheConstants.{MAX_ROUNDS}
use Rattle.edd_commands.specs.Capacity.{carried}
use Rattle.edd_figures.specs.declared.lateness.Figures.{Figures}
use Rattle.blk_report.specs.Shortfall.{IsReport}
use Rattle.blk_report.specs.Misses.{IsTallied}
use Rattle.blk_trace.specs.Traces.{Traced}
use Rattle.blk_trace.specs.Events.{round_of}
use Rattle.blk_trace.specs.Meaning.{greatest}
use Rattle.blk_trace.specs.Depths.{capacity_of}
use Rattle.blk_picture.specs.declared.scale.Scale.{Scale}
use Rattle.blk_picture.specs.Boxes.{boxes_of}
use Rattle.blk_picture.specs.Columns.{column_of, drawn_columns}
use Rattle.blk_picture.specs.Made.{made}
use Rattle.blk_picture.specs.declared.parts.Drawing.{Drawing}
use Rattle.blk_picture.specs.declared.columns.Column.{Column}

-- how many rounds of a trace are shown: the one that is on is the last
abbrev pub rounds_shown : Traced → ℕ
rounds_shown t = round_of t.events + 1

-- the most rounds and the most tags of several traces
unfoldable pub most_rounds : List Traced → ℕ
most_rounds traces = greatest (map rounds_shown traces)

unfoldable pub most_deep : List Traced → ℕ
most_deep traces = greatest (map (λ t. t.setup.depth) traces)

-- the round before which what is due in a round has to run, if it is to be less late than this; no later than rounds are counted
abbrev pub latest_end : ℕ → ℤ → ℕ
latest_end due (pos n) = min (due + n) (2 * MAX_ROUNDS - 1)
latest_end due (negsuc n) = min (due - suc n) (2 * MAX_ROUNDS - 1)

-- how many commands the rounds of the crowded window carry, if each is to be less late than the least lateness
abbrev pub crowded_room : List Step → Option Figures → ℕ
crowded_room steps (Some f) = carried steps f.window.from (latest_end f.window.due f.least - f.window.from)
crowded_room steps None = 0

-- the columns of a trace that are drawn
abbrev pub drawn_of : Traced → Scale → List Column
drawn_of t scale = drawn_columns scale (made (column_of t.setup t.events scale) scale.columns)

-- what is drawn of a trace on a scale: its report and its misses, with what the rounds of its crowded window carry; its boxes, and those of its
-- columns that are drawn
pub record IsDrawing (scale : Scale) (t : Traced) (d : Drawing) : Type 0 where
  pub is_report : IsReport t.setup t.events d.report
  pub is_tallied : IsTallied t.setup t.events d.missed.tally d.missed.windows.items
  pub room_is : d.room ≡ crowded_room (capacity_of t.setup t.events) d.report.figures
  pub boxes_are : d.boxes.items ≡ boxes_of t.setup t.events
  pub columns_are : d.columns.items ≡ drawn_of t scale
