-- Texts that hold facts in an order.
use Rattle.std.specs.Prelude.{ℕ, ◌≡◌, ◌≤◌, ◌++◌, ◌∷◌, [], ⊤, List, length, map, flat_map, take}
use Rattle.std.specs.List.{filter_map}
use Rattle.blk_lanes.specs.declared.bars.Bar.{Bar}
use Rattle.blk_lanes.specs.declared.bars.Interval.{Interval}
use Rattle.blk_lanes.specs.declared.bars.Span.{Span}
use Rattle.blk_lanes.specs.declared.bars.Unit.{Unit}
use Rattle.blk_lanes.specs.declared.panel.TheConstants.{MAX_BARS}
use Rattle.blk_lanes.specs.declared.draw.TheConstants.{MAX_PANELS, MAX_WHOLE}
use Rattle.blk_lanes.specs.Shown.{bar_within, span_within}
use Rattle.blk_lanes.specs.Facts.{bar_fact, span_fact}

-- the text has these, one behind another, with anything between
unfoldable pub Holds : List (List ℕ) → List ℕ → Type 0
Holds [] text = ⊤
Holds (f ∷ fs) text = (before : List ℕ) × (rest : List ℕ) × (text ≡ (before ++ f) ++ rest) × Holds fs rest

-- a text grows by one that holds these
abbrev pub Says : List (List ℕ) → List ℕ → List ℕ → Type 0
Says facts old new = (text : List ℕ) × (new ≡ old ++ text) × Holds facts text

-- what is said in the panel of an interval: of each stall and window that has a part in it, and of each request that waits in it, up to a number
unfoldable pub panel_facts : Unit → List Bar → List Span → Interval → List (List ℕ)
panel_facts u bars spans p = map (span_fact u) (filter_map (span_within p) spans) ++ map (bar_fact u) (take MAX_BARS (filter_map (bar_within p) bars))

unfoldable pub drawn_facts : Unit → List Bar → List Span → List Interval → List (List ℕ)
drawn_facts u bars spans panels = flat_map (panel_facts u bars spans) panels

-- all times
abbrev pub whole_time : Interval
whole_time = record { from = 0; to = 18446744073709551615 }

-- the picture of requests under a heading: few are drawn in one panel that has all, and of more some intervals are, each a panel that has all
-- that is in it
pub record IsDrawn (u : Unit) (head : List ℕ) (bars : List Bar) (spans : List Span) (text : List ℕ) : Type 0 where
  pub panels : List Interval
  pub few : length panels ≤ MAX_PANELS
  pub whole : length bars ≤ MAX_WHOLE → panels ≡ whole_time ∷ []
  pub holds : Holds (head ∷ drawn_facts u bars spans panels) text
