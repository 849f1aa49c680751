use Rattle.std.proofs.Common.{List, subst, ◌++◌, ◌<◌, ◌+◌, ℕ, take, length, get_or}
use Rattle.std.proofs.lemmas.List.{take_all}
use Rattle.blk_lanes.specs.Held.{Says, drawn_facts, panel_facts}
use Rattle.blk_lanes.specs.declared.bars.Bar.{Bar}
use Rattle.blk_lanes.specs.declared.bars.Span.{Span}
use Rattle.blk_lanes.specs.declared.bars.Unit.{Unit}
use Rattle.blk_lanes.specs.declared.bars.Interval.{Interval}
use Rattle.blk_lanes.proofs.Saying.{says_same, says_flat}
use Rattle.blk_lanes.proofs.draw.push_panels.Goals as goal

one_more : (u : Unit) (bars : List Bar) (spans : List Span) (panels : List Interval) (i : ℕ) (d : Interval) (old mid new : List ℕ) → i < length panels → Says (drawn_facts u bars spans (take i panels)) old mid → Says (panel_facts u bars spans (get_or panels i d)) mid new → Says (drawn_facts u bars spans (take (i + 1) panels)) old new
unfolding drawn_facts
one_more u bars spans panels i d old mid new l h k = says_flat (panel_facts u bars spans) panels i d old mid new l h k

none : (u : Unit) (bars : List Bar) (spans : List Span) (panels : List Interval) (old : List ℕ) → Says (drawn_facts u bars spans (take 0 panels)) old old
unfolding drawn_facts
none u bars spans panels old = says_same old

pub loop-number-init : goal.loop-number-init
loop-number-init c = none c.args.unit c.args.bars.now c.args.spans.now c.args.intervals.now c.args.draft.now

pub loop-number-preserved : goal.loop-number-preserved
loop-number-preserved c =
    one_more c.args.unit c.args.bars.now c.args.spans.now c.args.intervals.now c.loop-number.number _ c.args.draft.now c.loop-number.draft c.push_panel.new.draft c.loop-number-test.true c.loop-number.invariant c.in_ok-top.ensures

pub returns : goal.returns
returns c =
    subst (λ (l : List Interval). Says (drawn_facts c.args.unit c.args.bars.now c.args.spans.now l) c.args.draft.now c.loop-number.draft) (take_all c.loop-number.number c.args.intervals.now c.loop-number-test.false) c.loop-number.invariant
