use Rattle.std.proofs.Common.{List, subst, map, arith}
use Rattle.std.proofs.lemmas.List.{take_all}
use Rattle.blk_lanes.specs.Facts.{span_fact}
use Rattle.blk_lanes.specs.Held.{Says}
use Rattle.blk_lanes.specs.declared.bars.Span.{Span}
use Rattle.blk_lanes.proofs.Saying.{says_same, says_map}
use Rattle.blk_lanes.proofs.panel.push_spans.Goals as goal

pub loop-place-init : goal.loop-place-init
loop-place-init c = says_same c.args.draft.now

pub loop-place-preserved : goal.loop-place-preserved
loop-place-preserved c =
    says_map (span_fact c.args.layout.now.ruler.unit) c.args.spans.now c.loop-place.place _ c.args.draft.now c.loop-place.draft c.push_span.new.draft c.loop-place-test.true c.loop-place.invariant c.in_ok-push_span.ensures

pub returns : goal.returns
returns c =
    subst (λ (l : List Span). Says (map (span_fact c.args.layout.now.ruler.unit) l) c.args.draft.now c.loop-place.draft) (take_all c.loop-place.place c.args.spans.now c.loop-place-test.false) c.loop-place.invariant
