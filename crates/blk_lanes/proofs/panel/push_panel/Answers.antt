use Rattle.std.proofs.Common.{◌∙◌, ap, take}
use Rattle.blk_lanes.specs.declared.panel.TheConstants.{MAX_BARS}
use Rattle.blk_lanes.proofs.Saying.{says_panel}
use Rattle.blk_lanes.proofs.panel.push_panel.Goals as goal

pub returns : goal.returns
returns c =
    says_panel c.args.unit c.layout_of-layout.result.ruler.unit c.args.bars.now _ c.args.spans.now _ c.args.place.interval _ _ c.args.draft.now c.text.new.self c.push_spans.new.draft c.push_bars.new.draft c.text-2.new.self
    (c.layout_of-layout.ensures ∙ c.of-ruler.ensures)
    (c.as_slice-5.ensures.value ∙ c.in_ok-spans.ensures)
    (c.first_of-bars.ensures ∙ ap (take MAX_BARS) (c.as_slice.ensures.value ∙ c.in_ok-found.ensures))
    c.in_ok-text.ensures
    c.in_ok-push_spans.ensures
    c.in_ok-push_bars.ensures
    c.in_ok-text-2.ensures
