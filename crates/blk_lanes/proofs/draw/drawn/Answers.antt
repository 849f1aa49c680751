use Rattle.std.proofs.Common.{◌++◌, ◌∙◌, ℕ, List, ap, arith, length}
use Rattle.std.specs.Prelude.{codes}
use Rattle.blk_lanes.specs.Held.{drawn_facts}
use Rattle.blk_lanes.proofs.Saying.{holds_drawn, says_made}
use Rattle.blk_lanes.proofs.draw.drawn.Goals as goal

pub returns : goal.returns
returns c =
    let panels = c.as_slice.result.now in
    let facts : List (List ℕ) = drawn_facts c.args.unit c.args.bars.now c.args.spans.now panels in
    let head : List ℕ = c.as_slice-3.result.now in
    let legend : List ℕ = c.as_slice-4.result.now in
    let body : List ℕ = c.as_slice-5.result.now in
    record {
      panels = panels;
      few = omega (arith, ap length c.as_slice.ensures.value, c.in_ok-choice.ensures.few);
      whole = λ h. c.as_slice.ensures.value ∙ c.in_ok-choice.ensures.whole h;
      holds = holds_drawn facts head c.args.heading.now legend body (codes "</svg>\n") c.text.new.self c.text-2.new.self c.text-3.new.self c.text-4.new.self c.text-5.new.self c.in_ok-svg.svg.items
          (c.in_ok-text.ensures ∙ ap (λ (l : List ℕ). l ++ head) c.new-draft.ensures)
          c.in_ok-text-2.ensures
          c.in_ok-text-3.ensures
          (says_made facts c.new-body.result c.push_panels.new.draft body c.new-body.ensures c.in_ok-height.ensures (c.as_slice-5.ensures.value ∙ c.in_ok-body.ensures))
          c.in_ok-text-4.ensures
          c.in_ok-text-5.ensures
          c.in_ok-svg.ensures;
    }
