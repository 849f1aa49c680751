use Rattle.std.proofs.Common.{◌≡◌, ◌∙◌, ◌==◌, ◌&&◌, true, false, get_or, refl, sym}
use Rattle.std.proofs.lemmas.List.{drop_all}
use Rattle.blk_explain.specs.Lines.{begins}
use Rattle.blk_explain.specs.Inside.Ends.{line_state}
use Rattle.blk_explain.proofs.Walks.{found_at, walks_on, at_end, if_le}
use Rattle.blk_explain.proofs.lines.line_at.Goals as goal

pub returns-then-is_it : goal.returns-then-is_it
returns-then-is_it c =
    let text = c.unmarked-text.result.now in
    let here : (begins (line_state c.loop-i.state) (get_or text c.loop-i.i 0) && (c.loop-i.left == 1)) ≡ true = rw (← c.begins-begun.ensures, ← c.is_it.ensures) c.if-is_it.true in
    sym (found_at (line_state c.loop-i.state) c.loop-i.returned c.loop-i.line c.loop-i.left text c.loop-i.i (get_or text c.loop-i.i 0) c.loop-i-test.true refl here) ∙ c.loop-i.invariant.walk

pub loop-i-preserved : goal.loop-i-preserved
loop-i-preserved c =
    let text = c.unmarked-text.result.now in
    let on : (begins (line_state c.loop-i.state) (get_or text c.loop-i.i 0) && (c.loop-i.left == 1)) ≡ false = rw (← c.begins-begun.ensures, ← c.is_it.ensures) c.if-is_it.false in
    record {
      walk =
          rw (c.state_after-state.ensures, c.line_after-line.ensures, c.left_after-left.ensures, c.begins-begun.ensures)
          (sym (walks_on (line_state c.loop-i.state) c.loop-i.returned c.loop-i.line c.loop-i.left text c.loop-i.i (get_or text c.loop-i.i 0) c.loop-i-test.true refl on) ∙ c.loop-i.invariant.walk);
      few = rw c.line_after-line.ensures (if_le _ c.loop-i.line _ c.loop-i.invariant.few);
    }

pub returns : goal.returns
returns c =
    sym (at_end (line_state c.loop-i.state) c.loop-i.returned c.loop-i.line c.loop-i.left) ∙ (rw (drop_all c.loop-i.i c.unmarked-text.result.now c.loop-i-test.false) at c.loop-i.invariant.walk)
