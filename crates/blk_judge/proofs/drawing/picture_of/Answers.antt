use Rattle.std.proofs.Common.{◌≡◌, ◌∙◌, ℕ, List, map, ap, subst}
use Rattle.std.specs.Prelude.{Option}
use Rattle.std.specs.List.{zip}
use Rattle.edd_verdict.specs.declared.Verdict.{Verdict}
use Rattle.blk_lanes.specs.Held.{IsDrawn}
use Rattle.blk_lanes.specs.declared.bars.Bar.{Bar}
use Rattle.blk_lanes.specs.declared.bars.Span.{Span}
use Rattle.blk_lanes.specs.declared.bars.Unit.{Unit}
use Rattle.blk_judge.specs.Drawing.{command_bar, window_span}
use Rattle.blk_judge.proofs.drawing.picture_of.Goals as goal

-- what is drawn of equal lists
same_drawn : (u : Unit) (h k : List ℕ) (bs cs : List Bar) (ss ts : List Span) (text : List ℕ) → h ≡ k → bs ≡ cs → ss ≡ ts → IsDrawn u h bs ss text → IsDrawn u k cs ts text
same_drawn u h k bs cs ss ts text e f g d = subst (λ x. IsDrawn u k cs x text) g (subst (λ x. IsDrawn u k x ss text) f (subst (λ x. IsDrawn u x bs ss text) e d))

pub returns : goal.returns
returns c =
    let commands = c.args.commands.now in
    let rounds = c.args.rounds.now in
    let verdicts : List (Option Verdict) = c.in_ok-verdicts.verdicts.items in
    record {
      legal = c.requires.legal;
      counts = c.in_ok-missed.missed.counts;
      windows = c.in_ok-missed.missed.windows.items;
      misses = c.in_ok-missed.ensures.are;
      spares = c.in_ok-missed.ensures.spares;
      verdicts = verdicts;
      right = c.in_ok-verdicts.ensures;
      drawn = same_drawn _ _ _ _ _ _ _ _
          (c.as_slice-3.ensures.value ∙ c.in_ok-heading.ensures)
          (c.as_slice-4.ensures.value ∙ c.in_ok-bars.ensures ∙ ap (λ (vs : List (Option Verdict)). map command_bar (zip (zip commands rounds) vs)) c.as_slice.ensures.value)
          (c.as_slice-5.ensures.value ∙ c.in_ok-spans.ensures ∙ ap (map window_span) c.as_slice-2.ensures.value)
          c.in_ok-text.ensures;
    }
