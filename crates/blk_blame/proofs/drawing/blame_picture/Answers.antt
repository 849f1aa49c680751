use Rattle.std.proofs.Common.{◌≡◌, ◌∙◌, ℕ, List, ap, subst}
use Rattle.std.specs.Prelude.{Option}
use Rattle.edd_blame.specs.declared.late.Cause.{Cause}
use Rattle.edd_commands.specs.declared.Command.{Command}
use Rattle.edd_blame.specs.declared.sum.StallTime.{StallTime}
use Rattle.edd_figures.specs.declared.missing.Crowd.{Crowd}
use Rattle.blk_lanes.specs.Held.{IsDrawn}
use Rattle.blk_lanes.specs.declared.bars.Bar.{Bar}
use Rattle.blk_lanes.specs.declared.bars.Span.{Span}
use Rattle.blk_lanes.specs.declared.bars.Unit.{Unit}
use Rattle.blk_blame.specs.Drawing.{request_bars, all_spans}
use Rattle.blk_blame.proofs.drawing.blame_picture.Goals as goal

-- what is drawn of equal lists
same_drawn : (u : Unit) (h k : List ℕ) (bs cs : List Bar) (ss ts : List Span) (text : List ℕ) → h ≡ k → bs ≡ cs → ss ≡ ts → IsDrawn u h bs ss text → IsDrawn u k cs ts text
same_drawn u h k bs cs ss ts text e f g d = subst (λ x. IsDrawn u k cs x text) g (subst (λ x. IsDrawn u k x ss text) f (subst (λ x. IsDrawn u x bs ss text) e d))

pub returns : goal.returns
returns c =
    let begin = c.args.begin in
    let requests = c.args.requests.now in
    let causes : List (Option Cause) = c.as_slice.result.now in
    let stalls : List StallTime = c.as_slice-2.result.now in
    record {
      account = c.in_ok-account.account;
      is_account = c.in_ok-account.ensures;
      drawn = same_drawn _ _ _ _ _ _ _ _
          (c.as_slice-3.ensures.value ∙ c.in_ok-heading.ensures)
          (c.as_slice-4.ensures.value ∙ c.in_ok-bars.ensures ∙ ap (λ (cs : List Command). request_bars begin cs requests causes) c.as_slice-commands.ensures.value ∙ ap (request_bars begin c.in_ok-account.account.counted.commands.items requests) c.as_slice.ensures.value)
          (c.as_slice-5.ensures.value ∙ c.in_ok-spans.ensures ∙ ap (λ (ws : List Crowd). all_spans begin requests stalls ws) c.as_slice-windows.ensures.value ∙ ap (λ (xs : List StallTime). all_spans begin requests xs c.in_ok-account.account.blame.misses.windows.items) c.as_slice-2.ensures.value)
          c.in_ok-text.ensures;
    }
