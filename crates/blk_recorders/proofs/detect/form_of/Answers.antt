use Rattle.std.proofs.Common.{◌≡◌, ◌∙◌, ◌+◌, ◌-◌, ℕ, Some, None, ap, sym, take, arith}
use Rattle.blk_recorders.specs.Words.{words, line_between}
use Rattle.blk_recorders.specs.Detected.{form_told, first_form}
use Rattle.blk_recorders.specs.declared.detect.TheConstants.{FIRST_LINES}
use Rattle.blk_recorders.proofs.Cutting.{lines_left}
use Rattle.blk_recorders.proofs.Detecting.{told, untold, none_told, none_looked_at}
use Rattle.blk_recorders.proofs.detect.form_of.Goals as goal

pub returns-in-Some : goal.returns-in-Some
returns-in-Some c =
    let text = c.args.text.now in
    let left : FIRST_LINES - c.loop-line._line ≡ FIRST_LINES - (c.loop-line._line + 1) + 1 = omega (arith, c.loop-line-test.true) in
    let e : form_told (words (line_between text c.loop-line.begin c.in_ok-end.end)) ≡ Some c.in-Some.form = ap form_told (sym c.in_ok-end.ensures.cut) ∙ sym c.in_ok-form.ensures ∙ c.in-Some.is in
    sym (ap (λ (n : ℕ). first_form (take n (lines_left text c.loop-line.begin))) left ∙ told text (FIRST_LINES - (c.loop-line._line + 1)) c.loop-line.begin c.in_ok-end.end c.in-Some.form c.in_ok-end.ensures.end e)
    ∙ c.loop-line.invariant.same

pub loop-line-preserved : goal.loop-line-preserved
loop-line-preserved c =
    let text = c.args.text.now in
    let left : FIRST_LINES - c.loop-line._line ≡ FIRST_LINES - (c.loop-line._line + 1) + 1 = omega (arith, c.loop-line-test.true) in
    let e : form_told (words (line_between text c.loop-line.begin c.in_ok-end.end)) ≡ None = ap form_told (sym c.in_ok-end.ensures.cut) ∙ sym c.in_ok-form.ensures ∙ c.in-None.is in
    record {
      within = omega (arith, c.in_ok-end.ensures.end.within);
      same = sym (ap (λ (n : ℕ). first_form (take n (lines_left text c.loop-line.begin))) left ∙ untold text (FIRST_LINES - (c.loop-line._line + 1)) c.loop-line.begin c.in_ok-end.end c.in_ok-end.ensures.end e)
          ∙ c.loop-line.invariant.same;
    }

pub returns-then-begin-text : goal.returns-then-begin-text
returns-then-begin-text c = sym (none_told c.args.text.now (FIRST_LINES - c.loop-line._line) c.loop-line.begin c.if-begin-text.true) ∙ c.loop-line.invariant.same

pub returns : goal.returns
returns c =
    let none : FIRST_LINES - c.loop-line._line ≡ 0 = omega (arith, c.loop-line-test.false) in
    sym (ap (λ (n : ℕ). first_form (take n (lines_left c.args.text.now c.loop-line.begin))) none ∙ none_looked_at (lines_left c.args.text.now c.loop-line.begin)) ∙ c.loop-line.invariant.same
