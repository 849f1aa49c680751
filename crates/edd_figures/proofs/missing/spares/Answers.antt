use Rattle.std.proofs.Common.{◌≡◌, ◌∙◌, arith, sym, ap}
use Rattle.std.proofs.lemmas.List.{take_all}
use Rattle.edd_verdict.specs.Verdicts.{spares_in}
use Rattle.edd_figures.proofs.Spares.{one_if, no_spares, spares_more}
use Rattle.edd_figures.proofs.missing.spares.Goals as goal
use Rattle.edd_figures.proofs.missing.spares.Goals.{then-is_spare, else-is_spare}

pub loop-verdict-init : goal.loop-verdict-init
loop-verdict-init c = record { few = omega arith; so_far = sym (no_spares c.args.verdicts.now) }

pub loop-verdict-preserved : goal.loop-verdict-preserved
loop-verdict-preserved c =
    let old = c.loop-verdict.invariant in
    let more = spares_more c.args.verdicts.now c.loop-verdict.verdict-index c.is_spare.result c.loop-verdict-test.true c.is_spare.ensures in
    elim c.if-is_spare.branch [
      | then-is_spare w ↦ (let one : one_if c.is_spare.result ≡ 1 = ap one_if w.if-is_spare.true in record {
        few = omega (arith, w.count-is, old.few);
        so_far = omega (arith, w.count-is, more, one, old.so_far);
      })
      | else-is_spare w ↦ (let none : one_if c.is_spare.result ≡ 0 = ap one_if w.if-is_spare.false in record {
        few = omega (arith, w.count-is, old.few);
        so_far = omega (arith, w.count-is, more, none, old.so_far);
      })
    ]

pub returns : goal.returns
returns c = c.loop-verdict.invariant.so_far ∙ ap spares_in (take_all c.loop-verdict.verdict-index c.args.verdicts.now c.loop-verdict-test.false)
