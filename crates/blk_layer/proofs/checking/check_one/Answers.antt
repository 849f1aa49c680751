use Rattle.std.proofs.Common.{◌∷◌, ◌<◌, length, subst, arith, IsPermutation, set}
use Rattle.blk_layer.specs.Inside.Closing.{all_left}
use Rattle.blk_layer.proofs.Checked.{one_off}
use Rattle.blk_layer.proofs.checking.check_one.Goals as goal
use Rattle.blk_layer.proofs.checking.check_one.Goals.{then-place-accounts, else-place-accounts}

pub returns-then-check : goal.returns-then-check
returns-then-check g c =
    let low : c.if-place-accounts.place < length c.loop.accounts = elim c.if-place-accounts.branch [
      | then-place-accounts w ↦ omega (arith, w.place-is, c.loop-test.true, c.loop.auto.accounts)
      | else-place-accounts w ↦ omega (arith, w.place-is, w.if-place-accounts.false)
    ] in
    subst (λ ls. IsPermutation (all_left ls) (c.args.element.now ∷ all_left (set c.loop.accounts c.if-place-accounts.place c.check.new.self))) c.loop.invariant
    (one_off c.loop.accounts c.if-place-accounts.place c.index-accounts-place.result c.check.new.self c.args.element.now low (c.check.ensures.off c.if-check.true))
