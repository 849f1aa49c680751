use Rattle.std.proofs.Common.{◌≡◌, ◌∷◌, ◌++◌, ◌∙◌, ◌+◌, length, take, sym, ap, subst, IsPermutation}
use Rattle.blk_layer.specs.Inside.Closing.{all_left}
use Rattle.blk_layer.proofs.Checked.{off_more, put_back}
use Rattle.blk_layer.proofs.checking.is_checked_off.Goals as goal

pub loop-element-preserved : goal.loop-element-preserved
loop-element-preserved g c =
    let old = c.loop-element.accounts.items in
    let new = c.check_one.new.accounts in
    let given : c.as_mut_slice.result.now ≡ old = c.as_mut_slice.ensures.value in
    let back = put_back new old c.loop-element.accounts.len c.loop-element.accounts.ok.0 (c.check_one.auto.accounts ∙ ap length given) in
    let off : IsPermutation (all_left old) (c.element-item.result ∷ all_left new) = subst (λ l. IsPermutation (all_left l) (c.element-item.result ∷ all_left new)) given c.in-Some.ensures in
    subst (λ l. IsPermutation (all_left c.args.accounts.items) (take (c.loop-element.element-index + 1) c.args.list.now ++ all_left l)) (sym back)
    (off_more (all_left c.args.accounts.items) c.args.list.now (all_left old) (all_left new) c.loop-element.element-index c.element-item.result c.loop-element-test.true c.element-item.is c.loop-element.invariant off)
