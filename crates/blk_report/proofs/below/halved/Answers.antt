use Rattle.std.proofs.Common.{◌++◌, ◌-◌, ◌∙◌, ap, map, nat_lt, nat_le}
use Rattle.std.specs.List.{filter}
use Rattle.std.proofs.lemmas.List.{take_all}
use Rattle.blk_report.specs.Inside.Below.{halves}
use Rattle.blk_report.proofs.below.halved.Goals as goal

pub returns : goal.returns
unfolding halves
returns g c =
    c.loop-number.invariant
    ∙ ap (λ l. filter (λ x. nat_lt x c.args.pivot) c.args.numbers.now ++ map (λ x. x - c.args.pivot) (filter (λ x. nat_le c.args.pivot x) l)) (take_all c.loop-number.number-index c.args.numbers.now c.loop-number-test.false)
