use Rattle.std.proofs.Common.{arith, ap}
use Rattle.blk_blame.proofs.Counting.{counted_of}
use Rattle.blk_blame.proofs.late_groups.late_group_of.Goals as goal

pub overflow_sub-result : goal.overflow_sub-result
overflow_sub-result c = omega (arith, counted_of c.args.by c.args.requests.now c.args.sorted.now c.args.key c.requires.same, c.count_upto.ensures, c.count_below.ensures)

pub returns : goal.returns
returns c = ap (λ n. record { key = c.args.key; late = n }) (omega (arith, counted_of c.args.by c.args.requests.now c.args.sorted.now c.args.key c.requires.same, c.count_upto.ensures, c.count_below.ensures))
