use Rattle.std.proofs.Common.{◌+◌, arith}
use Rattle.blk_report.proofs.Halving.{is_halved, told, told_low, told_high, count_fits}
use Rattle.blk_report.proofs.below.half_of.Goals as goal

pub overflow_sub-result : goal.overflow_sub-result
overflow_sub-result c =
    let at = told c.args.numbers.now c.args.pivot (c.args.pivot + c.args.pivot) c.args.counts.now c.args.ask c.requires.counts c.requires.ask in
    let is = is_halved c.args.numbers.now c.args.pivot (c.args.pivot + c.args.pivot) c.args.ask c.requires.ask in
    omega (arith, at.start, is.started)

pub overflow_add-result : goal.overflow_add-result
overflow_add-result c =
    let at = told c.args.numbers.now c.args.pivot (c.args.pivot + c.args.pivot) c.args.counts.now c.args.ask c.requires.counts c.requires.ask in
    let is = is_halved c.args.numbers.now c.args.pivot (c.args.pivot + c.args.pivot) c.args.ask c.requires.ask in
    omega (arith, at.start, at.all, is.forward, is.within, c.requires.few)

pub overflow_sub-result-else-ask-pivot : goal.overflow_sub-result-else-ask-pivot
overflow_sub-result-else-ask-pivot c =
    let at = told c.args.numbers.now c.args.pivot (c.args.pivot + c.args.pivot) c.args.counts.now c.args.ask c.requires.counts c.requires.ask in
    let is = is_halved c.args.numbers.now c.args.pivot (c.args.pivot + c.args.pivot) c.args.ask c.requires.ask in
    omega (arith, at.end, is.ended)

pub overflow_add-result-else-ask-pivot : goal.overflow_add-result-else-ask-pivot
overflow_add-result-else-ask-pivot c =
    let at = told c.args.numbers.now c.args.pivot (c.args.pivot + c.args.pivot) c.args.counts.now c.args.ask c.requires.counts c.requires.ask in
    let is = is_halved c.args.numbers.now c.args.pivot (c.args.pivot + c.args.pivot) c.args.ask c.requires.ask in
    omega (arith, at.end, at.all, is.within, c.requires.few)

pub overflow_sub-result-else-ask-pivot-3 : goal.overflow_sub-result-else-ask-pivot-3
overflow_sub-result-else-ask-pivot-3 c =
    let at = told c.args.numbers.now c.args.pivot (c.args.pivot + c.args.pivot) c.args.counts.now c.args.ask c.requires.counts c.requires.ask in
    let is = is_halved c.args.numbers.now c.args.pivot (c.args.pivot + c.args.pivot) c.args.ask c.requires.ask in
    omega (arith, at.start, at.end, is.rises)

pub overflow_add-result-else-ask-pivot-2 : goal.overflow_add-result-else-ask-pivot-2
overflow_add-result-else-ask-pivot-2 c =
    let at = told c.args.numbers.now c.args.pivot (c.args.pivot + c.args.pivot) c.args.counts.now c.args.ask c.requires.counts c.requires.ask in
    let fits = count_fits c.args.numbers.now c.args.pivot (c.args.pivot + c.args.pivot) c.args.ask c.requires.ask c.if-ask-pivot.false in
    omega (arith, at.start, at.end, fits, c.requires.few)

pub returns-then-ask-pivot : goal.returns-then-ask-pivot
returns-then-ask-pivot c = told_low c.args.numbers.now c.args.pivot (c.args.pivot + c.args.pivot) c.args.counts.now c.args.ask c.requires.counts c.requires.ask c.if-ask-pivot.true

pub returns-else-ask-pivot : goal.returns-else-ask-pivot
returns-else-ask-pivot c = told_high c.args.numbers.now c.args.pivot (c.args.pivot + c.args.pivot) c.args.counts.now c.args.ask c.requires.counts c.requires.ask c.if-ask-pivot.false
