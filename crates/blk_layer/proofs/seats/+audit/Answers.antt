use Rattle.std.proofs.Common.{ap, arith, length}
use Rattle.blk_layer.specs.Seats.{WorkerSeat}
use Rattle.blk_layer.proofs.Gathered.{none_ran, first_ran}
use Rattle.blk_layer.proofs.seats.+audit.Goals as goal

pub returns-in_default-clause-amounts : goal.returns-in_default-clause-amounts
returns-in_default-clause-amounts g t c =
    let none = none_ran c.args.workers.now c.in_default.ensures.cases in
    let whole = c.audit.ensures.whole (omega (arith, c.requires.parts, c.in_default.ensures.cases)) in
    omega (arith, none, whole)

pub returns-clause-amounts : goal.returns-clause-amounts
returns-clause-amounts g t c =
    let first = first_ran c.args.workers.now c.in-Some.others.now c.in-Some.worker.now c.in-Some.ensures.cases.0 in
    let count = ap (λ (w : WorkerSeat). length w.ran) c.worker.view_is in
    omega (arith, first, count, c.audit-2.ensures.amounts, c.give.ensures.amount_given, c.len-count.ensures)
