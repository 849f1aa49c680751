use Rattle.blk_args.proofs.Timed.{of_another, no_number, of_number, stripped}
use Rattle.blk_args.proofs.times.in_unit.Goals as goal

pub returns-in-None : goal.returns-in-None
returns-in-None c = of_another c.args.unit.now c.args.text.now c.args.nanoseconds c.in-None.ensures.cases

pub returns-in-None-plain_number : goal.returns-in-None-plain_number
returns-in-None-plain_number c =
    let e = c.in-Some.ensures.cases in
    let s = stripped c.args.unit.now c.args.text.now c.in-Some.number.now e.0 e.1.0 e.1.1 e.2 in
    no_number c.args.unit.now c.args.text.now c.in-Some.number.now c.args.nanoseconds s.0 s.1 c.in-None-plain_number.ensures

pub returns-in-Some-plain_number : goal.returns-in-Some-plain_number
returns-in-Some-plain_number c =
    let e = c.in-Some.ensures.cases in
    let s = stripped c.args.unit.now c.args.text.now c.in-Some.number.now e.0 e.1.0 e.1.1 e.2 in
    of_number c.args.unit.now c.args.text.now c.in-Some.number.now c.args.nanoseconds c.in-Some-plain_number.count c.checked_mul.result s.0 s.1 c.in-Some-plain_number.ensures c.checked_mul.ensures
