use Rattle.std.proofs.Common.{true, false, arith, rules}
use Rattle.blk_capture.proofs.Figured.{flying_with, flights_rise}
use Rattle.blk_capture.proofs.figures.in_flight_with.Goals as goal

pub returns-then-flight : goal.returns-then-flight
returns-then-flight c = λ qs q is timed counted same.
    flying_with qs c.args.flights.now c.args.completions.now c.count_out-out.result c.count_upto-back.result _ true c.args.flight q is timed counted same (c.count_out-out.ensures.value (flights_rise qs c.args.flights.now is timed)) c.count_upto-back.ensures (search rules) (omega arith)

pub returns-else-flight : goal.returns-else-flight
returns-else-flight c = λ qs q is timed counted same.
    flying_with qs c.args.flights.now c.args.completions.now c.count_out-out.result c.count_upto-back.result _ false c.args.flight q is timed counted same (c.count_out-out.ensures.value (flights_rise qs c.args.flights.now is timed)) c.count_upto-back.ensures (search rules) (omega arith)
