use Rattle.std.proofs.Common.{ℕ, List, ◌<◌, length, IsPermutation, subst, arith}
use Rattle.std.proofs.lemmas.List.{get_or_default}
use Rattle.std.proofs.lemmas.List.Sorted.{IsNonDecreasingBy-from_sort}
use Rattle.blk_capture.proofs.Figured.{most_none, most_more, most_same, most_all}
use Rattle.blk_capture.proofs.Flying.{sorted_times}
use Rattle.blk_capture.proofs.figures.most_at_once.Goals as goal
use Rattle.blk_capture.proofs.figures.most_at_once.Goals.{then-count-most, else-count-most}

pub in_flight_with-count-requires : goal.in_flight_with-count-requires
in_flight_with-count-requires c = IsNonDecreasingBy-from_sort (λ x. x) c.sort_unstable.new.self c.sort_unstable.ensures.sorted

pub loop-flight-init : goal.loop-flight-init
loop-flight-init c = λ qs is timed counted. most_none qs 0 0 (omega arith) (omega arith)

pub loop-flight-preserved : goal.loop-flight-preserved
loop-flight-preserved c = λ qs is timed counted.
    let n : ℕ = c.loop-flight.flight-index in
    let here : n < length c.args.flights.now = c.loop-flight-test.true in
    let old = c.loop-flight.invariant qs is timed counted in
    elim c.if-count-most.branch [
      | then-count-most w ↦ most_more qs c.args.flights.now n c.loop-flight.most _ c.in_flight_with-count.result _ is here (get_or_default c.args.flights.now n _ _ here) (λ q same. c.in_flight_with-count.ensures qs q is timed counted same) (omega (arith, w.if-count-most.true)) w.most-is old
      | else-count-most w ↦ most_same qs c.args.flights.now n c.loop-flight.most _ c.in_flight_with-count.result _ is here (get_or_default c.args.flights.now n _ _ here) (λ q same. c.in_flight_with-count.ensures qs q is timed counted same) (omega (arith, w.if-count-most.false)) w.most-is old
    ]

pub returns : goal.returns
returns c = λ qs is timed known.
    most_all qs c.args.flights.now c.loop-flight.flight-index _ is c.loop-flight-test.false
    (c.loop-flight.invariant qs is timed (sorted_times qs c.sort_unstable.new.self (subst (λ (xs : List ℕ). IsPermutation xs c.sort_unstable.new.self) known c.sort_unstable.ensures.permutation)))
