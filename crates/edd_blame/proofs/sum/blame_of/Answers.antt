use Rattle.std.proofs.Common.{arith}
use Rattle.edd_blame.proofs.Adding.{crowded_is, late_on_release}
use Rattle.edd_blame.proofs.Fitting.{all_fit}
use Rattle.edd_blame.proofs.Stalling.{late_split}
use Rattle.edd_blame.proofs.sum.blame_of.Goals as goal

pub overflow_sub-reasons : goal.overflow_sub-reasons
overflow_sub-reasons g c =
    omega (arith, late_split c.args.dispatches.now c.args.allowances.now c.args.commands.now c.requires.by_clock, c.count_arrivals-arrivals.ensures, c.count_late_on_release-late_on_release.ensures)

pub overflow_sub-reasons-2 : goal.overflow_sub-reasons-2
overflow_sub-reasons-2 g c =
    omega (arith, late_on_release c.args.commands.now c.args.capacity.now c.in_ok-misses.misses.counts.unavoidable c.in_ok-misses.ensures.are.least, c.count_late_on_release-late_on_release.ensures)

pub returns-clause-sum : goal.returns-clause-sum
returns-clause-sum g c =
    let are = c.in_ok-misses.ensures.are in
    let split = late_split c.args.dispatches.now c.args.allowances.now c.args.commands.now c.requires.by_clock in
    let low = late_on_release c.args.commands.now c.args.capacity.now c.in_ok-misses.misses.counts.unavoidable are.least in
    let crowded = crowded_is c.args.commands.now c.args.capacity.now are.cover c.in_ok-misses.misses.windows.items c.in_ok-misses.misses.counts.unavoidable are.disjoint are.windows_are are.bound in
    let late = c.count_late_on_release-late_on_release.ensures in
    let arrivals = c.count_arrivals-arrivals.ensures in
    record {
      arrivals = arrivals;
      stalled = omega (arith, split, late, arrivals);
      crowded = omega (arith, crowded, late, low);
      each = all_fit c.args.commands.now c.args.capacity.now are.cover c.in_ok-misses.misses.windows.items c.in_ok-misses.misses.counts.unavoidable are.disjoint are.windows_are are.bound are.least;
      sum = omega (arith, split, late, arrivals, low);
    }
