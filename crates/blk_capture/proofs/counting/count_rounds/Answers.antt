use Rattle.std.proofs.Common.{arith}
use Rattle.blk_capture.specs.Counting.{AreInRounds}
use Rattle.blk_capture.proofs.Rounds.{counted_all, all_legal, all_late_by_clock, all_solvable, all_in_range}
use Rattle.blk_capture.proofs.counting.count_rounds.Given.{Over}
use Rattle.blk_capture.proofs.counting.count_rounds.Goals as goal

counted : (g : Over) (c : goal.After-loop-place g) → AreInRounds c.args.requests.now c.loop-place.commands.items c.loop-place.rounds.items
counted g c = counted_all c.args.requests.now c.loop-place.commands.items c.loop-place.rounds.items c.loop-place.place c.loop-place.invariant (omega arith)

pub returns-clause-counted : goal.returns-clause-counted
returns-clause-counted g c = counted g c

pub returns-clause-legal : goal.returns-clause-legal
returns-clause-legal g c = all_legal c.args.requests.now c.loop-place.commands.items c.loop-place.rounds.items c.requires.served (counted g c)

pub returns-clause-late : goal.returns-clause-late
returns-clause-late g c = all_late_by_clock c.args.requests.now c.loop-place.commands.items c.loop-place.rounds.items c.requires.served (counted g c)

pub returns-clause-solvable : goal.returns-clause-solvable
returns-clause-solvable g c = all_solvable c.args.requests.now c.loop-place.commands.items c.loop-place.rounds.items c.requires.few (counted g c)

pub returns-clause-in_range : goal.returns-clause-in_range
returns-clause-in_range g c = all_in_range c.args.requests.now c.loop-place.commands.items c.loop-place.rounds.items c.requires.few (counted g c)
