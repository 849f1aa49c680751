use Rattle.std.proofs.Common.{◌≡◌, ◌≤◌, ◌+◌, take}
use Rattle.edd_commands.specs.declared.steps.TheConstants.{MAX_DEPTH}
use Rattle.blk_trace.specs.declared.trace.TheConstants.{MAX_EVENTS}
use Rattle.blk_picture.specs.Pictures.{most_rounds, most_deep}
use Rattle.blk_picture.proofs.parts.largest_of.Given as goal

abbrev pub invariant-loop-trace : goal.invariant-loop-trace
invariant-loop-trace l = record {
  rounds : l.rounds ≡ most_rounds (take l.trace-index l.traces);
  deep : l.deep ≡ most_deep (take l.trace-index l.traces);
  few : l.rounds ≤ MAX_EVENTS + 1;
  low : l.deep ≤ MAX_DEPTH;
}
