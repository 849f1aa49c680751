use Rattle.std.proofs.Common.{◌≡◌, ◌++◌, drop}
use Rattle.blk_arrivals.specs.Plugs.{flushes}
use Rattle.blk_arrivals.proofs.builder.push_flushes.Given as goal

-- the flushes so far, after which those of the plugs come that are left
abbrev pub invariant-loop-submitter : goal.invariant-loop-submitter
invariant-loop-submitter l = l.lines.items ++ flushes l.submitter (drop l.submitter l.held) ≡ l.initial.lines.items ++ flushes 0 l.held
