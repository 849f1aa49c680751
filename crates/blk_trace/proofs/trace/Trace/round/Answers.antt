use Rattle.std.proofs.Common.{arith}
use Rattle.blk_trace.proofs.More.{rounds_within}
use Rattle.blk_trace.proofs.trace.Trace.round.Goals as goal

pub returns-clause-few : goal.returns-clause-few
returns-clause-few g c = omega (arith, c.self.invariant.0.round_is, rounds_within c.self.inside.events.items, c.self.invariant.0.legal.not_too_long)
