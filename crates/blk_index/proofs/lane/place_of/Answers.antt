use Rattle.std.proofs.Common.{arith}
use Rattle.blk_index.proofs.Lanes.{before, none_beyond}
use Rattle.blk_index.proofs.lane.place_of.Goals as goal

pub returns-then-id-from-clause-none : goal.returns-then-id-from-clause-none
returns-then-id-from-clause-none g c = before c.args.from c.args.run.now.items c.args.id c.if-id-from.true

pub returns-then-index-len-clause-none : goal.returns-then-index-len-clause-none
returns-then-index-len-clause-none g c = none_beyond c.args.from c.args.run.now.items c.args.id c.if-id-from.false (omega arith)
