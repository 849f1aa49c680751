use Rattle.std.proofs.Common.{rules}
use Rattle.blk_trace.proofs.Scheduling.{legal-schedule}
use Rattle.blk_trace.proofs.Accounting.{accounted}
use Rattle.blk_core.proofs.calls.Core.trace.Goals as goal

pub returns-clause-schedule : goal.returns-clause-schedule
returns-clause-schedule g c = legal-schedule _ _ (search rules)

pub returns-clause-accounted : goal.returns-clause-accounted
returns-clause-accounted g c = accounted c.args.self.now.setup c.args.self.now.events (search rules)
