use Rattle.edd_commands.proofs.InForce.{depth_fixed, carried_fixed}
use Rattle.edd_commands.proofs.law_of_one_depth.Goals as goal

pub returns-clause-each : goal.returns-clause-each
returns-clause-each c = depth_fixed

pub returns-clause-sum : goal.returns-clause-sum
returns-clause-sum c = carried_fixed
