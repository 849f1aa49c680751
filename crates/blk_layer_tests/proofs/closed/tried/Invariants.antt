use Rattle.std.proofs.Common.{true}
use Rattle.blk_layer_tests.proofs.closed.tried.Given as goal

abbrev pub ghosts-followed-L-Named : goal.ghosts-followed-L-Named
ghosts-followed-L-Named g a = record { setup = a.core.setup; start = a.core; map = a.map; queues = a.worker_queues.items; by_hand = true }

abbrev pub ghosts-followed-L-Ledger : goal.ghosts-followed-L-Ledger
ghosts-followed-L-Ledger g a = record { name = a.blank.name; parts = a.blank.parts }
