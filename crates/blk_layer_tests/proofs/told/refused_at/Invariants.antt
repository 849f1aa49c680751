use Rattle.std.proofs.Common.{false}
use Rattle.blk_layer_tests.proofs.told.refused_at.Given as goal

abbrev pub ghosts-refused-L-Named : goal.ghosts-refused-L-Named
ghosts-refused-L-Named g a = record { setup = a.core.setup; start = a.core; map = a.map; queues = a.worker_queues.items; by_hand = false }

abbrev pub ghosts-refused-L-Ledger : goal.ghosts-refused-L-Ledger
ghosts-refused-L-Ledger g a = record { name = a.blank.name; parts = a.blank.parts }
