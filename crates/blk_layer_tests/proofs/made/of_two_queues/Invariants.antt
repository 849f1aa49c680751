use Rattle.std.proofs.Common.{false}
use Rattle.blk_layer_tests.proofs.made.of_two_queues.Given as goal

abbrev pub ghosts-made-L-Named : goal.ghosts-made-L-Named
ghosts-made-L-Named g a = record { setup = a.core.setup; start = a.core; map = a.map; queues = a.worker_queues.items; by_hand = false }

abbrev pub ghosts-made-L-Ledger : goal.ghosts-made-L-Ledger
ghosts-made-L-Ledger g a = record { name = a.blank.name; parts = a.blank.parts }
