use Rattle.std.proofs.Common.{true}
use Rattle.blk_layer_tests.proofs.drawn.draw.Given as goal

abbrev pub ghosts-list-L-Named : goal.ghosts-list-L-Named
ghosts-list-L-Named g a = record { setup = a.core.setup; start = a.core; map = a.map; queues = a.worker_queues.items; by_hand = true }

abbrev pub ghosts-list-L-Ledger : goal.ghosts-list-L-Ledger
ghosts-list-L-Ledger g a = record { name = a.blank.name; parts = a.blank.parts }
