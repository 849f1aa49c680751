use Rattle.std.proofs.Common.{false}
use Rattle.blk_layer_tests.proofs.many.nine_submitters_over_four_queues.Given as goal

abbrev pub ghosts-at_once-L-Named : goal.ghosts-at_once-L-Named
ghosts-at_once-L-Named g a = record { setup = a.core.setup; start = a.core; map = a.map; queues = a.worker_queues.items; by_hand = false }

abbrev pub ghosts-at_once-L-Ledger : goal.ghosts-at_once-L-Ledger
ghosts-at_once-L-Ledger g a = record { name = a.blank.name; parts = a.blank.parts }
