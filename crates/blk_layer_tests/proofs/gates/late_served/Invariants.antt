use Rattle.std.proofs.Common.{false}
use Rattle.blk_layer_tests.proofs.gates.late_served.Given as goal

abbrev pub ghosts-served_late-L-Named : goal.ghosts-served_late-L-Named
ghosts-served_late-L-Named g a = record { setup = a.core.setup; start = a.core; map = a.map; queues = a.worker_queues.items; by_hand = false }

abbrev pub ghosts-served_late-L-Ledger : goal.ghosts-served_late-L-Ledger
ghosts-served_late-L-Ledger g a = record { name = a.blank.name; parts = a.blank.parts }
