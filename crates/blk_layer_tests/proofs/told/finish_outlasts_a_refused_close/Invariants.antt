use Rattle.std.proofs.Common.{false}
use Rattle.blk_layer_tests.proofs.told.finish_outlasts_a_refused_close.Given as goal

abbrev pub ghosts-ran_after_refusals-L-Named : goal.ghosts-ran_after_refusals-L-Named
ghosts-ran_after_refusals-L-Named g a = record { setup = a.core.setup; start = a.core; map = a.map; queues = a.worker_queues.items; by_hand = false }

abbrev pub ghosts-ran_after_refusals-L-Ledger : goal.ghosts-ran_after_refusals-L-Ledger
ghosts-ran_after_refusals-L-Ledger g a = record { name = a.blank.name; parts = a.blank.parts }
