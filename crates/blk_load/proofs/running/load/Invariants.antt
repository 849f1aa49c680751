use Rattle.std.proofs.Common.{false}
use Rattle.blk_load.proofs.running.load.Given as goal

abbrev pub ghosts-on_layer-L-Named : goal.ghosts-on_layer-L-Named
ghosts-on_layer-L-Named g a = record { setup = a.core.setup; start = a.core; map = a.map; queues = a.queues.items; by_hand = false }

abbrev pub ghosts-on_layer-L-Ledger : goal.ghosts-on_layer-L-Ledger
ghosts-on_layer-L-Ledger g a = record { name = a.blank.name; parts = a.blank.parts }
