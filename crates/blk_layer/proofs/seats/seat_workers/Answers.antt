use Rattle.std.proofs.Common.{ℕ, List, Contains, slice_index_or, subst}
use Rattle.std.proofs.lemmas.List.Elements.{Contains-get_or}
use Rattle.blk_layer.proofs.seats.seat_workers.Goals as goal

pub new-requires-clause-one : goal.new-requires-clause-one
new-requires-clause-one g c =
    subst (λ (queues : List ℕ). Contains queues (slice_index_or c.args.queues.now c.loop-hw.hw-index 0)) c.requires.are
    (Contains-get_or c.args.queues.now c.loop-hw.hw-index 0 c.loop-hw-test.true)
