use Rattle.blk_kyber.specs.Choice.{first_turn}
use Rattle.std.specs.Prelude.{slice_index_or}
use Rattle.blk_kyber.proofs.Served.{idle}
use Rattle.blk_kyber.proofs.Kyber.choose.Goals as goal

pub returns-in-None-None-clause-idle : goal.returns-in-None-None-clause-idle
returns-in-None-None-clause-idle g c =
    let own = rw c.in-None-None.is-0 at c.head.ensures.idle in
    idle c.args.self.now.queues c.args.self.now.open_picks c.args.hw (slice_index_or c.args.self.now.turns c.args.hw first_turn).dir c.other-rest.result c.other-rest.ensures own c.in-None-None.ensures.idle
