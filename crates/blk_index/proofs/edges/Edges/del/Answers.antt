use Rattle.blk_index.specs.Inside.Spots.{first_at, end_at}
use Rattle.blk_index.proofs.Edged.{edge_taken}
use Rattle.blk_index.proofs.edges.Edges.del.Goals as goal

pub returns : goal.returns
returns g c = λ old new w is edges found becomes.
    record {
      front = edge_taken first_at old new c.args.id c.place_at.result c.args.self.now.front c.take.new.self edges.front c.take.ensures becomes;
      back = edge_taken end_at old new c.args.id c.place_at-2.result c.args.self.now.back c.take-2.new.self edges.back c.take-2.ensures becomes;
    }
