use Rattle.blk_index.specs.Inside.Spots.{first_at, end_at}
use Rattle.blk_index.proofs.Edged.{edge_entered, edge_without}
use Rattle.blk_index.proofs.edges.Edges.add.Goals as goal

pub returns-in-Err-clause-same : goal.returns-in-Err-clause-same
returns-in-Err-clause-same g c = λ old edges none.
    record {
      front = edge_without first_at old old c.args.id c.place_at.result c.put.new.self c.take.new.self
          (edge_without first_at old old c.args.id c.place_at.result c.args.self.now.front c.put.new.self edges.front none c.in_ok-put.ensures.kept) none c.take.ensures;
      back = edge_without end_at old old c.args.id c.place_at-2.result c.args.self.now.back c.put-2.new.self edges.back none c.in-Err.ensures.kept;
    }

pub returns-in-Ok-clause-ok : goal.returns-in-Ok-clause-ok
returns-in-Ok-clause-ok g c = λ old new w is edges none becomes.
    record {
      front = edge_entered first_at old new c.args.id w c.args.extent.now c.place_at.result c.args.self.now.front c.put.new.self
          edges.front c.place_at.ensures.value is c.in_ok-put.ensures.ok c.in_ok-put.ensures.kept becomes;
      back = edge_entered end_at old new c.args.id w c.args.extent.now c.place_at-2.result c.args.self.now.back c.put-2.new.self
          edges.back c.place_at-2.ensures.value is c.in-Ok.ensures.ok c.in-Ok.ensures.kept becomes;
    }
