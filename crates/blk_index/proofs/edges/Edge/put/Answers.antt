use Rattle.std.proofs.Common.{inl, inr}
use Rattle.ordered.specs.Ordered.{listed}
use Rattle.blk_index.specs.Keys.{keyed_cmp}
use Rattle.blk_index.specs.Inside.Spots.{place_cmp}
use Rattle.blk_index.proofs.Shaped.{put_keeps}
use Rattle.blk_index.proofs.Edged.{spot_put}
use Rattle.blk_index.proofs.edges.Edge.put.Goals as goal

pub returns-clause-kept : goal.returns-clause-kept
returns-clause-kept g c = λ p k s b other there. elim there [
  | inl one ↦ inl (put_keeps (keyed_cmp place_cmp) (listed (keyed_cmp place_cmp) c.args.self.now.ones) (listed (keyed_cmp place_cmp) c.put.new.self) c.args.spot c.put.result (p, k) c.put.ensures.ok c.put.ensures.same one)
  | inr listed ↦ inr listed
]

pub returns-clause-ok : goal.returns-clause-ok
returns-clause-ok g c = spot_put c.put.result c.args.self.now (record { ones = c.put.new.self; others = c.args.self.now.others }) c.args.spot c.args.extent.now c.put.ensures.ok
