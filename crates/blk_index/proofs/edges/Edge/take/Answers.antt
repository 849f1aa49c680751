use Rattle.std.proofs.Common.{inl, inr}
use Rattle.ordered.specs.Ordered.{listed}
use Rattle.blk_index.specs.Keys.{keyed_cmp}
use Rattle.blk_index.specs.Inside.Spots.{place_cmp}
use Rattle.blk_index.specs.Inside.Shapes.{entries_in}
use Rattle.blk_index.proofs.Edged.{listed_but, spot_taken}
use Rattle.blk_index.proofs.edges.Edge.take.Goals as goal

pub returns-else-not-is_empty : goal.returns-else-not-is_empty
returns-else-not-is_empty g c = λ p k s b other there. elim there [
  | inl one ↦ inl (spot_taken (listed (keyed_cmp place_cmp) c.args.self.now.ones) (listed (keyed_cmp place_cmp) c.take.new.self) c.args.spot p k c.take.ensures other one)
  | inr listed ↦ inr listed
]

pub returns-then-not-is_empty : goal.returns-then-not-is_empty
returns-then-not-is_empty g c = λ p k s b other there. elim there [
  | inl one ↦ inl (spot_taken (listed (keyed_cmp place_cmp) c.args.self.now.ones) (listed (keyed_cmp place_cmp) c.take.new.self) c.args.spot p k c.take.ensures other one)
  | inr listed ↦ inr (listed_but (entries_in c.args.self.now.others) (entries_in c.take-then-not-is_empty.new.self) c.args.spot.0 c.args.spot.1 p k s b c.take-then-not-is_empty.ensures.kept other listed)
]
