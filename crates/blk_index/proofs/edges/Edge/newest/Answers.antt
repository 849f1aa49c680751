use Rattle.std.proofs.Common.{◌≤◌, ℕ, Option, arith, inl, inr, sym, subst}
use Rattle.std.specs.Prelude.{IfSome}
use Rattle.blk_index.specs.Inside.Spots.{IsBelow}
use Rattle.blk_index.specs.Inside.Shapes.{StandsBetween}
use Rattle.blk_index.proofs.Shaped.{low_both, follows_both}
use Rattle.blk_index.proofs.Edged.{by_itself}
use Rattle.blk_index.proofs.edges.Edge.newest.Goals as goal

pub returns-then-is_empty-clause-newest : goal.returns-then-is_empty-clause-newest
returns-then-is_empty-clause-newest g c = λ k s b follows there most few. c.newest_one-one.ensures.newest k follows (by_itself c.args.self.now c.args.place k s b c.if-is_empty.ensures there)

pub returns-clause-low : goal.returns-clause-low
returns-clause-low g c =
    subst (λ (r : Option ℕ). IfSome r (IsBelow c.args.below)) (sym c.greater.ensures) (low_both c.args.below c.newest_one-one.result c.newest.result c.newest_one-one.ensures.low c.newest.ensures.low)

pub returns-clause-newest : goal.returns-clause-newest
returns-clause-newest g c = λ k s b follows there most few.
    let two = follows_both c.args.below c.newest_one-one.result c.newest.result k (subst (λ (r : Option ℕ). StandsBetween c.args.below r k) c.greater.ensures follows) in
    elim there [
      | inl one ↦ c.newest_one-one.ensures.newest k two.0 one
      | inr is ↦
          let least : is.said ≤ s = is.least in
          let fewest : is.said_bios ≤ b = is.fewest in
          c.newest.ensures.newest k is.said is.said_bios two.1 is.there (omega arith) (omega arith)
    ]
