use Rattle.std.proofs.Common.{◌≡◌, ℕ, true, false, ap, sym, subst, Some}
use Rattle.std.specs.Ordering.{eq_by_cmp}
use Rattle.ordered.specs.Ordered.{listed, IsGreatestBelow, NoneBelow}
use Rattle.blk_index.specs.Inside.Spots.{IsBelow}
use Rattle.blk_index.specs.Inside.Entries.{Block, Key, sized_cmp, block_cmp, entry_cmp}
use Rattle.blk_index.specs.Inside.Shapes.{StandsBetween}
use Rattle.blk_index.proofs.Shaped.{sized_exact, none_in, none_below, newest_here, low_here}
use Rattle.blk_index.proofs.shapes.newest_in.Goals as goal

pub returns-in_err-found-clause-newest : goal.returns-in_err-found-clause-newest
returns-in_err-found-clause-newest g c = λ k follows there.
    none_below sized_cmp sized_exact (listed entry_cmp c.args.entries.now) c.args.block c.args.below
    (subst (NoneBelow entry_cmp (listed entry_cmp c.args.entries.now)) c.upper_of.ensures c.in_err-found.ensures.none) k follows.low there

pub returns-then-is_block-clause-low : goal.returns-then-is_block-clause-low
returns-then-is_block-clause-low g c =
    let e = c.in_ok-found.found in
    subst (λ (n : ℕ). IsBelow c.args.below n) (sym (ap (λ (x : Key). x.1) c.found.view_is))
    (low_here sized_cmp sized_exact (listed entry_cmp c.args.entries.now) c.args.block c.args.below e
    (subst (λ (u : Key). IsGreatestBelow entry_cmp (listed entry_cmp c.args.entries.now) u e) c.upper_of.ensures c.in_ok-found.ensures.some)
    (subst (λ (b : Block). eq_by_cmp block_cmp b c.args.block ≡ true) c.block_at.ensures (sym c.if-is_block.ensures)))

pub returns-then-is_block-clause-newest : goal.returns-then-is_block-clause-newest
returns-then-is_block-clause-newest g c = λ k follows there.
    let e = c.in_ok-found.found in
    newest_here sized_cmp sized_exact (listed entry_cmp c.args.entries.now) c.args.block c.args.below e
    (subst (λ (u : Key). IsGreatestBelow entry_cmp (listed entry_cmp c.args.entries.now) u e) c.upper_of.ensures c.in_ok-found.ensures.some)
    (subst (λ (b : Block). eq_by_cmp block_cmp b c.args.block ≡ true) c.block_at.ensures (sym c.if-is_block.ensures))
    k (subst (λ (n : ℕ). StandsBetween c.args.below (Some n) k) (ap (λ (x : Key). x.1) c.found.view_is) follows) there

pub returns-else-is_block-clause-newest : goal.returns-else-is_block-clause-newest
returns-else-is_block-clause-newest g c = λ k follows there.
    let e = c.in_ok-found.found in
    none_in sized_cmp sized_exact (listed entry_cmp c.args.entries.now) c.args.block c.args.below e
    (subst (λ (u : Key). IsGreatestBelow entry_cmp (listed entry_cmp c.args.entries.now) u e) c.upper_of.ensures c.in_ok-found.ensures.some)
    (subst (λ (b : Block). eq_by_cmp block_cmp b c.args.block ≡ false) c.block_at.ensures (sym c.if-is_block.ensures)) k follows.low there
