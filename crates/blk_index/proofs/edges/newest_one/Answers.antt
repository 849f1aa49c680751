use Rattle.std.proofs.Common.{sym, subst}
use Rattle.std.specs.Ordering.{bool_cmp}
use Rattle.ordered.specs.Ordered.{listed, IsGreatestBelow, NoneBelow}
use Rattle.blk_index.specs.Keys.{keyed_cmp}
use Rattle.blk_index.specs.Inside.Spots.{Spot, place_cmp}
use Rattle.blk_index.proofs.Shaped.{bool_exact, none_in, none_below, newest_here, low_here}
use Rattle.blk_index.proofs.edges.newest_one.Goals as goal

pub returns-in_err-found-clause-newest : goal.returns-in_err-found-clause-newest
returns-in_err-found-clause-newest g c = λ k follows there.
    none_below bool_cmp bool_exact (listed (keyed_cmp place_cmp) c.args.ones.now) c.args.place c.args.below
    (subst (NoneBelow (keyed_cmp place_cmp) (listed (keyed_cmp place_cmp) c.args.ones.now)) c.upper_at.ensures c.in_err-found.ensures.none) k follows.low there

pub returns-then-is_place-clause-low : goal.returns-then-is_place-clause-low
returns-then-is_place-clause-low g c =
    let e : Spot = (c.in_ok-found.found, c.in_ok-found.id) in
    low_here bool_cmp bool_exact (listed (keyed_cmp place_cmp) c.args.ones.now) c.args.place c.args.below e
    (subst (λ (u : Spot). IsGreatestBelow (keyed_cmp place_cmp) (listed (keyed_cmp place_cmp) c.args.ones.now) u e) c.upper_at.ensures c.in_ok-found.ensures.some)
    (sym c.if-is_place.ensures)

pub returns-then-is_place-clause-newest : goal.returns-then-is_place-clause-newest
returns-then-is_place-clause-newest g c = λ k follows there.
    let e : Spot = (c.in_ok-found.found, c.in_ok-found.id) in
    newest_here bool_cmp bool_exact (listed (keyed_cmp place_cmp) c.args.ones.now) c.args.place c.args.below e
    (subst (λ (u : Spot). IsGreatestBelow (keyed_cmp place_cmp) (listed (keyed_cmp place_cmp) c.args.ones.now) u e) c.upper_at.ensures c.in_ok-found.ensures.some)
    (sym c.if-is_place.ensures) k follows there

pub returns-else-is_place-clause-newest : goal.returns-else-is_place-clause-newest
returns-else-is_place-clause-newest g c = λ k follows there.
    let e : Spot = (c.in_ok-found.found, c.in_ok-found.id) in
    none_in bool_cmp bool_exact (listed (keyed_cmp place_cmp) c.args.ones.now) c.args.place c.args.below e
    (subst (λ (u : Spot). IsGreatestBelow (keyed_cmp place_cmp) (listed (keyed_cmp place_cmp) c.args.ones.now) u e) c.upper_at.ensures c.in_ok-found.ensures.some)
    (sym c.if-is_place.ensures) k follows.low there
