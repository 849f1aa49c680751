use Rattle.std.proofs.Common.{◌+◌, ◌∙◌, sym, subst}
use Rattle.ordered.specs.Ordered.{NoneFrom}
use Rattle.blk_capture.specs.Inside.LookupKeys.{has, seat, seat_cmp}
use Rattle.blk_capture.specs.declared.lookup.LookupKey.{LookupKey}
use Rattle.blk_capture.proofs.LookupKeys.{shortest_by, none_by, none_from_over}
use Rattle.blk_capture.proofs.lookup.KeyIndex.longer.Goals as goal

pub returns-then-same-clause-some : goal.returns-then-same-clause-some
returns-then-same-clause-some g c =
    shortest_by (has c.args.self.now) c.args.range c.whole-key.result c.in_ok-found.found c.whole-key.ensures (sym c.is_same-same.ensures ∙ c.if-same.true) c.in_ok-found.ensures.some

pub returns-else-same-clause-none : goal.returns-else-same-clause-none
returns-else-same-clause-none g c =
    none_by (has c.args.self.now) c.args.range c.whole-key.result c.in_ok-found.found c.whole-key.ensures (sym c.is_same-same.ensures ∙ c.if-same.false) c.in_ok-found.ensures.some

pub returns-in_err-found-clause-none : goal.returns-in_err-found-clause-none
returns-in_err-found-clause-none g c =
    rw c.from_residual.ensures (none_from_over (has c.args.self.now) c.args.range
    (subst (λ (k : LookupKey). NoneFrom seat_cmp (has c.args.self.now) (seat (record k { end = c.args.range.end + 1 }) 0 0)) c.whole-key.ensures c.in_err-found.ensures.none))
