use Rattle.std.proofs.Common.{◌∙◌, sym}
use Rattle.blk_capture.specs.Inside.LookupKeys.{has}
use Rattle.blk_capture.proofs.LookupKeys.{oldest_at, none_oldest, none_at}
use Rattle.blk_capture.proofs.lookup.KeyIndex.oldest.Goals as goal

pub returns-then-same-clause-some : goal.returns-then-same-clause-some
returns-then-same-clause-some g c =
    oldest_at (has c.args.self.now) c.args.key c.in_ok-found.found (sym c.is_same-same.ensures ∙ c.if-same.true) c.in_ok-found.ensures.some

pub returns-else-same-clause-none : goal.returns-else-same-clause-none
returns-else-same-clause-none g c =
    none_oldest (has c.args.self.now) c.args.key c.in_ok-found.found (sym c.is_same-same.ensures ∙ c.if-same.false) c.in_ok-found.ensures.some

pub returns-in_err-found-clause-none : goal.returns-in_err-found-clause-none
returns-in_err-found-clause-none g c = rw c.from_residual.ensures (none_at (has c.args.self.now) c.args.key c.in_err-found.ensures.none)
