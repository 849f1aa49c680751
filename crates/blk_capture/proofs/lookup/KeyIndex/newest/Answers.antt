use Rattle.std.proofs.Common.{◌∙◌, ◌-◌, ◌^◌, sym}
use Rattle.blk_capture.specs.Inside.LookupKeys.{has}
use Rattle.blk_capture.proofs.LookupKeys.{newest_at, none_newest, none_upto}
use Rattle.blk_capture.proofs.lookup.KeyIndex.newest.Goals as goal

pub returns-then-same-clause-some : goal.returns-then-same-clause-some
returns-then-same-clause-some g c =
    newest_at (has c.args.self.now) c.args.key c.in_ok-found.found (2 ^ 64 - 1) (sym c.is_same-same.ensures ∙ c.if-same.true) c.in_ok-found.ensures.some

pub returns-else-same-clause-none : goal.returns-else-same-clause-none
returns-else-same-clause-none g c =
    none_newest (has c.args.self.now) c.args.key c.in_ok-found.found (2 ^ 64 - 1) (sym c.is_same-same.ensures ∙ c.if-same.false) c.in_ok-found.ensures.some

pub returns-in_err-found-clause-none : goal.returns-in_err-found-clause-none
returns-in_err-found-clause-none g c = rw c.from_residual.ensures (none_upto (has c.args.self.now) c.args.key (2 ^ 64 - 1) c.in_err-found.ensures.none)
