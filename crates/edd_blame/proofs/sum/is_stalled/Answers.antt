use Rattle.std.proofs.Common.{◌&&◌, ◌∙◌, nat_lt, ap, sym}
use Rattle.std.proofs.lemmas.Bool.{le-leb}
use Rattle.edd_blame.proofs.Stalling.{stalled_test}
use Rattle.edd_blame.proofs.sum.is_stalled.Goals as goal

pub returns-then-allowance : goal.returns-then-allowance
returns-then-allowance c =
    ap (λ b. b && nat_lt c.args.command.due c.args.command.release) (sym (le-leb c.args.allowance.release c.args.allowance.deadline c.if-allowance.true))
    ∙ stalled_test c.args.dispatches.now c.args.allowance c.args.command c.requires
