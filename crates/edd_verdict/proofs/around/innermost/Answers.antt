use Rattle.std.proofs.Common.{◌-◌, get_or, arith}
use Rattle.std.proofs.lemmas.List.{get_or_default}
use Rattle.edd_check.specs.declared.Window.{Window}
use Rattle.edd_verdict.proofs.Opening.{innermost_here}
use Rattle.edd_verdict.proofs.around.innermost.Goals as goal

abbrev none : Window
none = record { from = 0; due = 0 }

pub returns-else-begun-eq0-clause-some : goal.returns-else-begun-eq0-clause-some
returns-else-begun-eq0-clause-some c =
    innermost_here c.args.opened.now c.args.round c.begun_before-begun.result (get_or c.args.opened.now (c.begun_before-begun.result - 1) none) c.requires.ends c.begun_before-begun.ensures (omega arith)
    (λ e. get_or_default c.args.opened.now (c.begun_before-begun.result - 1) e none (omega (arith, c.begun_before-begun.ensures.within)))
