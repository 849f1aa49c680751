use Rattle.std.proofs.Common.{rules, ◌≡◌, ◌∙◌, ◌-◌}
use Rattle.blk_schedulers.proofs.Entered.{served_count, settled_if, differs_if}
use Rattle.blk_schedulers.proofs.numbers.Load.settle.Goals as goal

pub returns-clause-settled : goal.returns-clause-settled
returns-clause-settled c =
    let waits = c.bios_waiting-waits in
    let less : c.saturating_sub-served.result ≡ c.bios_entered.result - waits.result = search rules in
    let served = less ∙ served_count c.args.trace.now.events c.bios_entered.result waits.result waits.ensures.accounted c.bios_entered.ensures waits.ensures.waiting in
    settled_if _ _ _ _ _ _ _ c.balanced.result c.requires.setup c.balanced.ensures.account c.balanced.ensures.even served c.unfinished.ensures.value waits.ensures.waiting

pub returns-clause-none : goal.returns-clause-none
returns-clause-none c =
    let waits = c.bios_waiting-waits in
    let less : c.saturating_sub-served.result ≡ c.bios_entered.result - waits.result = search rules in
    let served = less ∙ served_count c.args.trace.now.events c.bios_entered.result waits.result waits.ensures.accounted c.bios_entered.ensures waits.ensures.waiting in
    differs_if _ c.args.trace.now.events _ _ _ _ _ c.balanced.result c.balanced.ensures.none served c.unfinished.ensures.value waits.ensures.waiting
