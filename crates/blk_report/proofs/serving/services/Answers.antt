use Rattle.std.proofs.Common.{◌∙◌, List, map, ap, sym, subst}
use Rattle.blk_trace.specs.Depths.{capacity_of}
use Rattle.blk_report.specs.declared.serving.Service.{Service}
use Rattle.blk_report.specs.Services.{command_in, AreWithinLimits, AreInIssueOrder}
use Rattle.blk_report.proofs.Requests.{are_commands, are_rounds, rise, timed}
use Rattle.blk_report.proofs.serving.services.Goals as goal

pub returns-clause-commands : goal.returns-clause-commands
returns-clause-commands g c = let t = c.args.trace.now in ap (map command_in) c.in_ok-services.ensures ∙ are_commands t.setup t.events

pub returns-clause-rounds : goal.returns-clause-rounds
returns-clause-rounds g c = let t = c.args.trace.now in ap (map (λ (s : Service). s.issue)) c.in_ok-services.ensures ∙ are_rounds t.setup t.events

pub returns-clause-timed : goal.returns-clause-timed
returns-clause-timed g c =
    let t = c.args.trace.now in
    subst AreWithinLimits (sym c.in_ok-services.ensures) (timed t.setup t.events (capacity_of t.setup t.events) c.commands.ensures.bounded c.commands.ensures.scheduled)

pub returns-clause-rising : goal.returns-clause-rising
returns-clause-rising g c =
    let t = c.args.trace.now in
    let P : List Service → Type 0 = λ l. AreInIssueOrder l in
    subst P (sym c.in_ok-services.ensures) (rise t.setup t.events)
