use Rattle.std.proofs.Common.{List, length}
use Rattle.edd_commands.specs.Capacity.{fixed}
use Rattle.edd_commands.specs.Schedule.{IsLegal}
use Rattle.blk_replayed.specs.declared.row.Chooser.TheVariants.{Replay}
use Rattle.blk_replayed.specs.Rows.{IsReplayed, IsBestUnderEarliest}
use Rattle.blk_replayed.proofs.Earliest.{best_of, ok_both}
use Rattle.blk_replayed.proofs.serving.rounds_under.Goals as goal

pub returns-clause-best : goal.returns-clause-best
returns-clause-best c =
    let requests = c.args.requests.now in
    let commands = c.args.commands.now in
    ok_both c.rounds_planned.result (λ v. IsReplayed c.args.plan requests commands v.items) (λ v. IsLegal commands v.items (fixed 1)) (λ v. IsBestUnderEarliest (Replay c.args.plan) commands v.items)
    c.rounds_planned.ensures.replayed c.rounds_planned.ensures.legal
    (λ v replayed legal. best_of c.args.plan requests commands v.items c.law_of_due_first.ensures c.requires.timed c.requires.few c.requires.counted replayed legal)
