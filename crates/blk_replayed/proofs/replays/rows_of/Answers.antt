use Rattle.blk_replayed.proofs.Turns.{rows_of}
use Rattle.blk_replayed.proofs.replays.rows_of.Goals as goal

pub returns-in-Ok : goal.returns-in-Ok
returns-in-Ok g c =
    let have = c.in-Ok.ensures.rows in
    rows_of c.args.unavoidable c.args.requests.now c.args.commands.now c.args.asked.now.plans.now c.in-Ok.rows.items have.each (λ i r d h. have.ran i r h d)
