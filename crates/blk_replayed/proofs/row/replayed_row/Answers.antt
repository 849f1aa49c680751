use Rattle.std.proofs.Common.{ℕ, List, subst}
use Rattle.blk_replayed.specs.declared.row.Chooser.TheVariants.{Replay}
use Rattle.blk_replayed.specs.Rows.{IsReplayRowIn}
use Rattle.blk_replayed.proofs.Told.{row_of}
use Rattle.blk_replayed.proofs.row.replayed_row.Goals as goal

pub returns-in-Ok-row_in-clause-row : goal.returns-in-Ok-row_in-clause-row
returns-in-Ok-row_in-clause-row c =
    let told = c.in-Ok.ensures in
    let requests = c.args.requests.now in
    let commands = c.args.commands.now in
    row_of (Replay c.args.plan) c.args.unavoidable requests commands c.in-Ok.rounds.items c.in-Ok-row_in.row told.replayed told.legal told.late c.requires.least told.best
    (subst (λ (rounds : List ℕ). IsReplayRowIn (Replay c.args.plan) c.args.unavoidable requests commands rounds c.in-Ok-row_in.row) c.as_slice.ensures.value c.in-Ok-row_in.ensures)
