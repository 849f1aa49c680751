use Rattle.blk_text.specs.Script.{scripted}
use Rattle.blk_tune.proofs.Turns.{rows_of, unrun_after}
use Rattle.blk_tune.proofs.trial.tried.Goals as goal

pub returns-in-Ok : goal.returns-in-Ok
returns-in-Ok g c =
    let have = c.in-Ok.ensures.rows in record {
      rows = rows_of c.args.scheds.now (scripted c.args.script.now) c.in-Ok.rows.items have.each (λ i r d h. have.ran i r h d);
      unrun = tt;
    }

pub returns-in-Refused : goal.returns-in-Refused
returns-in-Refused g c =
    let first = rw c.in-Refused.is at c.in-Err.ensures.stopped in record {
      rows = tt;
      unrun = unrun_after c.args.scheds.now (scripted c.args.script.now) first.before c.in-Refused.fault c.requires.made first.within (λ i r h d. first.ran.ran i r h d) (λ d. first.refused d);
    }
