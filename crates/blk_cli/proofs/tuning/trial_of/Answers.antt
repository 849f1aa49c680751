use Rattle.std.proofs.Common.{inl}
use Rattle.blk_cli.proofs.tuning.trial_of.Goals as goal

pub returns-in-Ok-tuned_in-clause-text : goal.returns-in-Ok-tuned_in-clause-text
returns-in-Ok-tuned_in-clause-text g c = record { grid = c.in-Ok.grid.items; asked = c.in-Ok.ensures.asked; is_text = c.in-Ok-tuned_in.ensures.text }

pub returns-clause-untried : goal.returns-clause-untried
returns-clause-untried g c =
    inl (c.in-Ok.grid.items, c.in-Ok.ensures.asked, c.in-Err.ensures.unrun)
