use Rattle.std.proofs.Common.{ap, sym, ◌∙◌}
use Rattle.blk_sched.specs.Meaning.{opened}
use Rattle.blk_index.proofs.ServesAll.{picks}
use Rattle.blk_deadline.proofs.DeadlineScheduler.pick.Goals as goal

pub returns-clause-picked : goal.returns-clause-picked
returns-clause-picked g c =
    picks c.args.self.now.index c.remove.new.self c.args.self.now.tunables.front_merges c.args.hw c.in-Some.id c.args.self.now.open_picks c.open.new.self c.in-Some-remove.queued
    c.remove.ensures.named (sym c.remove.ensures.value ∙ c.in-Some-remove.is) c.remove.ensures.removed
    (c.open.ensures ∙ ap (λ d. opened d c.args.self.now.open_picks) c.dir.ensures)
