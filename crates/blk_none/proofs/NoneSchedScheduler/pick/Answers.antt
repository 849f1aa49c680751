use Rattle.std.proofs.Common.{ap, refl, ◌∙◌}
use Rattle.blk_sched.specs.Meaning.{opened}
use Rattle.blk_none.proofs.Chosen.{none_served, none_chosen, one_chosen, picked}
use Rattle.blk_none.proofs.NoneSchedScheduler.pick.Goals as goal

pub returns-in_default-clause-choice : goal.returns-in_default-clause-choice
returns-in_default-clause-choice g c = none_chosen c.self.inside.queues c.self.inside.open_picks c.args.hw c.args.self.now c.self.view_is c.in_default.ensures.none

pub returns-in_default-clause-chosen : goal.returns-in_default-clause-chosen
returns-in_default-clause-chosen g c = (none_chosen c.self.inside.queues c.self.inside.open_picks c.args.hw c.args.self.now c.self.view_is c.in_default.ensures.none, refl)

pub returns-in_default-clause-none : goal.returns-in_default-clause-none
returns-in_default-clause-none g c = none_served c.self.inside.queues c.self.inside.open_picks c.args.hw c.args.self.now c.self.view_is c.in_default.ensures.none

pub returns-clause-choice : goal.returns-clause-choice
returns-clause-choice g c = one_chosen c.self.inside.queues c.self.inside.open_picks c.args.hw c.args.self.now c.self.view_is c.in-Some.id c.in-Some-remove.queued c.in-Some.ensures.some c.in-Some-remove.ensures.value

pub returns-clause-chosen : goal.returns-clause-chosen
returns-clause-chosen g c = (
  one_chosen c.self.inside.queues c.self.inside.open_picks c.args.hw c.args.self.now c.self.view_is c.in-Some.id c.in-Some-remove.queued c.in-Some.ensures.some c.in-Some-remove.ensures.value,
  refl,
)

pub returns-clause-picked : goal.returns-clause-picked
returns-clause-picked g c =
    picked c.self.inside.queues c.self.inside.open_picks c.args.hw c.args.self.now c.self.view_is c.remove.new.self c.open.new.self c.in-Some.id c.in-Some-remove.queued
    c.in-Some-remove.ensures.value c.in-Some-remove.ensures.named c.in-Some-remove.ensures.removed
    (c.open.ensures ∙ ap (λ d. opened d c.self.inside.open_picks) c.dir.ensures)
