use Rattle.std.proofs.Common.{rules, ◌≡◌, ◌<◌, subst, ap, ◌∙◌, inr, true}
use Rattle.std.specs.Prelude.{◌⊎◌}
use Rattle.blk_sched.specs.Meaning.{Meaning, OpenPicks, ServesNothing, opened, unfinished}
use Rattle.blk_sched.specs.Policies.{serves_all}
use Rattle.blk_lifo.specs.Stacks.{by_id}
use Rattle.blk_lifo.specs.Inside.Stacks.{HaveDistinctIds}
use Rattle.blk_lifo.proofs.Lists.{distinct_popped}
use Rattle.blk_lifo.proofs.Stack.{picked, none_left}
use Rattle.blk_lifo.proofs.lifo.LifoScheduler.pick.Goals as goal

pub returns-in_err-queued-clause-none : goal.returns-in_err-queued-clause-none
returns-in_err-queued-clause-none g c =
    let nothing : (0 < unfinished c.args.self.now.open_picks) ⊎ ServesNothing serves_all c.args.hw c.args.self.now =
    inr (none_left c.self.inside.requests.items c.self.inside.open_picks c.args.self.now c.args.hw c.self.view_is (search rules)) in
    search (rules, nothing)

pub returns-in_err-queued-clause-chosen : goal.returns-in_err-queued-clause-chosen
returns-in_err-queued-clause-chosen g c =
    let nothing : ServesNothing serves_all c.args.hw c.args.self.now =
    none_left c.self.inside.requests.items c.self.inside.open_picks c.args.self.now c.args.hw c.self.view_is (search rules) in
    search (rules, nothing)

pub invariant_of-self-2 : goal.invariant_of-self-2
invariant_of-self-2 g c = (distinct_popped c.pop.new.self.items c.in_ok-queued.queued (subst HaveDistinctIds c.in_ok-queued.ensures.items c.self.invariant)).0

pub returns-clause-picked : goal.returns-clause-picked
returns-clause-picked g c =
    let after : c.open.new.self ≡ opened c.in_ok-queued.queued.extent.dir c.self.inside.open_picks =
    c.open.ensures ∙ ap (λ d. opened d c.self.inside.open_picks) c.dir.ensures in
    picked c.self.inside.requests.items c.pop.new.self.items c.self.inside.open_picks c.args.self.now _ c.args.hw c.in_ok-queued.queued c.self.view_is c.self.invariant c.in_ok-queued.ensures.items
    (ap (λ (p : OpenPicks). let m : Meaning = record { pending = by_id c.pop.new.self.items; open_picks = p; front = true } in m) after)
