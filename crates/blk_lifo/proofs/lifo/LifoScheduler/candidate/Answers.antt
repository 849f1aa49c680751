use Rattle.std.proofs.Common.{subst, length, List}
use Rattle.blk_sched.specs.Meaning.{Waiting}
use Rattle.blk_lifo.specs.Inside.Stacks.{IsNewestOf}
use Rattle.blk_lifo.proofs.Stack.{newest_is}
use Rattle.blk_lifo.proofs.lifo.LifoScheduler.candidate.Goals as goal

pub returns-clause-some : goal.returns-clause-some
returns-clause-some g c =
    (newest_is c.self.inside.requests.items c.self.inside.open_picks c.args.self.now c.args.limits.now c.args.newcomer.now c.args.hw c.newest_fit.result c.self.view_is c.self.invariant
    (subst (λ (l : List Waiting). IsNewestOf c.args.limits.now c.args.newcomer.now l (length l) c.newest_fit.result) c.as_slice.ensures.value c.newest_fit.ensures)).0

pub returns-clause-none : goal.returns-clause-none
returns-clause-none g c =
    (newest_is c.self.inside.requests.items c.self.inside.open_picks c.args.self.now c.args.limits.now c.args.newcomer.now c.args.hw c.newest_fit.result c.self.view_is c.self.invariant
    (subst (λ (l : List Waiting). IsNewestOf c.args.limits.now c.args.newcomer.now l (length l) c.newest_fit.result) c.as_slice.ensures.value c.newest_fit.ensures)).1
