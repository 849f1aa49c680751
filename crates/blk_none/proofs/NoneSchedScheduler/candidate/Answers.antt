use Rattle.std.proofs.Common.{subst}
use Rattle.std.proofs.lemmas.Option.{IfSome_then}
use Rattle.blk_sched.specs.Meaning.{Meaning, HasCandidate, HasNoCandidate}
use Rattle.blk_index.proofs.Served.{none_then, candidate_of, no_candidate_of}
use Rattle.blk_none.specs.Choice.{serves_own}
use Rattle.blk_none.proofs.NoneSchedScheduler.candidate.Goals as goal

pub returns-clause-some : goal.returns-clause-some
returns-clause-some g c = IfSome_then c.candidate.result c.candidate.ensures.some (λ r best.
    subst (λ (m : Meaning). HasCandidate serves_own c.args.hw c.args.limits.now c.args.newcomer.now m r.0 r.1) c.self.view_is
    (candidate_of c.self.inside.queues c.self.inside.open_picks c.args.hw c.args.limits.now c.args.newcomer.now r.0 r.1 best))

pub returns-clause-none : goal.returns-clause-none
returns-clause-none g c = none_then c.candidate.result _ _ c.candidate.ensures.none (λ none.
    subst (λ (m : Meaning). HasNoCandidate serves_own c.args.hw c.args.limits.now c.args.newcomer.now m) c.self.view_is
    (no_candidate_of c.self.inside.queues c.self.inside.open_picks c.args.hw c.args.limits.now c.args.newcomer.now none))
