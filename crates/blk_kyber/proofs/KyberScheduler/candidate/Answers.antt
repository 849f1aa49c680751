use Rattle.std.proofs.lemmas.Option.{IfSome_then}
use Rattle.blk_index.proofs.Served.{none_then}
use Rattle.blk_index.proofs.Served.{candidate_of, no_candidate_of}
use Rattle.blk_kyber.proofs.KyberScheduler.candidate.Goals as goal

pub returns-clause-some : goal.returns-clause-some
returns-clause-some g c = IfSome_then c.candidate.result c.candidate.ensures.some (λ r best. candidate_of c.args.self.now.queues c.args.self.now.open_picks c.args.hw c.args.limits.now c.args.newcomer.now r.0 r.1 best)

pub returns-clause-none : goal.returns-clause-none
returns-clause-none g c = none_then c.candidate.result _ _ c.candidate.ensures.none (no_candidate_of c.args.self.now.queues c.args.self.now.open_picks c.args.hw c.args.limits.now c.args.newcomer.now)
