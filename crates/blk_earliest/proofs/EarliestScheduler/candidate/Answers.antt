use Rattle.std.proofs.Common.{true}
use Rattle.std.proofs.lemmas.Option.{IfSome_then}
use Rattle.blk_index.proofs.ServesAll.{candidate_of}
use Rattle.blk_earliest.proofs.EarliestScheduler.candidate.Goals as goal

pub returns-clause-some : goal.returns-clause-some
returns-clause-some g c = IfSome_then c.candidate.result c.candidate.ensures.some (λ r best. candidate_of (record { pending = c.args.self.now.waiting; open_picks = c.args.self.now.open_picks; front = true }) c.args.hw c.args.limits.now c.args.newcomer.now r.0 r.1 best)
