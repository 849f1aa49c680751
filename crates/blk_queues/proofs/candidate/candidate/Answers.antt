use Rattle.std.proofs.Common.{◌∷◌, []}
use Rattle.std.proofs.lemmas.Option.{IfSome_then}
use Rattle.blk_queues.proofs.Slices.{candidate_newer, candidate_older, none_both, none_then}
use Rattle.blk_queues.proofs.candidate.candidate.Goals as goal

pub returns-in-Some-clause-some : goal.returns-in-Some-clause-some
returns-in-Some-clause-some g c = candidate_newer c.args.limits.now c.as_slices.result.0.now c.as_slices.result.1.now c.args.requests.now.items (c.args.bio.now ∷ []) c.in-Some.place c.in-Some.side c.as_slices.ensures.items c.in-Some.ensures.some

pub returns-clause-some : goal.returns-clause-some
returns-clause-some g c = IfSome_then c.candidate_of-2.result c.candidate_of-2.ensures.some (λ r best. candidate_older c.args.limits.now c.as_slices.result.0.now c.as_slices.result.1.now c.args.requests.now.items (c.args.bio.now ∷ []) r.0 r.1 c.as_slices.ensures.items c.in_default.ensures.none best)

pub returns-clause-none : goal.returns-clause-none
returns-clause-none g c = none_then c.candidate_of-2.result _ _ c.candidate_of-2.ensures.none (none_both c.args.limits.now c.as_slices.result.0.now c.as_slices.result.1.now c.args.requests.now.items (c.args.bio.now ∷ []) c.as_slices.ensures.items c.in_default.ensures.none)
