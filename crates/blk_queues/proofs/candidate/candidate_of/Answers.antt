use Rattle.std.proofs.Common.{arith, ◌≡◌, ◌∷◌, [], ◌-◌, length, refl}
use Rattle.std.proofs.lemmas.Option.{slice_get_read}
use Rattle.blk_bio.specs.declared.request.Side.TheVariants.{Back}
use Rattle.blk_queues.proofs.Joining.{all_tried, none_from_here}
use Rattle.blk_queues.proofs.candidate.candidate_of.Goals as goal

pub returns-in-Some-clause-some : goal.returns-in-Some-clause-some
returns-in-Some-clause-some g c = record {
  bios = c.index-requests-place.result;
  stands = slice_get_read c.args.requests.now (length c.args.requests.now) (c.loop-place.place - 1) c.index-requests-place.result refl (omega arith) c.index-requests-place.is;
  tried = all_tried c.in-Some.side;
  fits = c.in-Some.ensures.some;
  back_first = λ front back. let same : Back ≡ c.in-Some.side = c.in-Some.ensures.only Back back in absurd (cc);
  newest = λ k newer s above stands tried fits. c.loop-place.invariant.none_newer k newer s (omega arith) stands fits;
}

pub loop-place-preserved : goal.loop-place-preserved
loop-place-preserved g c = record {
  within = omega arith;
  none_newer = none_from_here c.args.limits.now c.args.requests.now (c.args.bio.now ∷ []) c.loop-place.place (c.loop-place.place - 1) c.index-requests-place.result (omega arith) (omega arith) c.index-requests-place.is c.loop-place.invariant.none_newer c.in_default.ensures.none;
}
