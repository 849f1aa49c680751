use Rattle.std.proofs.Common.{◌<◌, subst, get_or}
use Rattle.std.proofs.lemmas.Option.{get_or_from_slice_get, slice_get-get_or}
use Rattle.blk_layer.proofs.layer.first_outside.Goals as goal

pub returns-then-queue-hw-clause-some : goal.returns-then-queue-hw-clause-some
returns-then-queue-hw-clause-some c =
    let queues = c.args.queues.now in
    let place = c.loop-place.place in
    record {
      queue = get_or queues place 0;
      stands = slice_get-get_or queues place 0 c.loop-place-test.true;
      outside = c.if-queue-hw.true;
      first = λ k earlier less at. subst (λ n. n < c.args.hw) (get_or_from_slice_get queues k earlier 0 at) (c.loop-place.invariant k 0 less);
    }
