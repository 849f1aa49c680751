use Rattle.std.proofs.Common.{◌≡◌, ◌∙◌, true, false, length, refl, ap, subst, arith}
use Rattle.std.proofs.lemmas.Result.{err_from_is_err_and}
use Rattle.blk_layer.specs.Seats.{WorkerSeat}
use Rattle.blk_layer.specs.Serving.{RunsMore, IsWorkFault}
use Rattle.blk_layer.proofs.Running.{ran_on, ran_count, faulted_on, refused}
use Rattle.blk_layer.proofs.layer.Layer.work.Goals as goal

pub returns-in-Err-clause-fault : goal.returns-in-Err-clause-fault
returns-in-Err-clause-fault g c =
    faulted_on c.args.worker.now c.loop-passed.worker c.of_release.result c.drain.new.worker c.loop-passed.invariant
    (refused c.loop-passed.worker c.of_release.result c.drain.new.worker c.drain.ensures.worker)

pub returns-in_err-served-clause-fault : goal.returns-in_err-served-clause-fault
returns-in_err-served-clause-fault g c =
    let p = err_from_is_err_and c.from_residual.result c.from_residual.ensures.1 in
    rw (p.1, p.2) (faulted_on c.args.worker.now c.loop-passed.worker c.in_err-served.field-0.0 c.serve.new.worker c.loop-passed.invariant
    (subst (λ (s : WorkerSeat). IsWorkFault s c.in_err-served.field-0.0 c.serve.new.worker) c.drain.ensures.worker c.in_err-served.ensures.fault))

pub returns-in-Finish-clause-worked : goal.returns-in-Finish-clause-worked
returns-in-Finish-clause-worked g c =
    let served : RunsMore c.loop-passed.worker c.serve.new.worker = subst (λ (s : WorkerSeat). RunsMore s c.serve.new.worker) c.drain.ensures.worker c.in_ok-served.ensures.runs in
    let runs : RunsMore c.args.worker.now c.serve.new.worker = ran_on c.args.worker.now c.loop-passed.worker c.serve.new.worker c.loop-passed.invariant served in
    record {
      few = omega (arith, c.loop-passed-test.true);
      unfinished = λ e. absurd (let f : true ≡ false = e in cc);
      runs = runs;
      ran = omega (arith, ap length c.ran.ensures.value, ap length c.ran-before.ensures.value, ran_count c.args.worker.now c.serve.new.worker runs);
    }

pub returns-clause-worked : goal.returns-clause-worked
returns-clause-worked g c =
    record {
      few = omega arith;
      unfinished = λ e. refl;
      runs = c.loop-passed.invariant;
      ran = omega (arith, ap length c.ran-2.ensures.value, ap length c.ran-before.ensures.value, ran_count c.args.worker.now c.loop-passed.worker c.loop-passed.invariant);
    }

pub returns-in_err-served-clause-tag_set : goal.returns-in_err-served-clause-tag_set
returns-in_err-served-clause-tag_set g c =
    c.serve.ensures.tag_set ∙ ap (λ (s : WorkerSeat). s.tag_set) c.drain.ensures.worker ∙ ap (λ (s : WorkerSeat). s.tag_set) c.loop-passed.invariant.grown
