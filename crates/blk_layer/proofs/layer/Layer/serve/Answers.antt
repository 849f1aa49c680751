use Rattle.std.proofs.Common.{◌≡◌, ◌≤◌, List, ℕ, length, refl, sym, ap, subst, inl, arith}
use Rattle.std.proofs.lemmas.Result.{err_from_is_err_and}
use Rattle.blk_layer.specs.declared.batch.TheConstants.{MAX_BATCH}
use Rattle.blk_layer.specs.declared.serving.WorkFault.TheVariants.{Memory}
use Rattle.blk_layer.specs.Inside.Serving.{IsServing}
use Rattle.blk_layer.proofs.Taken.{serves_nothing, all_served, serve_refused}
use Rattle.blk_layer.proofs.layer.Layer.serve.Goals as goal

pub loop-served-init : goal.loop-served-init
loop-served-init g c = record {
  serving = subst (λ (l : List ℕ). IsServing c.args.worker.now l c.args.worker.now) (sym c.new-batch.ensures) (serves_nothing c.args.worker.now);
  ran = omega arith;
  few = omega (arith, ap length c.new-batch.ensures);
  same_set = refl;
}

pub returns-in_err-exchanged-clause-fault : goal.returns-in_err-exchanged-clause-fault
returns-in_err-exchanged-clause-fault g c =
    let p = err_from_is_err_and c.from_residual.result c.from_residual.ensures.1 in
    let batch = c.exchange-exchanged.new.batch in
    let now = c.exchange-exchanged.new.worker in
    let few : length batch ≤ MAX_BATCH = omega (arith, c.len-held.ensures.value, c.len-held.ensures.fits) in
    rw (p.1, p.2) (serve_refused c.args.worker.now batch now c.in_err-exchanged.field-0.0 (c.exchange-exchanged.ensures.serves.on c.args.worker.now c.loop-served.invariant.serving) few c.in_err-exchanged.ensures.fault)

pub returns-then-held-eq0-clause-runs : goal.returns-then-held-eq0-clause-runs
returns-then-held-eq0-clause-runs g c =
    let batch = c.exchange-exchanged.new.batch in
    let none : length batch ≡ 0 = omega (arith, c.len-held.ensures.value, c.if-held-eq0.true) in
    all_served c.args.worker.now batch c.exchange-exchanged.new.worker (c.exchange-exchanged.ensures.serves.on c.args.worker.now c.loop-served.invariant.serving) none

pub returns-clause-fault : goal.returns-clause-fault
returns-clause-fault g c =
    serve_refused c.args.worker.now c.loop-served.batch c.loop-served.worker Memory c.loop-served.invariant.serving c.loop-served.invariant.few (inl refl)
