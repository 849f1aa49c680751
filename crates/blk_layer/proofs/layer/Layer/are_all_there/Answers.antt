use Rattle.std.proofs.Common.{◌≡◌, ◌∙◌, sym, ap, arith, true, false, length, eq-eqb, eqb-true}
use Rattle.blk_layer.specs.Seats.{LayerShape}
use Rattle.blk_layer.proofs.layer.Layer.are_all_there.Goals as goal

pub returns-then-not-has_each : goal.returns-then-not-has_each
returns-then-not-has_each g c =
    let map : c.args.self.now.map ≡ c.self.inside.map = sym (ap (λ (l : LayerShape). l.map) c.self.view_is) in (
      (λ t. let n : false ≡ true = t in absurd (cc)),
      λ all.
          let has : c.has_each.result ≡ true = c.has_each.ensures.1 (λ k low. all.each_submitter k (omega (arith, low, all.submitter_count))) in
          let not : c.has_each.result ≡ false = c.if-not-has_each.true in
          absurd (cc),
    )

pub returns : goal.returns
returns g c =
    let map : c.args.self.now.map ≡ c.self.inside.map = sym (ap (λ (l : LayerShape). l.map) c.self.view_is) in
    let workers : c.args.self.now.workers ≡ c.self.inside.workers = sym (ap (λ (l : LayerShape). l.workers) c.self.view_is) in
    let count : length c.args.submitters.now ≡ length c.args.self.now.map = omega (arith, c.if-submitters-soft_count.false, c.soft_count.ensures.value, ap length map) in (
      (λ t. record {
        submitter_count = count;
        each_submitter = λ k low. c.has_each.ensures.0 c.if-not-has_each.false k (omega (arith, low, count));
        worker_count = eqb-true (length c.args.workers.now) c.self.inside.workers t ∙ sym workers;
      }),
      λ all. eq-eqb (length c.args.workers.now) c.self.inside.workers (all.worker_count ∙ workers),
    )
