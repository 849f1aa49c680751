use Rattle.std.proofs.Common.{◌≡◌, ◌∙◌, ap, sym, rules, arith, length, map}
use Rattle.blk_trace.specs.Setups.{Setup}
use Rattle.blk_layer.specs.Seats.{new_worker}
use Rattle.blk_layer.proofs.layer.Layer.make.Goals as goal

pub invariant_of-layer : goal.invariant_of-layer
invariant_of-layer g c =
    let depth : c.in-Ok-new.tags.depth ≡ g.L.Named.setup.depth = c.in-Ok-new.ensures.depth ∙ c.depth.ensures.value ∙ ap (λ (s : Setup). s.depth) (c.setup-setup.ensures ∙ c.trace.ensures.setup ∙ c.requires.setup) in
    (c.in-Ok.ensures ∙ c.soft_count-soft_count.ensures.value, c.requires.can.named, depth, omega (arith, c.len.ensures, c.in-Ok-seat_workers.ensures.count, ap length c.as_slice-queues.ensures.value, ap length c.requires.queues), sym c.requires.map)

pub returns-clause-made : goal.returns-clause-made
returns-clause-made g c =
    let depth : c.in-Ok-new.tags.depth ≡ c.args.core.setup.depth = c.in-Ok-new.ensures.depth ∙ c.depth.ensures.value ∙ ap (λ (s : Setup). s.depth) (c.setup-setup.ensures ∙ c.trace.ensures.setup) in
    let count : length c.in-Ok-seat_submitters.submitters.items ≡ length c.args.map = c.in-Ok-seat_submitters.ensures.count ∙ c.soft_count-soft_count.ensures.value in
    record {
      map_is = search rules;
      count_is = search rules;
      depth_is = depth;
      submitter_count = count;
      each_submitter = λ k less. c.in-Ok-seat_submitters.ensures.each k (omega (arith, c.soft_count-soft_count.ensures.value, less));
      each_worker = c.in-Ok-seat_workers.ensures.each ∙ ap (map (new_worker c.in-Ok-new.tags)) c.as_slice-queues.ensures.value;
    }
