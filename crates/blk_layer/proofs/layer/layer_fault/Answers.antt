use Rattle.std.proofs.Common.{◌≡◌, ◌<◌, ◌≤◌, ◌⊎◌, rules, arith, subst, inl, inr, length}
use Rattle.blk_bio.specs.declared.limits.TheConstants.{MAX_SOFT_DEPTH}
use Rattle.blk_queues.specs.Maps.{IsHwCount}
use Rattle.blk_layer.specs.declared.layer.TheConstants.{MAX_WORKERS}
use Rattle.blk_layer.proofs.Counted.{one_count}
use Rattle.blk_layer.proofs.layer.layer_fault.Goals as goal
use Rattle.blk_layer.proofs.layer.layer_fault.Goals.{then-soft_depth-eq0-via-then-soft_depth-eq0, then-soft_depth-eq0-via-else-soft_depth-eq0+then-soft_depth-gt-MAX_SOFT_DEPTH, then-is_empty-via-then-is_empty, then-is_empty-via-else-is_empty+then-worker_queues-gt-MAX_WORKERS}

pub returns-then-hw_count-hw-clause-some : goal.returns-then-hw_count-hw-clause-some
returns-then-hw_count-hw-clause-some g c = λ (named : IsHwCount c.args.map.now c.args.hw).
    let same : c.hw_count.result ≡ c.args.hw = one_count c.args.map.now c.hw_count.result c.args.hw c.hw_count.ensures.value named in
    absurd (search rules)

pub returns-then-soft_depth-eq0-clause-some : goal.returns-then-soft_depth-eq0-clause-some
returns-then-soft_depth-eq0-clause-some g c =
    let same : c.hw_count.result ≡ c.args.hw = search rules in
    let outside : (c.args.soft_depth ≡ 0) ⊎ (MAX_SOFT_DEPTH < c.args.soft_depth) = elim c.then-soft_depth-eq0.branch [
      | then-soft_depth-eq0-via-then-soft_depth-eq0 w ↦ inl (search rules)
      | then-soft_depth-eq0-via-else-soft_depth-eq0+then-soft_depth-gt-MAX_SOFT_DEPTH w ↦ inr (omega arith)
    ] in
    (subst (IsHwCount c.args.map.now) same c.hw_count.ensures.value, outside)

pub returns-then-is_empty-clause-some : goal.returns-then-is_empty-clause-some
returns-then-is_empty-clause-some g c =
    let same : c.hw_count.result ≡ c.args.hw = search rules in
    let some : 1 ≤ c.args.soft_depth = omega arith in
    let few : c.args.soft_depth ≤ MAX_SOFT_DEPTH = omega arith in
    let outside : (length c.args.worker_queues.now ≡ 0) ⊎ (MAX_WORKERS < length c.args.worker_queues.now) = elim c.then-is_empty.branch [
      | then-is_empty-via-then-is_empty w ↦ inl (search rules)
      | then-is_empty-via-else-is_empty+then-worker_queues-gt-MAX_WORKERS w ↦ inr (search rules)
    ] in
    (subst (IsHwCount c.args.map.now) same c.hw_count.ensures.value, ((some, few), outside))

pub returns-in-Some-clause-some : goal.returns-in-Some-clause-some
returns-in-Some-clause-some g c =
    let same : c.hw_count.result ≡ c.args.hw = search rules in
    let some : 1 ≤ c.args.soft_depth = omega arith in
    let few : c.args.soft_depth ≤ MAX_SOFT_DEPTH = omega arith in
    let workers : 0 < length c.args.worker_queues.now = search rules in
    let most : length c.args.worker_queues.now ≤ MAX_WORKERS = search rules in
    (subst (IsHwCount c.args.map.now) same c.hw_count.ensures.value, ((some, few), ((workers, most), c.in-Some.ensures.some)))

pub returns-in-None-clause-none : goal.returns-in-None-clause-none
returns-in-None-clause-none g c =
    let same : c.hw_count.result ≡ c.args.hw = search rules in
    let some : 1 ≤ c.args.soft_depth = omega arith in
    let few : c.args.soft_depth ≤ MAX_SOFT_DEPTH = omega arith in
    let workers : 0 < length c.args.worker_queues.now = search rules in
    let most : length c.args.worker_queues.now ≤ MAX_WORKERS = search rules in
    record {
      named = subst (IsHwCount c.args.map.now) same c.hw_count.ensures.value;
      some_depth = some;
      few_depth = few;
      some_workers = workers;
      few_workers = most;
      in_range = c.in-None.ensures.none;
    }
