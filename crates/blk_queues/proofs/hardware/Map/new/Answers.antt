use Rattle.std.proofs.Common.{arith, rules, ◌<◌, ◌≤◌, length, refl}
use Rattle.std.proofs.lemmas.Grind.{common_steps}
use Rattle.blk_bio.specs.declared.limits.TheConstants.{MAX_SOFT_QUEUES}
use Rattle.blk_queues.proofs.Counting.{made, unserved}
use Rattle.blk_queues.proofs.hardware.Map.new.Goals as goal

pub returns-then-names_above-2-clause-answer : goal.returns-then-names_above-2-clause-answer
returns-then-names_above-2-clause-answer g c =
    let some : 0 < length c.args.entries.items = first_of (omega arith, search rules, grind (arith, common_steps)) in
    let few : length c.args.entries.items ≤ MAX_SOFT_QUEUES = first_of (omega arith, search rules, grind (arith, common_steps)) in
    (some, ((few, (λ k d l. rw (← c.as_slice.ensures.value) (c.if-names_above.ensures.none k d (rw c.as_slice.ensures.value l)))), unserved _ _ _ _ _ c.as_slice.ensures.value c.as_slice-2.ensures.value c.as_slice-3.ensures.value c.if-names_above.ensures.none c.least_unnamed-hw_count.ensures.named c.least_unnamed-hw_count.ensures.unnamed c.if-names_above-2.ensures.some))

pub invariant_of-result : goal.invariant_of-result
invariant_of-result g c =
    let some : 0 < length c.args.entries.items = first_of (omega arith, search rules, grind (arith, common_steps)) in
    let few : length c.args.entries.items ≤ MAX_SOFT_QUEUES = first_of (omega arith, search rules, grind (arith, common_steps)) in
    made _ _ _ _ _ c.as_slice.ensures.value c.as_slice-2.ensures.value c.as_slice-3.ensures.value some few c.least_unnamed-hw_count.ensures.few c.if-names_above.ensures.none c.least_unnamed-hw_count.ensures.named c.least_unnamed-hw_count.ensures.unnamed c.if-names_above-2.ensures.none

pub returns-clause-answer : goal.returns-clause-answer
returns-clause-answer g c =
    let some : 0 < length c.args.entries.items = first_of (omega arith, search rules, grind (arith, common_steps)) in
    let few : length c.args.entries.items ≤ MAX_SOFT_QUEUES = first_of (omega arith, search rules, grind (arith, common_steps)) in
    (refl, (made _ _ _ _ _ c.as_slice.ensures.value c.as_slice-2.ensures.value c.as_slice-3.ensures.value some few c.least_unnamed-hw_count.ensures.few c.if-names_above.ensures.none c.least_unnamed-hw_count.ensures.named c.least_unnamed-hw_count.ensures.unnamed c.if-names_above-2.ensures.none).is_map)
