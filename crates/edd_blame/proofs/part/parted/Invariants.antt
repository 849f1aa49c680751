use Rattle.std.proofs.Common.{◌≡◌, not, false, filter, get_or}
use Rattle.std.specs.List.{range_with_len}
use Rattle.edd_blame.proofs.part.parted.Given as goal

abbrev pub invariant-loop-place : goal.invariant-loop-place
invariant-loop-place g l = record {
  marked : l.marked.items ≡ filter (λ k. get_or l.marks k false) (range_with_len 0 l.place);
  others : l.others.items ≡ filter (λ k. not (get_or l.marks k false)) (range_with_len 0 l.place);
}
