use Rattle.std.proofs.Common.{◌≡◌, filter}
use Rattle.std.specs.List.{range_with_len}
use Rattle.blk_blame.specs.Groups.{is_in_group}
use Rattle.blk_blame.proofs.groups.own_places.Given as goal

-- the places so far
abbrev pub invariant-loop-place : goal.invariant-loop-place
invariant-loop-place l = l.places.items ≡ filter (is_in_group l.by l.requests l.key) (range_with_len 0 l.place)
