use Rattle.std.proofs.Common.{◌≡◌}
use Rattle.std.specs.List.{flat_map, range_with_len}
use Rattle.blk_schedulers.specs.Rows.{kinds_at}
use Rattle.blk_schedulers.proofs.rows.tried_kinds.Given as goal

abbrev pub invariant-loop-place : goal.invariant-loop-place
invariant-loop-place l = l.kinds.items ≡ flat_map kinds_at (range_with_len 0 l.place)
