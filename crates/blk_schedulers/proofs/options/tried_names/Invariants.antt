use Rattle.std.proofs.Common.{◌≡◌, map, take, string_bytes}
use Rattle.std.specs.List.{join_with_byte}
use Rattle.blk_schedulers.specs.Rows.{row_for}
use Rattle.blk_schedulers.proofs.options.tried_names.Given as goal

abbrev pub invariant-loop-i : goal.invariant-loop-i
invariant-loop-i l = string_bytes l.names ≡ join_with_byte 44 (map (λ k. (row_for k).name) (take l.i l.kinds.items))
