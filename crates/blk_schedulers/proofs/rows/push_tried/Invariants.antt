use Rattle.std.proofs.Common.{◌≡◌, ◌==◌, ◌++◌, filter, map, take}
use Rattle.blk_schedulers.proofs.rows.push_tried.Given as goal

abbrev pub invariant-loop-row : goal.invariant-loop-row
invariant-loop-row l = l.kinds.items ≡ l.fn.kinds.items ++ map (λ r. r.kind) (filter (λ r. r.tried == l.place) (take l.row-index l.row-items))
