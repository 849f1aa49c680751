use Rattle.std.proofs.Common.{◌≡◌, take, None}
use Rattle.std.specs.Prelude.{find}
use Rattle.std.specs.Str.{bytes_eq}
use Rattle.blk_schedulers.specs.declared.rows.SchedRow.{SchedRow}
use Rattle.blk_schedulers.proofs.given.row_named.Given as goal

abbrev pub invariant-loop-i : goal.invariant-loop-i
invariant-loop-i l = record { none : find (λ (r : SchedRow). bytes_eq l.name r.name.now) (take l.i l.rows) ≡ None }
