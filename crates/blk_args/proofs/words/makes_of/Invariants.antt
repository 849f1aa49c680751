use Rattle.std.proofs.Common.{◌≡◌, take, None}
use Rattle.std.specs.Prelude.{find}
use Rattle.std.specs.Str.{bytes_eq}
use Rattle.blk_args.specs.declared.table.CommandRow.{CommandRow}
use Rattle.blk_args.proofs.words.makes_of.Given as goal

abbrev pub invariant-loop-row : goal.invariant-loop-row
invariant-loop-row l = find (λ (r : CommandRow). bytes_eq l.name r.name.now) (take l.row-index l.rows) ≡ None
