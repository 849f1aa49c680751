use Rattle.std.proofs.Common.{◌≡◌, ◌++◌, take}
use Rattle.blk_args.specs.Inside.Tables.{subcommands_of}
use Rattle.blk_args.specs.Takers.{at_place}
use Rattle.blk_args.proofs.takers.push_rows.Given as goal

abbrev pub invariant-loop-row : goal.invariant-loop-row
invariant-loop-row l = subcommands_of l.all.items ≡ subcommands_of l.fn.all.items ++ at_place l.place (subcommands_of (take l.row-index l.rows))
