use Rattle.std.proofs.Common.{◌≡◌}
use Rattle.std.specs.List.{flat_map, range_with_len}
use Rattle.blk_args.specs.CommandLine.{command_table}
use Rattle.blk_args.specs.Inside.Tables.{subcommands_of}
use Rattle.blk_args.specs.Takers.{at_place}
use Rattle.blk_args.proofs.takers.in_order.Given as goal

abbrev pub invariant-loop-place : goal.invariant-loop-place
invariant-loop-place l = subcommands_of l.ordered.items ≡ flat_map (λ place. at_place place command_table) (range_with_len 0 l.place)
