use Rattle.std.proofs.Common.{◌≡◌, map, take}
use Rattle.std.specs.List.{flat_map}
use Rattle.std.specs.Option.{option_to_list}
use Rattle.blk_args.specs.Inside.Tables.{subcommand_of, called}
use Rattle.blk_args.specs.Takers.{taker_but}
use Rattle.blk_args.proofs.takers.takers_of.Given as goal

abbrev pub invariant-loop-row : goal.invariant-loop-row
invariant-loop-row l = map called l.all.items ≡ flat_map (λ s. option_to_list (taker_but l.kind l.but s)) (map subcommand_of (take l.row-index l.row-items))
