use Rattle.std.proofs.Common.{◌≡◌, ◌≤◌, length, map}
use Rattle.std.specs.List.{All}
use Rattle.edd_commands.specs.declared.TheConstants.{MAX_COMMANDS}
use Rattle.blk_report.specs.Inside.Below.{answer_of, IsAskWithin}
use Rattle.blk_report.proofs.below.count_below.Given as goal

-- what is left to ask has the answers of what was asked
abbrev pub invariant-loop-limit : goal.invariant-loop-limit
invariant-loop-limit g l = record {
  few : length l.numbers.items ≤ MAX_COMMANDS;
  asks : All (IsAskWithin l.numbers.items l.limit) l.left.items;
  same : map (answer_of l.numbers.items) l.left.items ≡ map (answer_of l.fn.numbers.items) l.asks;
}

abbrev pub decreases-loop-limit : goal.decreases-loop-limit
decreases-loop-limit g l = l.limit
