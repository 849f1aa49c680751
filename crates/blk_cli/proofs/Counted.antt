-- Commands that count requests are a command list of one a round.
use Rattle.std.proofs.Common.{◌≡◌, ◌≤◌, ◌<◌, ◌+◌, ◌^◌, ℕ, List, length, ap, arith}
use Rattle.std.specs.List.{All}
use Rattle.edd_commands.specs.declared.Command.{Command}
use Rattle.edd_commands.specs.declared.TheConstants.{MAX_COMMANDS}
use Rattle.blk_capture.specs.Counting.{AreInRounds, AreSolvable}
use Rattle.blk_capture.specs.declared.counting.TimedRequest.{TimedRequest}
use Rattle.blk_records.specs.Commands.{AreCommands, IsCommandInRange}

no_request : TimedRequest
no_request = record { release = 0; deadline = 0; dispatch = 0 }

in_range : (rs : List TimedRequest) (commands : List Command) (rounds : List ℕ) → AreInRounds rs commands rounds → length rs ≤ MAX_COMMANDS → AreSolvable commands → All IsCommandInRange commands
in_range rs commands rounds counted few solvable k d h =
    let own = ap (λ (c : Command). c.id) (counted.commands_are k no_request d (omega (arith, h, counted.a_command))) in
    let both = solvable k d h in
    (omega (arith, own, h, few, counted.a_command), both.0, both.1)

pub are_commands : (rs : List TimedRequest) (commands : List Command) (rounds : List ℕ) → AreInRounds rs commands rounds → length rs ≤ MAX_COMMANDS → AreSolvable commands → AreCommands 1 commands
are_commands rs commands rounds counted few solvable =
    (omega arith, omega arith, omega (arith, few, counted.a_command), in_range rs commands rounds counted few solvable)
