-- The schedule of a replay.
use Rattle.std.proofs.Common.{ℕ, ◌≡◌, ◌<◌, ◌≤◌, List, arith, length}
use Rattle.std.specs.Prelude.{All}
use Rattle.std.proofs.lemmas.List.Elements.{All-weaker}
use Rattle.edd_commands.specs.Capacity.{fixed}
use Rattle.edd_commands.specs.Schedule.{IsLegal}
use Rattle.edd_commands.specs.declared.Command.{Command}
use Rattle.edd_commands.specs.declared.TheConstants.{MAX_COMMANDS, MAX_ROUNDS}
use Rattle.blk_records.specs.Schedule.{ScheduleView, IsScheduleView}
use Rattle.blk_replay.specs.Requests.{AreRounds}

-- other rounds of the same commands make a schedule too
pub ran_so : (s : ScheduleView) (n : ℕ) (rounds : List ℕ) → IsScheduleView s → n ≤ MAX_COMMANDS → length rounds ≡ length s.commands → AreRounds n rounds
    → IsScheduleView (record { depth = s.depth; commands = s.commands; rounds = rounds })
ran_so s n rounds ran few each own = record {
  depth = ran.depth;
  few = ran.few;
  one_each = each;
  commands = ran.commands;
  rounds = All-weaker (λ (r : ℕ). (0 < r) × (r ≤ n)) (λ (r : ℕ). r < MAX_ROUNDS) (λ r h. omega (arith, h.1, few)) rounds own;
  distinct = ran.distinct;
}
