use Rattle.std.proofs.Common.{◌≡◌, ℕ, ◌<◌, length, get_or}
use Rattle.edd_commands.specs.declared.Command.{Command}
use Rattle.blk_capture.specs.declared.requests.CapturedRequest.{CapturedRequest}
use Rattle.blk_replay.specs.declared.Arrived.{Arrived}
use Rattle.blk_replay.specs.declared.requests.Entrant.{Entrant}
use Rattle.blk_replay.specs.Requests.{arrived_of}
use Rattle.blk_replay.proofs.requests.arrivals.Given as goal

abbrev pub invariant-loop-entrant : goal.invariant-loop-entrant
invariant-loop-entrant g l = record {
  each : length l.arrived.items ≡ l.entrant-index;
  are : (k : ℕ) (a : Arrived) (e : Entrant) (q : CapturedRequest) (c : Command) → k < l.entrant-index
      → get_or l.arrived.items k a
      ≡ arrived_of l.requests l.by (get_or l.entrants k e).place (get_or l.requests (get_or l.entrants k e).place q) (get_or l.commands (get_or l.entrants k e).place c);
}
