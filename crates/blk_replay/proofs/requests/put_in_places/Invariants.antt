use Rattle.std.proofs.Common.{◌≡◌, ℕ, ◌<◌, length, get_or}
use Rattle.blk_replay.specs.declared.requests.Entrant.{Entrant}
use Rattle.blk_replay.proofs.requests.put_in_places.Given as goal

abbrev pub invariant-loop-k : goal.invariant-loop-k
invariant-loop-k g l = record {
  each : length l.rounds.items ≡ length l.entrants;
  put : (j : ℕ) (d : Entrant) → j < l.k → get_or l.rounds.items (get_or l.entrants j d).place 0 ≡ get_or l.own j 0;
}
