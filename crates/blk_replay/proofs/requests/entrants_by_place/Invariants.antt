use Rattle.std.proofs.Common.{◌≡◌, ℕ, ◌<◌, length, get_or}
use Rattle.blk_capture.specs.declared.requests.CapturedRequest.{CapturedRequest}
use Rattle.blk_replay.specs.declared.requests.Entrant.{Entrant}
use Rattle.blk_replay.proofs.requests.entrants_by_place.Given as goal

abbrev pub invariant-loop-place : goal.invariant-loop-place
invariant-loop-place g l = record {
  each : length l.entrants.items ≡ l.place;
  are : (k : ℕ) (e : Entrant) (q : CapturedRequest) → k < l.place → get_or l.entrants.items k e ≡ record { place = k; released = (get_or l.requests k q).released };
}
