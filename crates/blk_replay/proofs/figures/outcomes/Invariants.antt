use Rattle.std.proofs.Common.{◌≡◌, ℕ, ◌<◌, length, get_or}
use Rattle.blk_capture.specs.declared.requests.CapturedRequest.{CapturedRequest}
use Rattle.blk_replay.specs.declared.figures.Outcome.{Outcome}
use Rattle.blk_replay.specs.Figures.{outcome_of}
use Rattle.blk_replay.specs.Requests.{time_of_round}
use Rattle.blk_replay.proofs.figures.outcomes.Given as goal

abbrev pub invariant-loop-place : goal.invariant-loop-place
invariant-loop-place g l = record {
  each : length l.all.items ≡ l.place;
  are : (k : ℕ) (e : Outcome) (d : CapturedRequest) → k < l.place → get_or l.all.items k e ≡ outcome_of (get_or l.requests k d) (time_of_round l.requests (get_or l.rounds k 0) d);
}
