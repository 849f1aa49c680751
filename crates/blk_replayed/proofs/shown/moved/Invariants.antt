use Rattle.std.proofs.Common.{◌≡◌, ℕ, ◌<◌, length, get_or}
use Rattle.blk_capture.specs.declared.requests.CapturedRequest.{CapturedRequest}
use Rattle.blk_replay.specs.Requests.{time_of_round}
use Rattle.blk_replayed.specs.Shown.{moved_to}
use Rattle.blk_replayed.proofs.shown.moved.Given as goal

-- those so far
abbrev pub invariant-loop-place : goal.invariant-loop-place
invariant-loop-place l = record {
  each : length l.all.items ≡ l.place;
  are : (k : ℕ) (d e : CapturedRequest) → k < l.place → get_or l.all.items k e ≡ moved_to (time_of_round l.requests (get_or l.rounds k 0) d) (get_or l.requests k d);
}
