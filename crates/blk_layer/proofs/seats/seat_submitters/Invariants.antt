use Rattle.std.proofs.Common.{ℕ, ◌≡◌, ◌<◌, length, Some}
use Rattle.std.specs.Prelude.{slice_get}
use Rattle.blk_layer.specs.Seats.{new_submitter}
use Rattle.blk_layer.proofs.seats.seat_submitters.Given as goal

abbrev pub invariant-loop-number : goal.invariant-loop-number
invariant-loop-number g l = record {
  count : length l.all.items ≡ l.number;
  each : (k : ℕ) → k < l.number → slice_get l.all.items k ≡ Some (new_submitter k);
}
