use Rattle.std.proofs.Common.{ℕ, ◌≡◌, ◌<◌}
use Rattle.std.specs.Prelude.{slice_get, Some}
use Rattle.blk_layer.specs.Seats.{SubmitterSeat}
use Rattle.blk_layer.proofs.closing.is_there.Given as goal

abbrev pub invariant-loop-submitter : goal.invariant-loop-submitter
invariant-loop-submitter g l = (k : ℕ) (s : SubmitterSeat) → k < l.submitter-index → slice_get l.submitters k ≡ Some s → s.number ≡ l.number → ⊥
