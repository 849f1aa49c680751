use Rattle.std.proofs.Common.{◌≡◌, ◌<◌, ℕ, take, Some}
use Rattle.std.specs.Prelude.{slice_get}
use Rattle.blk_layer.specs.Seats.{SubmitterSeat}
use Rattle.blk_layer.specs.Closing.{all_accepted}
use Rattle.blk_layer.specs.Inside.Closing.{IsAccountOf, all_left}
use Rattle.blk_layer.proofs.closing.bios_by_seat.Given as goal

abbrev pub invariant-loop-submitter : goal.invariant-loop-submitter
invariant-loop-submitter g l = (all_left l.accounts.items ≡ all_accepted (take l.submitter-index l.submitters))
    × ((k : ℕ) (s : SubmitterSeat) → k < l.submitter-index → slice_get l.submitters k ≡ Some s → IsAccountOf s)
