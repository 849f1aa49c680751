-- The row of an order.
use Rattle.std.proofs.Common.{ℕ, ◌≡◌, ◌≤◌, List, arith, true, sym, subst}
use Rattle.edd_commands.specs.Capacity.{fixed}
use Rattle.edd_commands.specs.Schedule.{IsLegal}
use Rattle.edd_commands.specs.declared.Command.{Command}
use Rattle.edd_figures.specs.Misses.{number_late, IsLeastLate}
use Rattle.edd_figures.proofs.Tardy.{all_commands}
use Rattle.blk_capture.specs.declared.requests.CapturedRequest.{CapturedRequest}
use Rattle.blk_replay.specs.Requests.{AreLateByTheClock}
use Rattle.blk_replayed.specs.declared.row.Chooser.{Chooser}
use Rattle.blk_replayed.specs.declared.row.Chooser.TheVariants.{Machine}
use Rattle.blk_replayed.specs.declared.row.ReplayRow.{ReplayRow}
use Rattle.blk_replayed.specs.Rows.{AreRoundsBy, IsOfEarliest, IsBestUnderEarliest, IsReplayRowIn, IsReplayRow}

pub row_of : (chooser : Chooser) (unavoidable : ℕ) (requests : List CapturedRequest) (commands : List Command) (rounds : List ℕ) (r : ReplayRow)
    → AreRoundsBy chooser requests commands rounds → IsLegal commands rounds (fixed 1) → AreLateByTheClock requests commands rounds → IsLeastLate commands (fixed 1) unavoidable → IsBestUnderEarliest chooser commands rounds
    → IsReplayRowIn chooser unavoidable requests commands rounds r → IsReplayRow unavoidable requests commands r
row_of chooser unavoidable requests commands rounds r chosen legal alike least best numbers =
    let C : Chooser → Type 0 = λ x. AreRoundsBy x requests commands rounds in
    let N : Chooser → Type 0 = λ x. IsReplayRowIn x unavoidable requests commands rounds r in
    let B : Chooser → Type 0 = λ x. IsBestUnderEarliest x commands rounds in
    let so = subst B (sym numbers.chosen) best in
    record {
      rounds = rounds;
      chosen = subst C (sym numbers.chosen) chosen;
      legal = legal;
      alike = alike;
      numbers = subst N (sym numbers.chosen) numbers;
      best = so;
      none_avoidable = λ of.
          let most = so.best true of in
          let fewer = most.most least.schedule least.legal in
          omega (arith, fewer, all_commands commands least.schedule least.legal.one_each, all_commands commands rounds legal.one_each, least.reached, numbers.late, numbers.least, numbers.rest);
    }

-- as it went it is none of earliest's
pub as_it_went : (commands : List Command) (rounds : List ℕ) → IsBestUnderEarliest Machine commands rounds
as_it_went commands rounds = record { best = λ late_last of. absurd of }

-- no legal schedule has fewer late
pub at_least : (commands : List Command) (rounds : List ℕ) (n : ℕ) → IsLeastLate commands (fixed 1) n → IsLegal commands rounds (fixed 1) → n ≤ number_late commands rounds
at_least commands rounds n least legal = least.least rounds legal
