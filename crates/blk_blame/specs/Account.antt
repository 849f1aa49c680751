-- What the late requests of a capture are blamed on.
use Rattle.std.specs.Prelude.{List, map}
use Rattle.edd_commands.specs.Capacity.{fixed}
use Rattle.edd_commands.specs.Schedule.{IsLegal}
use Rattle.blk_capture.specs.Counting.{AreInRounds}
use Rattle.blk_capture.specs.Requests.{times_of}
use Rattle.blk_capture.specs.declared.requests.CapturedRequest.{CapturedRequest}
use Rattle.edd_oracle.specs.Input.{IsTaken}
use Rattle.edd_figures.specs.Misses.{HasMisses}
use Rattle.edd_blame.specs.Causes.{AreCauses}
use Rattle.edd_blame.specs.Sum.{AddUp, AreStalls}
use Rattle.blk_blame.specs.Clock.{allowances_of, dispatches_of}
use Rattle.blk_blame.specs.declared.account.Account.{Account}

-- the requests are counted in rounds, each a dispatch, as the oracle takes them; of this schedule, how many are late and had to be, what made these late, when the device
-- stalled, and why each late one was late
pub record IsBlameAccount (requests : List CapturedRequest) (a : Account) : Type 0 where
  pub counted : AreInRounds (map times_of requests) a.counted.commands.items a.counted.rounds.items
  pub taken : IsTaken a.counted.commands.items
  pub legal : IsLegal a.counted.commands.items a.counted.rounds.items (fixed 1)
  pub misses : HasMisses a.counted.commands.items a.counted.rounds.items (fixed 1) a.blame.misses.counts a.blame.misses.windows.items
  pub sum : AddUp (dispatches_of requests) (allowances_of requests) a.blame.misses.counts a.blame.misses.windows.items a.blame.reasons
  pub stalls : AreStalls (dispatches_of requests) (allowances_of requests) a.blame.stalls.items
  pub causes : AreCauses a.counted.commands.items a.counted.rounds.items (fixed 1) (allowances_of requests) (dispatches_of requests) a.causes.items
