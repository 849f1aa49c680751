-- What rounds do to the core by itself: words of the helpers of `run`, and no promise.
use Rattle.std.specs.Prelude.{◌≡◌, ◌<◌, ℕ, zero, suc}
use Rattle.blk_core.specs.State.{CoreState}
use Rattle.blk_sim.specs.declared.refusal.SimReason.{SimReason}
use Rattle.blk_sim.specs.Rounds.{Works}
use Rattle.blk_sched.specs.Policies.{Policy}
use Rattle.blk_sim.specs.Refusals.{IsWorkRefused}

-- the core works n times
unfoldable pub WorkInTurn : Policy → ℕ → CoreState → CoreState → Type 0
WorkInTurn policy zero old new = new ≡ old
WorkInTurn policy (suc n) old new = (middle : CoreState) × WorkInTurn policy n old middle × Works policy middle new

-- of n times the core worked some, and is then refused
pub record IsWorkInTurnRefused (policy : Policy) (count : ℕ) (core : CoreState) (w : SimReason) : Type 0 where
  pub rounds : ℕ
  pub few : rounds < count
  pub middle : CoreState
  pub worked : WorkInTurn policy rounds core middle
  pub refused : IsWorkRefused policy middle w
