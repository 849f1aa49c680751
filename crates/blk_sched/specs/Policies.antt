-- What a scheduler does by rules of its own.
use Rattle.std.specs.Prelude.{ℕ, ◌≡◌, Bool, true, false, List, Option}
use Rattle.blk_bio.specs.declared.bio.Dir.{Dir}
use Rattle.blk_sched.specs.Meaning.{Waiting, Meaning}

-- a choice: from what is kept, the meaning, a hardware queue and the round to the answer of a pick, and to what is kept then
abbrev pub Choice : Type 1
Choice = List ℕ → Meaning → ℕ → ℕ → Option Waiting → List ℕ → Type 0

-- what is kept once a completion is reported, by the hardware queue, the direction and the wait; and once a round is: before and then
abbrev pub OfDone : Type 1
OfDone = ℕ → Dir → ℕ → List ℕ → List ℕ → Type 0

abbrev pub OfTick : Type 1
OfTick = ℕ → List ℕ → List ℕ → Type 0

-- a scheduler's policy: which requests a pick for a hardware queue may take, which it chooses, and what it keeps once it hears of a
-- completion and of a round
pub record Policy : Type 1 where
  pub serves : ℕ → Waiting → Bool
  pub chooses : Choice
  pub told_done : OfDone
  pub told_tick : OfTick

-- one that serves and chooses alone: what is kept stays when a completion or a round is reported
abbrev pub choosing : (ℕ → Waiting → Bool) → Choice → Policy
choosing serves chooses = record {
  serves = serves;
  chooses = chooses;
  told_done = λ _ _ _ old new. new ≡ old;
  told_tick = λ _ old new. new ≡ old;
}

-- every request is served for every hardware queue
abbrev pub serves_all : ℕ → Waiting → Bool
serves_all hw w = true

-- a switch as a number, among those that a scheduler keeps
abbrev pub switch_number : Bool → ℕ
switch_number false = 0
switch_number true = 1
