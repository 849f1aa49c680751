-- The parts of a pick.
use Rattle.std.specs.Prelude.{ℕ, ◌≡◌, Option, Some}
use Rattle.std.specs.FinMap as map
use Rattle.blk_bio.specs.declared.bio.Dir.{Dir}
use Rattle.blk_sched.specs.Meaning.{Waiting}
use Rattle.blk_kyber.specs.declared.turn.Turn.{Turn}
use Rattle.blk_kyber.specs.declared.Kyber.{Kyber}
use Rattle.blk_kyber.specs.Choice.{head_of}

-- a choice by the id of its request and the turn in which it goes
abbrev pub IsTurnChoice : (ℕ → Option Waiting) → Option (Waiting × Turn) → ℕ × Turn → Type 0
IsTurnChoice found choice r = (w : Waiting) × (found r.0 ≡ Some w) × (choice ≡ Some (w, r.1))

module _ {A : Type 0} where
  -- what a pick takes of a direction at a hardware queue
  abbrev pub head_in : Kyber A → ℕ → Dir → Option Waiting
  head_in s hw dir = head_of hw s.limits s.open_picks (map.values s.queues) dir
