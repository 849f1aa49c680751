-- What a kyber scheduler shows.
use Rattle.std.specs.Prelude.{true}
use Rattle.blk_sched.specs.Meaning.{Meaning}
use Rattle.blk_kyber.specs.declared.Kyber.{Kyber}
use Rattle.blk_kyber.specs.State.{KyberState}

module _ {A : Type 0} where
  -- what it means as a scheduler: a newcomer may always join at the front
  abbrev pub meaning_of : Kyber A → Meaning
  meaning_of s = record { pending = s.queues; open_picks = s.open_picks; front = true }

  -- what it keeps beside that
  abbrev pub state_of : Kyber A → KyberState
  state_of s = record { targets = s.targets; limits = s.limits; turns = s.turns }
