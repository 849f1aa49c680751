-- What an earliest scheduler shows.
use Rattle.std.specs.Prelude.{Bool, true}
use Rattle.blk_sched.specs.Meaning.{Meaning}
use Rattle.blk_earliest.specs.declared.Earliest.{Earliest}

module _ {A : Type 0} where
  -- whether those past their due rounds go last
  abbrev pub late_last_of : Earliest A → Bool
  late_last_of s = s.late_last

  -- what it means as a scheduler
  abbrev pub meaning_of : Earliest A → Meaning
  meaning_of s = record { pending = s.waiting; open_picks = s.open_picks; front = true }
