-- What of an earliest scheduler its own methods speak of.
use Rattle.std.specs.Prelude.{ℕ, List}
use Rattle.blk_sched.specs.Meaning.{Pending}
use Rattle.blk_earliest.specs.declared.Earliest.{Earliest}
use Rattle.blk_earliest.specs.Choice.{earliest_kept}
use Rattle.blk_earliest.specs.Shown.{late_last_of}

module _ {A : Type 0} where
  -- the requests that wait, by their ids
  abbrev pub pending_of : Earliest A → Pending
  pending_of s = s.waiting

  -- what it keeps: its setting
  abbrev pub setting_of : Earliest A → List ℕ
  setting_of s = earliest_kept (late_last_of s)
