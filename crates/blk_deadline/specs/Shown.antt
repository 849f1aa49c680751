-- What a deadline scheduler shows.
use Rattle.std.specs.Prelude.{ℕ, List, Option}
use Rattle.std.specs.FinMap as map
use Rattle.blk_sched.specs.Meaning.{Waiting, Meaning}
use Rattle.blk_deadline.specs.declared.Deadline.{Deadline}
use Rattle.blk_deadline.specs.declared.BatchState.{BatchState}
use Rattle.blk_deadline.specs.declared.Tunables.{Tunables}
use Rattle.blk_deadline.specs.Choice.{deadline_choice, deadline_kept}

module _ {A : Type 0} where
  -- where it stands: the last pick, how many went in the batch, and how often reads went first
  abbrev pub batch_of : Deadline A → BatchState
  batch_of s = s.batch

  -- what it is tuned by
  abbrev pub tunables_of : Deadline A → Tunables
  tunables_of s = s.tunables

  -- what it means as a scheduler
  abbrev pub meaning_of : Deadline A → Meaning
  meaning_of s = record { pending = s.index; open_picks = s.open_picks; front = s.tunables.front_merges }

  -- what it keeps beside that
  abbrev pub kept_in : Deadline A → List ℕ
  kept_in s = deadline_kept s.batch s.tunables

  -- its choice
  abbrev pub choice_at : Deadline A → ℕ → Option (Waiting × BatchState)
  choice_at s now = deadline_choice s.tunables s.batch now (map.values s.index)
