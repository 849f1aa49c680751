-- The requests that wait, those of each direction by their ids.
use Rattle.std.specs.Prelude.{ℕ, ◌≡◌, ◌++◌, Option, None, Some}
use Rattle.std.specs.FinMap as map
use Rattle.blk_bio.specs.declared.bio.Dir.{Dir}
use Rattle.blk_bio.specs.declared.bio.Dir.TheVariants.{Read, Write}
use Rattle.blk_sched.specs.Meaning.{Waiting, Pending}
use Rattle.blk_index.specs.Inside.Lanes.{entries_of, found_in, IsRun}
use Rattle.blk_index.specs.declared.lane.Lane.{Lane}

-- each has its id, and the direction
abbrev pub AreOf : Dir → (ℕ → Option Waiting) → Type 0
AreOf dir found = (id : ℕ) (w : Waiting) → found id ≡ Some w → (w.id ≡ id) × (w.extent.dir ≡ dir)

module _ {A : Type 0} where
  -- the requests of both directions
  abbrev pub both : Lane A → Lane A → Pending
  both reads writes = map.from_entries (entries_of reads ++ entries_of writes)

  -- those of one direction and of the other, and no id is in both
  pub record AreApart (dir other : Dir) (these those : Lane A) : Type 0 where
    pub are_of : AreOf dir (found_in these)
    pub are_of_other : AreOf other (found_in those)
    pub apart : (id : ℕ) (w : Waiting) → found_in these id ≡ Some w → found_in those id ≡ None
    pub run : IsRun these
    pub other_run : IsRun those

  -- and so many in all
  pub record AreRequests (reads writes : Lane A) (count : ℕ) : Type 0 where
    pub apart : AreApart Read Write reads writes
    pub counted : count ≡ map.len (both reads writes)
