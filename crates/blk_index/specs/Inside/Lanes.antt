-- Requests by their ids, of which a run stands one after the other.
use Rattle.std.specs.Prelude.{ℕ, ◌≡◌, ◌<◌, ◌≤◌, ◌+◌, ◌^◌, ◌++◌, IsSome, length, List, [], ◌∷◌, Option, None, Some}
use Rattle.std.specs.Ordering.{nat_cmp}
use Rattle.std.specs.BTreeMap.{is_at}
use Rattle.std.specs.Map.{lookup}
use Rattle.blk_sched.specs.Meaning.{Waiting}
use Rattle.blk_index.specs.declared.lane.Lane.{Lane}

-- the request of an id in a list
abbrev pub at_id : List (ℕ × Waiting) → ℕ → Option Waiting
at_id entries id = lookup (is_at (nat_cmp id)) entries

-- a request under an id, if there is one, before others
abbrev pub under : ℕ → Option Waiting → List (ℕ × Waiting) → List (ℕ × Waiting)
under id None rest = rest
under id (Some w) rest = (id, w) ∷ rest

-- the requests of a run of ids, and that of an id
unfoldable pub run_of : ℕ → List (Option Waiting) → List (ℕ × Waiting)
run_of from [] = []
run_of from (o ∷ os) = under from o (run_of (from + 1) os)

abbrev pub run_at : ℕ → List (Option Waiting) → ℕ → Option Waiting
run_at from os id = at_id (run_of from os) id

-- the least id that is found, or none, where nothing is
pub record IsLeastId (found : ℕ → Option Waiting) (id : ℕ) : Type 0 where
  pub there : IsSome (found id)
  pub least : (k : ℕ) → k < id → found k ≡ None

abbrev pub IsLeastOrNone : (ℕ → Option Waiting) → Option ℕ → Type 0
IsLeastOrNone found None = (k : ℕ) → found k ≡ None
IsLeastOrNone found (Some id) = IsLeastId found id

-- the ids of a run have 64 bits
abbrev pub AreInRange : ℕ → List (Option Waiting) → Type 0
AreInRange from os = from + length os ≤ 2 ^ 64

module _ {A : Type 0} where
  -- all requests, and that of an id
  abbrev pub entries_of : Lane A → List (ℕ × Waiting)
  entries_of p = run_of p.from p.run.items ++ p.others.entries

  abbrev pub found_in : Lane A → ℕ → Option Waiting
  found_in p = at_id (entries_of p)

  abbrev pub IsRun : Lane A → Type 0
  IsRun p = AreInRange p.from p.run.items
