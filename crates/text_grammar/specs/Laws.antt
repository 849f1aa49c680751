-- The laws of parts that clauses cite.
use Rattle.std.specs.Prelude.{◌≡◌, ◌+◌, ◌≤◌, List, length, Ok, Err}
use Rattle.text_grammar.specs.Parts.{Part, Took, IsTaken}

-- a fault is at most one past the last record
abbrev pub IsNear : {R E V : Type 0} → List R → Took R E V → Type 0
IsNear rows (Ok t) = Unit {0}
IsNear rows (Err f) = (1 ≤ f.0) × (f.0 ≤ length rows + 1)

-- what records are taken as, and that it is the only thing
abbrev pub Told : {R E V : Type 0} → Part R E V → List R → Type 0
Told {R} {E} {V} p rows = (t : Took R E V) × IsTaken p rows t × IsNear rows t × ((u : Took R E V) → IsTaken p rows u → t ≡ u)

-- a part is a function: records begin with one value's, or have one first fault
pub record Tells {R E V : Type 0} (p : Part R E V) : Type 0 where
  pub told : (rows : List R) → Told p rows

-- any record may follow
abbrev pub IsPlain : {R E V : Type 0} → Part R E V → Type 0
IsPlain {R} {E} {V} p = (v : V) → (rest : List R) → p.Fits v → p.Follows v rest
