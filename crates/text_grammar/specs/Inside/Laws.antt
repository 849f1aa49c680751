-- The laws of parts that proofs alone need.
use Rattle.std.specs.Prelude.{◌≡◌, ◌⊎◌, ℕ, List, []}
use Rattle.text_grammar.specs.Parts.{Part, Begins}
use Rattle.text_grammar.specs.Laws.{Tells, IsPlain}

-- records begin with a value's, or have a fault
abbrev pub Either : {R E V : Type 0} → Part R E V → List R → Type 0
Either {R} {E} {V} p rows = ((v : V) × (rest : List R) × Begins p rows v rest) ⊎ ((k : ℕ) × (w : E) × p.Wrong rows k w)

-- a kind of record: no two values have the same record, a value's record lacks nothing, and a record is a value's or lacks one thing first
pub record TellsRecord {R E V : Type 0} (row_of : V → R) (Fits : V → Type 0) (Lacks : R → E → Type 0) : Type 0 where
  pub once : (v u : V) → Fits v → Fits u → row_of v ≡ row_of u → v ≡ u
  pub apart : (v : V) → (w : E) → Fits v → Lacks (row_of v) w → ⊥
  pub first : (row : R) → (w x : E) → Lacks row w → Lacks row x → w ≡ x
  pub decided : (row : R) → ((v : V) × Fits v × (row ≡ row_of v)) ⊎ ((w : E) × Lacks row w)

-- an item: it has a record, and any may follow
pub record IsItem {R E V : Type 0} (p : Part R E V) : Type 0 where
  pub tells : Tells p
  pub plain : IsPlain p
  pub some : (v : V) → p.Fits v → ¬ (p.rows_of v ≡ [])
