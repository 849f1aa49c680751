-- What may be told of a load that was run and fails.
use Rattle.std.specs.Prelude.{ℕ, ◌≡◌, List, [], ◌∷◌, Some, slice_get, codes}
use Rattle.edd_commands.specs.declared.faults.Beside.{Beside}
use Rattle.edd_commands.specs.declared.faults.Beside.TheVariants as beside
use Rattle.edd_commands.specs.declared.faults.Told.{Told}

-- the names, and what stands beside them
abbrev pub load_faults : List (List ℕ × Beside)
load_faults =
    (codes "Memory", beside.Memory)
    ∷ (codes "TraceFull", beside.Nothing)
    ∷ (codes "Repeated", beside.Nothing)
    ∷ (codes "stalled", beside.Nothing)
    ∷ (codes "SeatMissing", beside.Nothing)
    ∷ (codes "Differs", beside.Nothing)
    ∷ (codes "Unserved", beside.Nothing)
    ∷ (codes "Foreign", beside.Nothing)
    ∷ (codes "SoftFull", beside.Nothing)
    ∷ []

-- what is told is one of these
abbrev pub IsLoadFault : Told → Type 0
IsLoadFault t = (place : ℕ) × (slice_get load_faults place ≡ Some (t.name.now, t.beside))
