-- What is reported of a load.
use Rattle.std.specs.Prelude.{◌≡◌, Option, None, Some, Result, Ok, Err}
use Rattle.blk_load.specs.Inside.Faults.{IsFirstOfTwo}
use Rattle.blk_load.specs.declared.fault.LoadFault.{LoadFault}

-- what is reported of a load: what it came to where its threads met no fault and it could be settled, and else the first of the faults
abbrev pub IsOutcome : {V : Type 0} → Option LoadFault → Result V LoadFault → Result V LoadFault → Type 0
IsOutcome fault settled (Ok v) = (fault ≡ None) × (settled ≡ Ok v)
IsOutcome fault (Ok v) (Err why) = fault ≡ Some why
IsOutcome fault (Err closing) (Err why) = IsFirstOfTwo fault (Some closing) (Some why)
