-- What was read so far, as the reader keeps it.
use Rattle.std.specs.Prelude.{◌≡◌, ◌⊎◌, List, Result, Ok, Err}
use Rattle.blk_capture.specs.declared.record.Record.{Record}
use Rattle.blk_recorders.specs.Steps.{ReadProgress, sofar}
use Rattle.blk_recorders.specs.declared.fault.LineReason.{LineReason}
use Rattle.blk_recorders.specs.declared.fault.LineReason.TheVariants as why
use Rattle.blk_recorders.specs.declared.steps.StepReader.{StepReader}
use Rattle.blk_recorders.specs.declared.steps.Steps.{Steps}

-- a call ends as the definition says, or memory ran out
abbrev pub Takes : ReadProgress → Result (Unit {0}) LineReason → Result ReadProgress LineReason → Type 0
Takes new (Ok u) should = should ≡ Ok new
Takes new (Err w) should = (w ≡ why.Memory) ⊎ (should ≡ Err w)

-- the same of a reader, whatever its records were before those at hand
abbrev pub TakesBy : StepReader → StepReader → Result (Unit {0}) LineReason → (ReadProgress → Result ReadProgress LineReason) → Type 0
TakesBy old new result should = (past : List Record) → Takes (sofar past new) result (should (sofar past old))

-- all but the records is the same
pub record HaveSameCounts (old new : Steps) : Type 0 where
  pub device_is : new.device ≡ old.device
  pub others_are : new.others ≡ old.others
  pub remarks_are : new.remarks ≡ old.remarks
  pub losses_are : new.losses ≡ old.losses
