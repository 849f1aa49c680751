-- What is found in what a recorder printed.
use Rattle.std.specs.Prelude.{◌≡◌, ℕ, List, Option, None, Some, Ok, Err}
use Rattle.blk_recorders.specs.Steps.{ReadProgress, read_printed}
use Rattle.blk_recorders.specs.declared.fault.LineFault.{LineFault}
use Rattle.blk_recorders.specs.declared.recorder.Recorder.{Recorder}

-- the lines are read as those of this recorder where no device is asked for, or this one is the first that is wrong
abbrev pub AreLinesExplained : Recorder → List ℕ → Option LineFault → Type 0
AreLinesExplained f bytes None = (s : ReadProgress) × (read_printed f None bytes ≡ Ok s)
AreLinesExplained f bytes (Some x) = read_printed f None bytes ≡ Err x
