-- The status that a fault ends with.
use Rattle.std.specs.Prelude.{ℕ}
use Rattle.edd_commands.specs.declared.faults.Beside.{Beside}
use Rattle.edd_commands.specs.declared.faults.Beside.TheVariants as beside

-- 3 for what came from outside, 2 for words that can't be done, 1 for what is refused
abbrev pub status_beside : Beside → ℕ
status_beside beside.Read = 3
status_beside beside.Write = 3
status_beside beside.Memory = 3
status_beside beside.Words = 2
status_beside b = 1
