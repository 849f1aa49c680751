-- The names of faults, and what is told beside them.
use Rattle.std.specs.Prelude.{ℕ, List, codes}
use Rattle.edd_commands.specs.declared.faults.Beside.{Beside}
use Rattle.edd_commands.specs.declared.faults.Beside.TheVariants as beside
use Rattle.edd_oracle.specs.declared.OracleFault.{OracleFault}
use Rattle.edd_oracle.specs.declared.OracleFault.TheVariants as oracle

abbrev pub oracle_told : OracleFault → List ℕ × Beside
oracle_told oracle.TooMany = (codes "TooMany", beside.Nothing)
oracle_told (oracle.RoundRange id) = (codes "RoundRange", beside.Number id)
oracle_told (oracle.RepeatedId id) = (codes "RepeatedId", beside.Number id)
oracle_told oracle.Memory = (codes "Memory", beside.Memory)
