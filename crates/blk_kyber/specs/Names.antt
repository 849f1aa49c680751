-- The names of faults, and what is told beside them.
use Rattle.std.specs.Prelude.{ℕ, List, codes}
use Rattle.edd_commands.specs.declared.faults.Beside.{Beside}
use Rattle.edd_commands.specs.declared.faults.Beside.TheVariants as beside
use Rattle.blk_kyber.specs.declared.KyberFault.{KyberFault}
use Rattle.blk_kyber.specs.declared.KyberFault.TheVariants as fault

abbrev pub kyber_told : KyberFault → List ℕ × Beside
kyber_told fault.ZeroTarget = (codes "ZeroTarget", beside.Nothing)
kyber_told fault.Memory = (codes "Memory", beside.Memory)
