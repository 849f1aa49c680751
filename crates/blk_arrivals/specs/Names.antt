-- The names of faults, and what is told beside them.
use Rattle.std.specs.Prelude.{ℕ, List, codes}
use Rattle.edd_commands.specs.declared.faults.Beside.{Beside}
use Rattle.edd_commands.specs.declared.faults.Beside.TheVariants as beside
use Rattle.blk_trace.specs.Names.{setup_told}
use Rattle.blk_arrivals.specs.declared.terms.ArrivalsFault.{ArrivalsFault}
use Rattle.blk_arrivals.specs.declared.terms.ArrivalsFault.TheVariants as fault

abbrev pub arrivals_told : ArrivalsFault → List ℕ × Beside
arrivals_told fault.Round = (codes "Round", beside.Nothing)
arrivals_told (fault.Setup f) = setup_told f
arrivals_told fault.TooMany = (codes "TooMany", beside.Nothing)
arrivals_told fault.TraceFull = (codes "TraceFull", beside.Nothing)
arrivals_told fault.TooLong = (codes "TooLong", beside.Nothing)
arrivals_told fault.Memory = (codes "Memory", beside.Memory)
