-- The names of faults, and what is told beside them.
use Rattle.std.specs.Prelude.{ℕ, List, codes}
use Rattle.edd_commands.specs.declared.faults.Beside.{Beside}
use Rattle.edd_commands.specs.declared.faults.Beside.TheVariants as beside
use Rattle.edd_check.specs.declared.CheckFault.{CheckFault}
use Rattle.edd_check.specs.declared.CheckFault.TheVariants as check
use Rattle.edd_check.specs.declared.on_time.OnTimeFault.{OnTimeFault}
use Rattle.edd_check.specs.declared.on_time.OnTimeFault.TheVariants as on_time

abbrev pub check_told : CheckFault → List ℕ × Beside
check_told check.Length = (codes "Length", beside.Nothing)
check_told (check.BeforeRelease id) = (codes "BeforeRelease", beside.Number id)
check_told check.Memory = (codes "Memory", beside.Memory)
check_told (check.OverDepth round) = (codes "OverDepth", beside.Number round)
check_told (check.WrongLateness own) = (codes "WrongLateness", beside.Signed own)
check_told (check.NotCrowded load) = (codes "NotCrowded", beside.Number load)

abbrev pub on_time_told : OnTimeFault → List ℕ × Beside
on_time_told on_time.Length = (codes "Length", beside.Nothing)
on_time_told (on_time.BeforeRelease id) = (codes "BeforeRelease", beside.Number id)
on_time_told on_time.Memory = (codes "Memory", beside.Memory)
on_time_told (on_time.OverDepth round) = (codes "OverDepth", beside.Number round)
on_time_told (on_time.WrongMet own) = (codes "WrongMet", beside.Number own)
on_time_told (on_time.Windows place) = (codes "Windows", beside.Number place)
on_time_told (on_time.Loose bound) = (codes "Loose", beside.Number bound)
