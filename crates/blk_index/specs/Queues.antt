-- The requests that a hardware queue serves.
pub use Rattle.blk_sched.specs.Meaning.{serves_own}
use Rattle.std.specs.Prelude.{ℕ, Option, None, Some, if◌then◌else◌}
use Rattle.std.specs.FinMap.{get}
use Rattle.blk_sched.specs.Meaning.{Waiting, Pending}

-- a request, if there is one and a hardware queue serves it
abbrev pub if_served : ℕ → Option Waiting → Option Waiting
if_served hw None = None
if_served hw (Some w) = if serves_own hw w then Some w else None

-- of what waits, what a hardware queue serves
abbrev pub served_of : ℕ → Pending → ℕ → Option Waiting
served_of hw pending id = if_served hw (get pending id)
