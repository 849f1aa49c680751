-- What the check finds of a certificate that it proves.
use Rattle.std.specs.Prelude.{⊤, ℤ, Option, None, Some}
use Rattle.edd_check.specs.declared.Crowding.{Crowding}
use Rattle.edd_check.specs.declared.on_time.Bound.{Bound}
use Rattle.edd_check.specs.declared.Window.{Window}
use Rattle.edd_commands.specs.Capacity.{fixed}
use Rattle.edd_check.specs.Check.{IsCrowding}
use Rattle.edd_check.specs.CheckOnTime.{IsCoverBound}
use Rattle.blk_records.specs.Certificate.{Claim}
use Rattle.blk_records.specs.OnTime.{OnTimeClaim}

-- how crowded the window of a certificate is, if it has one
abbrev pub IsCrowdingOf : Claim → Option (ℤ × Window) → Option Crowding → Type 0
IsCrowdingOf claim None None = ⊤
IsCrowdingOf claim None (Some c) = ⊥
IsCrowdingOf claim (Some b) None = ⊥
IsCrowdingOf claim (Some b) (Some c) = IsCrowding claim.commands (fixed claim.depth) b.0 b.1 c

-- the bound of the windows of a certificate of what is on time
abbrev pub IsBoundOf : OnTimeClaim → Bound → Type 0
IsBoundOf claim b = IsCoverBound claim.commands (fixed claim.depth) claim.cover b
