-- The rules of terms alone.
use Rattle.std.specs.Prelude.{◌≤◌, ◌<◌, List, [], ◌∷◌}
use Rattle.edd_commands.specs.declared.steps.TheConstants.{MAX_DEPTH}
use Rattle.blk_trace.specs.declared.setup.TheConstants.{MAX_EXPIRIES}
use Rattle.blk_trace.specs.declared.setup.SetupFault.TheVariants as setup
use Rattle.blk_arrivals.specs.declared.terms.Terms.{Terms}
use Rattle.blk_arrivals.specs.declared.terms.ArrivalsFault.{ArrivalsFault}
use Rattle.blk_arrivals.specs.declared.terms.ArrivalsFault.TheVariants as fault
use Rattle.blk_arrivals.specs.Scripts.{expiry_rounds}

-- the rules of the terms, in the order in which they are looked at, each with its fault
abbrev pub term_rules : Terms → List (Type 0 × ArrivalsFault)
term_rules t =
    (0 < t.round, fault.Round)
    ∷ ((0 < t.depth) × (t.depth ≤ MAX_DEPTH), fault.Setup setup.Depth)
    ∷ ((expiry_rounds t.read_expire t.round < MAX_EXPIRIES) × (expiry_rounds t.write_expire t.round < MAX_EXPIRIES), fault.Setup setup.Expire) ∷ []
