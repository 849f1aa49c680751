-- Whether a hardware queue gave a command.
use Rattle.std.specs.Prelude.{◌≡◌, ℕ, Bool, true, false}
use Rattle.blk_core.specs.State.{CoreState}
use Rattle.blk_sched.specs.Policies.{Policy}
use Rattle.blk_sim.specs.Rounds.{GiveNothing, GivesCommand}

-- whether a hardware queue gave a command for a tag
abbrev pub IsGiven : Policy → ℕ → CoreState → Bool → CoreState → Type 0
IsGiven policy tag old true new = GivesCommand policy tag old new
IsGiven policy tag old false new = GiveNothing policy tag old.setup.hw old × (new ≡ old)
