-- How the window of the latest command is found.
use Rattle.std.specs.Prelude.{ℕ, ◌≡◌, ◌<◌, List}
use Rattle.edd_commands.specs.declared.Command.{Command}
use Rattle.edd_commands.specs.Schedule.{places_at}
use Rattle.edd_oracle.specs.Plan.{due_at}

-- the list has each round before x once for each command due by `due` that runs in it
abbrev pub HasRoundsBefore : List Command → List ℕ → ℕ → ℕ → List ℕ → Type 0
HasRoundsBefore commands rounds x due early = (y : ℕ) → y < x → places_at early y ≡ due_at commands rounds y due
