-- The place of the one window in which a command lies.
use Rattle.std.specs.Prelude.{ℕ, ◌≡◌, ◌<◌, ◌==◌, ◌&&◌, Bool, false, List, length, Option, Some, None, slice_index_or}
use Rattle.edd_commands.specs.declared.Command.{Command}
use Rattle.edd_check.specs.declared.Window.{Window}
use Rattle.edd_check.specs.OnTime.{can_be_on_time, lies_in}

-- whether k is the place, if there is one
abbrev pub is_place : Option ℕ → ℕ → Bool
is_place None k = false
is_place (Some place) k = k == place

-- it is the place of the one window in which the command lies, if it can be on time, and there is none where it lies in none
abbrev pub IsPlaceOf : Command → List Window → Option ℕ → Type 0
IsPlaceOf c cover place =
    (k : ℕ) → (d : Window) → k < length cover → (can_be_on_time c && lies_in c (slice_index_or cover k d)) ≡ is_place place k
