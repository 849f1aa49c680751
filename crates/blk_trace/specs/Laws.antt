-- What holds of every legal trace.
use Rattle.std.specs.Prelude.{ℕ, ◌≢◌, ◌<◌, ◌≤◌, ◌++◌, List, length, slice_index_or, All, IsPermutation}
use Rattle.std.specs.List.{flat_map}
use Rattle.edd_commands.specs.declared.Command.{Command}
use Rattle.edd_commands.specs.declared.TheConstants.{MAX_COMMANDS, MAX_ROUNDS}
use Rattle.edd_commands.specs.Schedule.{IsLegal}
use Rattle.blk_trace.specs.declared.trace.TheConstants.{MAX_EVENTS}
use Rattle.blk_trace.specs.Happened.{Happened}
use Rattle.blk_trace.specs.Setups.{Setup}
use Rattle.blk_trace.specs.Events.{entered, request_of}
use Rattle.blk_trace.specs.Depths.{capacity_of}
use Rattle.blk_trace.specs.Meaning.{commands_of, rounds_of, issued_ids, waiting_of}

-- its commands, in the rounds of their Issues, are a legal schedule: none before its release, no more in a round than its depth
abbrev pub IsScheduled : Setup → List Happened → Type 0
IsScheduled setup events = IsLegal (commands_of setup events) (rounds_of events) (capacity_of setup events)

-- few commands, each id once, each released in a round of the trace and due below the limit of rounds; and each goes out in a round of the trace
pub record AreBounded (commands : List Command) (rounds : List ℕ) : Type 0 where
  pub few : length commands ≤ MAX_COMMANDS
  pub in_range : All (λ c. (c.release ≤ MAX_EVENTS) × (c.due < MAX_ROUNDS)) commands
  pub distinct : (j k : ℕ) (d : Command) → j < k → k < length commands → (slice_index_or commands j d).id ≢ (slice_index_or commands k d).id
  pub in_time : All (λ r. r ≤ MAX_EVENTS) rounds

-- the bios of the issued requests and those that wait are the bios that entered, each once
abbrev pub IsAccounted : List Happened → Type 0
IsAccounted events = IsPermutation (flat_map (request_of events) (issued_ids events) ++ waiting_of events) (entered events)
