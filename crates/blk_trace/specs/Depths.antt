-- How many commands each round of a trace carries.
use Rattle.std.specs.Prelude.{ℕ, ◌≡◌, ◌+◌, ◌<◌, ◌≤◌, ◌==◌, Bool, false, cond, List, [], ◌∷◌, Option, option_map}
use Rattle.std.specs.List.{filter_map}
use Rattle.edd_commands.specs.declared.steps.Step.{Step}
use Rattle.edd_commands.specs.Capacity.{depth_at}
use Rattle.blk_trace.specs.Happened.{Happened, Depth}
use Rattle.blk_trace.specs.Kinds.{sets_depth}
use Rattle.blk_trace.specs.Setups.{Setup}
use Rattle.blk_trace.specs.Events.{At, round_of, round_at}
use Rattle.blk_trace.specs.Meaning.{timed}

-- from the round after this one on, this depth
abbrev pub step_after : ℕ → ℕ → Step
step_after round depth = record { from = round + 1; depth = depth }

-- what an event in the round changes: a Depth is in force from the next round on
abbrev pub change : ℕ × Happened → Option Step
change t = option_map (step_after t.0) (sets_depth t.1)

-- the setup's depth from the start on, and that of each Depth, in their order
unfoldable pub changes_of : Setup → List Happened → List Step
changes_of setup events = record { from = 0; depth = setup.depth } ∷ filter_map change (timed 0 events)

-- how many commands the round carries: the depth of the last Depth in a round before it, or the setup's where there is none
unfoldable pub depth_in : Setup → List Happened → ℕ → ℕ
depth_in setup events round = depth_at (changes_of setup events) round

-- how many the round carries that is on
unfoldable pub depth_now : Setup → List Happened → ℕ
depth_now setup events = depth_in setup events (round_of events)

-- whether the first of these changes is in force from the round on
abbrev pub begins_at : List Step → ℕ → Bool
begins_at [] round = false
begins_at (s ∷ steps) round = s.from == round

-- of several changes in one round the last stands
abbrev pub last_of_each : List Step → List Step
last_of_each [] = []
last_of_each (s ∷ steps) = cond (begins_at steps s.from) (last_of_each steps) (s ∷ last_of_each steps)

-- the steps by which the rounds' depths change
unfoldable pub capacity_of : Setup → List Happened → List Step
capacity_of setup events = last_of_each (changes_of setup events)

-- each round has the depth of the last Depth in a round before it, or the setup's, under the trace's capacity
abbrev pub CarriesEachDepth : Setup → List Happened → Type 0
CarriesEachDepth setup events = (round : ℕ) → depth_at (capacity_of setup events) round ≡ depth_in setup events round

-- at the place stands a Depth in a round before this one, and after it none
pub record IsLastBefore (events : List Happened) (place depth round : ℕ) : Type 0 where
  pub stands : At events place (Depth depth)
  pub sooner : round_at events place < round
  pub last : (k n : ℕ) → place < k → At events k (Depth n) → round ≤ round_at events k

-- each Depth stands in this round or after it
abbrev pub HasNoneBefore : List Happened → ℕ → Type 0
HasNoneBefore events round = (k n : ℕ) → At events k (Depth n) → round ≤ round_at events k

-- a round has the depth of the last Depth in a round before it, and the setup's where there is none
abbrev pub LastDepthIsInForce : Setup → List Happened → Type 0
LastDepthIsInForce setup events = (place depth round : ℕ) → IsLastBefore events place depth round → depth_in setup events round ≡ depth

abbrev pub SetupDepthIsInForce : Setup → List Happened → Type 0
SetupDepthIsInForce setup events = (round : ℕ) → HasNoneBefore events round → depth_in setup events round ≡ setup.depth

-- no event sets a depth
abbrev pub IsFixed : List Happened → Type 0
IsFixed events = (k depth : ℕ) → At events k (Depth depth) → ⊥
