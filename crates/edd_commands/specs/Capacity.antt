use Rattle.std.specs.Prelude.{ℕ, ◌≡◌, ◌≤◌, ◌<◌, ◌+◌, ◌-◌, ◌⊎◌, zero, suc, nat_le, cond, List, [], ◌∷◌, length, slice_index_or}
use Rattle.edd_commands.specs.declared.steps.Step.{Step}
use Rattle.edd_commands.specs.declared.steps.CapacityFault.{CapacityFault}
use Rattle.edd_commands.specs.declared.steps.CapacityFault.TheVariants.{Start, Rising, Depth, Round}
use Rattle.edd_commands.specs.declared.steps.TheConstants.{MAX_DEPTH}
use Rattle.edd_commands.specs.declared.TheConstants.{MAX_ROUNDS}
use Rattle.edd_commands.specs.Order.{BreaksFirst}

-- the depth of the last of these steps that begins in the round x or before, or `depth` where none does
abbrev pub depth_after : ℕ → List Step → ℕ → ℕ
depth_after depth [] x = depth
depth_after depth (s ∷ steps) x = depth_after (cond (nat_le s.from x) s.depth depth) steps x

-- how many commands the round x carries
unfoldable pub depth_at : List Step → ℕ → ℕ
depth_at steps x = depth_after 0 steps x

-- how many commands the n rounds from `start` on carry
unfoldable pub carried : List Step → ℕ → ℕ → ℕ
carried steps start zero = 0
carried steps start (suc n) = carried steps start n + depth_at steps (start + n)

-- the same depth in every round
abbrev pub fixed : ℕ → List Step
fixed depth = record { from = 0; depth = depth } ∷ []

-- the step at place k begins after the one before it
abbrev pub IsRising : List Step → ℕ → Type 0
IsRising steps k = (d : Step) → 0 < k → (slice_index_or steps (k - 1) d).from < (slice_index_or steps k d).from

-- its rounds carry some commands, and at most the most
abbrev pub HasDepth : List Step → ℕ → Type 0
HasDepth steps k = (d : Step) → (0 < (slice_index_or steps k d).depth) × ((slice_index_or steps k d).depth ≤ MAX_DEPTH)

-- it begins in a round within the limit
abbrev pub HasRound : List Step → ℕ → Type 0
HasRound steps k = (d : Step) → (slice_index_or steps k d).from < MAX_ROUNDS

-- nothing is wrong with the step at place k
pub record IsStepAt (steps : List Step) (k : ℕ) : Type 0 where
  pub rising : IsRising steps k
  pub some_depth : HasDepth steps k
  pub round : HasRound steps k

-- steps that begin in round 0 and rise
pub record IsCapacity (steps : List Step) : Type 0 where
  pub some : 0 < length steps
  pub start : (d : Step) → (slice_index_or steps 0 d).from ≡ 0
  pub each : (k : ℕ) → k < length steps → IsStepAt steps k

-- there is no fault before the place p
pub record IsReached (steps : List Step) (p : ℕ) : Type 0 where
  pub in_list : p < length steps
  pub start : (d : Step) → (slice_index_or steps 0 d).from ≡ 0
  pub before : (k : ℕ) → k < p → IsStepAt steps k

-- the rules of the step at the place p, in the order in which they are looked at
abbrev pub step_rules : List Step → ℕ → List (Type 0)
step_rules steps p = IsReached steps p ∷ IsRising steps p ∷ HasDepth steps p ∷ HasRound steps p ∷ []

-- the first fault by place, and at a place by these rules
abbrev pub IsFault : List Step → CapacityFault → Type 0
IsFault steps Start = BreaksFirst (step_rules steps 0) 0 ((length steps ≡ 0) ⊎ ((d : Step) → 0 < (slice_index_or steps 0 d).from))
IsFault steps (Rising p) =
    BreaksFirst (step_rules steps p) 1 ((0 < p) × ((d : Step) → (slice_index_or steps p d).from ≤ (slice_index_or steps (p - 1) d).from))
IsFault steps (Depth p) =
    BreaksFirst (step_rules steps p) 2 ((d : Step) → ((slice_index_or steps p d).depth ≡ 0) ⊎ (MAX_DEPTH < (slice_index_or steps p d).depth))
IsFault steps (Round p) =
    BreaksFirst (step_rules steps p) 3 ((d : Step) → MAX_ROUNDS ≤ (slice_index_or steps p d).from)
