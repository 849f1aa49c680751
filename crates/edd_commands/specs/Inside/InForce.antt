-- Which step a round's depth is that of.
use Rattle.std.specs.Prelude.{ℕ, ◌≤◌, ◌<◌, List, length, slice_index_or}
use Rattle.edd_commands.specs.declared.steps.Step.{Step}

-- the step at place i is the last that begins in the round x or before
pub record IsInForce (steps : List Step) (i x : ℕ) : Type 0 where
  pub in_list : i < length steps
  pub begun : (d : Step) → (slice_index_or steps i d).from ≤ x
  pub later : (k : ℕ) (d : Step) → i < k → k < length steps → x < (slice_index_or steps k d).from
