-- Where the counting of rounds in blocks goes on.
use Rattle.std.specs.Prelude.{ℕ, ◌≤◌, List, All}
use Rattle.edd_commands.specs.declared.steps.Step.{Step}
use Rattle.edd_commands.specs.Capacity.{depth_at}
use Rattle.edd_commands.specs.Schedule.{places_at}

-- the round stands in no more places than it carries
abbrev pub IsWithinDepth : List ℕ → List Step → ℕ → Type 0
IsWithinDepth rounds steps x = places_at rounds x ≤ depth_at steps x

-- the least round of the list that is `from` or later
pub record IsLeastRoundFrom (rounds : List ℕ) (start x : ℕ) : Type 0 where
  pub late : start ≤ x
  pub others : All (λ y. start ≤ y → x ≤ y) rounds
