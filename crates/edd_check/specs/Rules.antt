-- What a schedule is checked for, and which command or round first breaks it.
use Rattle.std.specs.Prelude.{ℕ, ◌≡◌, ◌≤◌, ◌<◌, List, length, slice_index, slice_index_or, [], ◌∷◌}
use Rattle.edd_commands.specs.declared.Command.{Command}
use Rattle.edd_commands.specs.declared.steps.Step.{Step}
use Rattle.edd_commands.specs.Capacity.{depth_at}
use Rattle.edd_commands.specs.Schedule.{StartsReleased, places_at}

-- the rules of a schedule, in the order in which they are looked at
abbrev pub round_rules : List Command → List Step → List ℕ → List (Type 0)
round_rules commands steps rounds =
    (length rounds ≡ length commands)
    ∷ StartsReleased commands rounds
    ∷ ((x : ℕ) → places_at rounds x ≤ depth_at steps x) ∷ []

-- the first command by place that runs before its release has this id
pub record IsFirstEarly (commands : List Command) (rounds : List ℕ) (id : ℕ) : Type 0 where
  pub place : ℕ
  pub in_list : place < length commands
  pub early : (d : Command) → slice_index rounds place < (slice_index_or commands place d).release
  pub named : (d : Command) → (slice_index_or commands place d).id ≡ id
  pub first : (k : ℕ) (d : Command) → k < place → (slice_index_or commands k d).release ≤ slice_index rounds k

-- the least round of more places than it carries
pub record IsLeastOverDeep (rounds : List ℕ) (steps : List Step) (x : ℕ) : Type 0 where
  pub over : depth_at steps x < places_at rounds x
  pub least : (y : ℕ) → y < x → places_at rounds y ≤ depth_at steps y
