use Rattle.std.specs.Prelude.{ℕ, ◌≡◌, ◌≤◌, ◌<◌, ◌+◌, ◌-◌, ◌&&◌, ◌⊎◌, Bool, not, List, length, count_by, sum_by, nat_le, slice_index_or, zip, All}
use Rattle.std.specs.List.{list_any}
use Rattle.edd_commands.specs.declared.Command.{Command}
use Rattle.edd_check.specs.declared.Window.{Window}
use Rattle.edd_commands.specs.declared.steps.Step.{Step}
use Rattle.edd_commands.specs.Capacity.{carried}
use Rattle.edd_commands.specs.Schedule.{IsLegal}
use Rattle.edd_check.specs.Window.{WindowInRange}

-- the command is on time in the round x: it runs no later than it is due
abbrev pub is_on_time : Command → ℕ → Bool
is_on_time c x = nat_le x c.due

-- how many commands a schedule has on time
unfoldable pub number_on_time : List Command → List ℕ → ℕ
number_on_time commands rounds = count_by (λ p. is_on_time p.0 p.1) (zip commands rounds)

-- no legal schedule has more than n commands on time
abbrev pub IsOnTimeBound : List Command → List Step → ℕ → Type 0
IsOnTimeBound commands steps n = (rounds : List ℕ) → IsLegal commands rounds steps → number_on_time commands rounds ≤ n

-- some legal schedule has n commands on time, and none has more
pub record IsMostOnTime (commands : List Command) (steps : List Step) (n : ℕ) : Type 0 where
  pub schedule : List ℕ
  pub legal : IsLegal commands schedule steps
  pub reached : number_on_time commands schedule ≡ n
  pub most : IsOnTimeBound commands steps n

-- x is a round of the window
abbrev pub holds : Window → ℕ → Bool
holds w x = nat_le w.from x && nat_le x w.due

-- the command lies in the window: its release and its due round are rounds of it
abbrev pub lies_in : Command → Window → Bool
lies_in c w = holds w c.release && holds w c.due

-- the command is released by its due round, so that it may be on time in some schedule
abbrev pub can_be_on_time : Command → Bool
can_be_on_time c = nat_le c.release c.due

-- how many commands that can be on time lie in the window
unfoldable pub inside_of : List Command → Window → ℕ
inside_of commands w = count_by (λ c. can_be_on_time c && lies_in c w) commands

-- how many commands that can be on time lie in none of the windows
unfoldable pub outside_of : List Command → List Window → ℕ
outside_of commands cover = count_by (λ c. can_be_on_time c && not (list_any (λ w. lies_in c w) cover)) commands

-- how many commands the window's rounds carry
unfoldable pub carried_in : List Step → Window → ℕ
carried_in steps w = carried steps w.from (w.due + 1 - w.from)

-- how many commands the windows' rounds carry
unfoldable pub carried_by : List Step → List Window → ℕ
carried_by steps cover = sum_by (λ w. carried_in steps w) cover

-- what the windows carry, and the commands that can be on time and lie in none of them
abbrev pub bound_of : List Command → List Step → List Window → ℕ
bound_of commands steps cover = carried_by steps cover + outside_of commands cover

-- the window at place k has a round, and begins after the one before it ends
pub record IsWindowAt (cover : List Window) (k : ℕ) : Type 0 where
  pub some : (d : Window) → (slice_index_or cover k d).from ≤ (slice_index_or cover k d).due
  pub rising : (d : Window) → 0 < k → (slice_index_or cover (k - 1) d).due < (slice_index_or cover k d).from

-- disjoint windows by rising rounds
abbrev pub IsCover : List Window → Type 0
IsCover cover = (k : ℕ) → k < length cover → IsWindowAt cover k

-- the first window by place that has no round or doesn't begin after the one before it ends
pub record IsFirstAstray (cover : List Window) (p : ℕ) : Type 0 where
  pub in_list : p < length cover
  pub astray : (d : Window) → ((slice_index_or cover p d).due < (slice_index_or cover p d).from) ⊎ ((0 < p) × ((slice_index_or cover p d).from ≤ (slice_index_or cover (p - 1) d).due))
  pub before : (k : ℕ) → k < p → IsWindowAt cover k

-- the numbers of each window are within the limit
abbrev pub CoverInRange : List Window → Type 0
CoverInRange cover = All WindowInRange cover
