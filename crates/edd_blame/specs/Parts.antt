-- The fewest late commands of a part, and the most that could be saved, over all schedules of the whole.
use Rattle.std.specs.Prelude.{ℕ, ◌≡◌, ◌≢◌, ◌≤◌, ◌<◌, ◌&&◌, not, Bool, false, List, length, count_by, nat_lt, slice_index, slice_index_or, All, AllPairs, filter}
use Rattle.std.specs.List.{range_with_len}
use Rattle.edd_commands.specs.declared.Command.{Command}
use Rattle.edd_commands.specs.declared.steps.Step.{Step}
use Rattle.edd_commands.specs.Schedule.{IsLegal}

-- places of a list of n, each once
pub record ArePlaces (n : ℕ) (places : List ℕ) : Type 0 where
  pub within : All (λ k. k < n) places
  pub once : AllPairs (λ j k. j ≢ k) places

-- the command at place k of a list that has one there
abbrev pub command_here : List Command → ℕ → Command
command_here commands k = slice_index_or commands k record { id = 0; release = 0; due = 0 }

-- it runs after it is due
abbrev pub is_late_at : List Command → List ℕ → ℕ → Bool
is_late_at commands rounds k = nat_lt (command_here commands k).due (slice_index rounds k)

-- how many of the commands at these places do
unfoldable pub number_late_at : List Command → List ℕ → List ℕ → ℕ
number_late_at commands rounds places = count_by (is_late_at commands rounds) places

-- some legal schedule of all commands has n of those at the places late, and none has fewer of them
pub record IsLeastLateAt (commands : List Command) (steps : List Step) (places : List ℕ) (n : ℕ) : Type 0 where
  pub schedule : List ℕ
  pub legal : IsLegal commands schedule steps
  pub reached : number_late_at commands schedule places ≡ n
  pub least : (rounds : List ℕ) → IsLegal commands rounds steps → n ≤ number_late_at commands rounds places

-- what is on time in the one schedule is on time in the other
abbrev pub KeepsOnTime : List Command → List ℕ → List ℕ → Type 0
KeepsOnTime commands rounds other = (k : ℕ) → k < length commands → is_late_at commands rounds k ≡ false → is_late_at commands other k ≡ false

-- how many of the commands at these places are late in the one and on time in the other
unfoldable pub number_saved_at : List Command → List ℕ → List ℕ → List ℕ → ℕ
number_saved_at commands rounds other places = count_by (λ k. is_late_at commands rounds k && not (is_late_at commands other k)) places

-- some legal schedule has n of those at the places on time that are late here, beside all that are on time here, and none has more
pub record IsMostSavedAt (commands : List Command) (rounds : List ℕ) (steps : List Step) (places : List ℕ) (n : ℕ) : Type 0 where
  pub schedule : List ℕ
  pub legal : IsLegal commands schedule steps
  pub keeps : KeepsOnTime commands rounds schedule
  pub reached : number_saved_at commands rounds schedule places ≡ n
  pub most : (other : List ℕ) → IsLegal commands other steps → KeepsOnTime commands rounds other → number_saved_at commands rounds other places ≤ n

-- the places that are marked, and the others
unfoldable pub marked_places : List Bool → List ℕ
marked_places marks = filter (λ k. slice_index_or marks k false) (range_with_len 0 (length marks))

unfoldable pub other_places : List Bool → List ℕ
other_places marks = filter (λ k. not (slice_index_or marks k false)) (range_with_len 0 (length marks))

-- of the schedules that have as few of the others late as any, some has n of those at the places late, and none has fewer
pub record IsLeastLateBeside (commands : List Command) (steps : List Step) (places others : List ℕ) (n : ℕ) : Type 0 where
  pub fewest : ℕ
  pub others_least : IsLeastLateAt commands steps others fewest
  pub schedule : List ℕ
  pub legal : IsLegal commands schedule steps
  pub others_keep : number_late_at commands schedule others ≡ fewest
  pub reached : number_late_at commands schedule places ≡ n
  pub least : (rounds : List ℕ) → IsLegal commands rounds steps → number_late_at commands rounds others ≡ fewest → n ≤ number_late_at commands rounds places
