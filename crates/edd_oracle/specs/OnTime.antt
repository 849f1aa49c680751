-- As many commands as possible by their due rounds: earliest due first that passes over what can no more be on time.
use Rattle.std.specs.Prelude.{ℕ, ◌≡◌, ◌≤◌, ◌<◌, ◌+◌, ◌⊎◌, List, length, slice_index, slice_index_or}
use Rattle.edd_commands.specs.declared.Command.{Command}
use Rattle.edd_check.specs.declared.Window.{Window}
use Rattle.edd_commands.specs.declared.steps.Step.{Step}
use Rattle.edd_commands.specs.Capacity.{depth_at}
use Rattle.edd_commands.specs.Schedule.{places_at, IsLegal, RoundsInRange}
use Rattle.edd_check.specs.OnTime.{number_on_time, bound_of, IsMostOnTime, IsCover, CoverInRange}
use Rattle.edd_check.specs.CheckOnTime.{PassesOnTimeCheck}
use Rattle.edd_oracle.specs.declared.MostOnTime.{MostOnTime}
use Rattle.edd_oracle.specs.Plan.{IsWindowStart}
use Rattle.edd_oracle.specs.Priority.{ComesFirst}

-- the commands before the round `end` are on time, the others are not, and the last one on time has the round before it
pub record IsOnTimeUntil (commands : List Command) (rounds : List ℕ) (end : ℕ) : Type 0 where
  pub on_time : (k : ℕ) (d : Command) → k < length commands → slice_index rounds k < end → slice_index rounds k ≤ (slice_index_or commands k d).due
  pub late : (k : ℕ) (d : Command) → k < length commands → end ≤ slice_index rounds k → (slice_index_or commands k d).due < slice_index rounds k
  pub last : (end ≡ 0) ⊎ ((k : ℕ) × (k < length commands) × (slice_index rounds k + 1 ≡ end))

-- the command at place k could be on time in the round x, and runs later
pub record IsDelayed (commands : List Command) (rounds : List ℕ) (x k : ℕ) (d : Command) : Type 0 where
  pub in_list : k < length commands
  pub released : (slice_index_or commands k d).release ≤ x
  pub in_time : x ≤ (slice_index_or commands k d).due
  pub later : x < slice_index rounds k

-- the command at place k is released by the round x, which is `end` or later, and runs later
pub record IsLeftOver (commands : List Command) (rounds : List ℕ) (end x k : ℕ) (d : Command) : Type 0 where
  pub in_list : k < length commands
  pub released : (slice_index_or commands k d).release ≤ x
  pub past : end ≤ x
  pub later : x < slice_index rounds k

-- where a command is delayed the round is full of commands on time that come first; the commands that are not on time have rounds
-- after all that are, earliest due first
pub record IsOnTimeFirst (commands : List Command) (rounds : List ℕ) (steps : List Step) : Type 0 where
  pub end : ℕ
  pub until : IsOnTimeUntil commands rounds end
  pub full : (x k : ℕ) (d : Command) → IsDelayed commands rounds x k d → places_at rounds x ≡ depth_at steps x
  pub due_first : (x k p : ℕ) (d : Command) → IsDelayed commands rounds x k d → p < length commands → slice_index rounds p ≡ x → (x ≤ (slice_index_or commands p d).due) × ComesFirst (slice_index_or commands p d) (slice_index_or commands k d)
  pub rest_full : (x k : ℕ) (d : Command) → IsLeftOver commands rounds end x k d → places_at rounds x ≡ depth_at steps x
  pub rest_first : (x k p : ℕ) (d : Command) → IsLeftOver commands rounds end x k d → p < length commands → slice_index rounds p ≡ x → ComesFirst (slice_index_or commands p d) (slice_index_or commands k d)

-- the command at place k is passed over: it is released by its due round, and runs after it
pub record IsPassedOver (commands : List Command) (rounds : List ℕ) (k : ℕ) (d : Command) : Type 0 where
  pub in_list : k < length commands
  pub some : (slice_index_or commands k d).release ≤ (slice_index_or commands k d).due
  pub late : (slice_index_or commands k d).due < slice_index rounds k

-- the window ends with the due round of a command that is passed over, and begins one past the last round up to there in
-- which fewer commands due by then run than it carries
pub record IsPassedWindow (commands : List Command) (rounds : List ℕ) (steps : List Step) (w : Window) : Type 0 where
  pub place : ℕ
  pub passed : (d : Command) → IsPassedOver commands rounds place d
  pub is_due : (d : Command) → w.due ≡ (slice_index_or commands place d).due
  pub is_start : IsWindowStart commands rounds steps (w.due + 1) w.due w.from

-- the windows of the commands that are passed over, those joined that overlap or touch
pub record IsPassedCover (commands : List Command) (rounds : List ℕ) (steps : List Step) (cover : List Window) : Type 0 where
  pub each : (i : ℕ) (e : Window) → i < length cover → IsPassedWindow commands rounds steps (slice_index_or cover i e)
  pub apart : (i : ℕ) (e : Window) → i + 1 < length cover → (slice_index_or cover i e).due + 1 < (slice_index_or cover (i + 1) e).from
  pub all : (k : ℕ) (d : Command) → IsPassedOver commands rounds k d → (i : ℕ) × (i < length cover) × ((e : Window) → ((slice_index_or cover i e).from ≤ (slice_index_or commands k d).release) × ((slice_index_or commands k d).due ≤ (slice_index_or cover i e).due))

-- a legal schedule, how many it has on time, and a cover of that bound, so that no legal schedule has more
pub record IsMostAnswer (commands : List Command) (steps : List Step) (rounds : List ℕ) (on_time : ℕ) (cover : List Window) : Type 0 where
  pub legal : IsLegal commands rounds steps
  pub number : number_on_time commands rounds ≡ on_time
  pub disjoint : IsCover cover
  pub bound : bound_of commands steps cover ≡ on_time
  pub most : IsMostOnTime commands steps on_time
  pub rounds_in : RoundsInRange rounds
  pub cover_in : CoverInRange cover

-- the same of an answer
abbrev pub IsMostOf : {A : Type 0} → List Command → List Step → MostOnTime A → Type 0
IsMostOf commands steps a = IsMostAnswer commands steps a.rounds.items a.on_time a.cover.items

-- its cover is that of the commands that are passed over
abbrev pub HasPassedCover : {A : Type 0} → List Command → List Step → MostOnTime A → Type 0
HasPassedCover commands steps a = IsPassedCover commands a.rounds.items steps a.cover.items

-- it passes the separate check
abbrev pub IsCheckedOnTime : {A : Type 0} → List Command → List Step → MostOnTime A → Type 0
IsCheckedOnTime commands steps a = PassesOnTimeCheck commands steps a.rounds.items a.on_time a.cover.items
