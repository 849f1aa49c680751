-- Windows around a late command, found with a stack of those that are open.
use Rattle.std.specs.Prelude.{ℕ, ◌≡◌, ◌≤◌, ◌<◌, List, Option, Some, None, cond, map, filter, nat_le, nat_lt, length, slice_index, slice_index_or}
use Rattle.std.specs.List.{zip}
use Rattle.edd_commands.specs.declared.Command.{Command}
use Rattle.edd_check.specs.declared.Window.{Window}
use Rattle.edd_commands.specs.declared.steps.Step.{Step}
use Rattle.edd_check.specs.OnTime.{is_on_time}
use Rattle.edd_verdict.specs.declared.Verdict.{Verdict}
use Rattle.edd_verdict.specs.declared.Verdict.TheVariants.{Arrival, Spare, Full}
use Rattle.edd_verdict.specs.declared.around.Ask.{Ask}
use Rattle.edd_verdict.specs.Filled.{IsFilled, IsAround}
use Rattle.edd_verdict.specs.Verdicts.{IsLate, IsLateOnArrival, CanBeOnTime}

-- the commands that are on time
abbrev pub on_time_of : List Command → List ℕ → List Command
on_time_of commands rounds = map (λ p. p.0) (filter (λ p. is_on_time p.0 p.1) (zip commands rounds))

-- each command runs no later than it is due
abbrev pub AreOnTime : List Command → List ℕ → Type 0
AreOnTime commands rounds = (k : ℕ) (d : Command) → k < length commands → slice_index rounds k ≤ (slice_index_or commands k d).due

-- windows that end by rising rounds
abbrev pub EndsRise : List Window → Type 0
EndsRise windows = (i j : ℕ) (e : Window) → i < j → j < length windows → (slice_index_or windows i e).due < (slice_index_or windows j e).due

-- windows that begin by rising rounds
abbrev pub BeginsRise : List Window → Type 0
BeginsRise windows = (i j : ℕ) (e : Window) → i < j → j < length windows → (slice_index_or windows i e).from < (slice_index_or windows j e).from

-- filled windows that end by rising rounds; each filled window ends with one of them, which begins no later
pub record AreFilled (commands : List Command) (rounds : List ℕ) (steps : List Step) (windows : List Window) : Type 0 where
  pub each : (i : ℕ) (e : Window) → i < length windows → IsFilled commands rounds steps (slice_index_or windows i e)
  pub all : (v : Window) → IsFilled commands rounds steps v → v.from ≤ v.due → (i : ℕ) × (i < length windows) × ((e : Window) → ((slice_index_or windows i e).due ≡ v.due) × ((slice_index_or windows i e).from ≤ v.from))
  pub rising : EndsRise windows

-- the first `place` windows begin before the round, and the others later
pub record IsBeginPlace (windows : List Window) (round place : ℕ) : Type 0 where
  pub within : place ≤ length windows
  pub before : (k : ℕ) (e : Window) → k < place → (slice_index_or windows k e).from < round
  pub after : (k : ℕ) (e : Window) → place ≤ k → k < length windows → round ≤ (slice_index_or windows k e).from

-- of the windows from place `left` on those in which no other of them lies: each ends before the one below it, and begins later
pub record AreOpen (windows : List Window) (left : ℕ) (opened : List Window) : Type 0 where
  pub each : (j : ℕ) (e : Window) → j < length opened → (i : ℕ) × (left ≤ i) × (i < length windows) × (slice_index_or opened j e ≡ slice_index_or windows i e)
  pub begins : BeginsRise opened
  pub ends : (i j : ℕ) (e : Window) → i < j → j < length opened → (slice_index_or opened j e).due < (slice_index_or opened i e).due
  pub all : (i : ℕ) (e : Window) → left ≤ i → i < length windows → (j : ℕ) × (j < length opened) × ((slice_index_or opened j e).from ≤ (slice_index_or windows i e).from) × ((slice_index_or opened j e).due ≤ (slice_index_or windows i e).due)

-- of the open windows that begin by the round the one that ends first
pub record IsInnermost (opened : List Window) (round : ℕ) (w : Window) : Type 0 where
  pub place : ℕ
  pub within : place < length opened
  pub here : (e : Window) → slice_index_or opened place e ≡ w
  pub begins : w.from ≤ round
  pub first : (j : ℕ) (e : Window) → j < length opened → (slice_index_or opened j e).from ≤ round → w.due ≤ (slice_index_or opened j e).due

-- the windows all begin after the round
abbrev pub BeginLater : List Window → ℕ → Type 0
BeginLater opened round = (j : ℕ) → (e : Window) → j < length opened → round < (slice_index_or opened j e).from

-- the verdict of a command and its round, where no window is known
abbrev pub first_verdict_of : Command × ℕ → Option Verdict
first_verdict_of p = cond (nat_le p.1 p.0.due) None (cond (nat_lt p.0.due p.0.release) (Some Arrival) (Some Spare))

-- a late command that is released by its due round
pub record IsAsk (commands : List Command) (rounds : List ℕ) (a : Ask) : Type 0 where
  pub within : a.place < length commands
  pub late : IsLate commands rounds a.place
  pub can : CanBeOnTime commands a.place
  pub is_release : (d : Command) → (slice_index_or commands a.place d).release ≡ a.release
  pub is_due : (d : Command) → (slice_index_or commands a.place d).due ≡ a.due

-- windows each of which ends before the one before it
abbrev pub EndsFall : List Window → Type 0
EndsFall opened = (i j : ℕ) (e : Window) → i < j → j < length opened → (slice_index_or opened j e).due < (slice_index_or opened i e).due

-- the windows before place `left` end before the round, and those from there up to place `past` in it or later
pub record IsEntered (windows : List Window) (left past round : ℕ) : Type 0 where
  pub sooner : (i : ℕ) (e : Window) → i < left → (slice_index_or windows i e).due < round
  pub later : (i : ℕ) (e : Window) → left ≤ i → i < past → round ≤ (slice_index_or windows i e).due

-- each of the first n commands that is late and released by its due round is asked for
abbrev pub AreAsked : List Command → List ℕ → ℕ → List Ask → Type 0
AreAsked commands rounds n asks =
    (k : ℕ) → k < n → IsLate commands rounds k → CanBeOnTime commands k → (i : ℕ) × (i < length asks) × ((e : Ask) → (slice_index_or asks i e).place ≡ k)

-- of the windows around the command at place k this one ends first
pub record IsFirstOf (commands : List Command) (windows : List Window) (k : ℕ) (w : Window) : Type 0 where
  pub place : ℕ
  pub within : place < length windows
  pub here : (e : Window) → slice_index_or windows place e ≡ w
  pub around : IsAround commands w k
  pub first : (j : ℕ) (e : Window) → j < length windows → IsAround commands (slice_index_or windows j e) k → w.due ≤ (slice_index_or windows j e).due

-- what an answer says of the command at place k and of these windows
abbrev pub IsJudged : List Command → List ℕ → List Window → ℕ → Option Verdict → Type 0
IsJudged commands rounds windows k None = (d : Command) → slice_index rounds k ≤ (slice_index_or commands k d).due
IsJudged commands rounds windows k (Some Arrival) = IsLate commands rounds k × IsLateOnArrival commands k
IsJudged commands rounds windows k (Some Spare) = IsLate commands rounds k × CanBeOnTime commands k × ((i : ℕ) (e : Window) → i < length windows → IsAround commands (slice_index_or windows i e) k → ⊥)
IsJudged commands rounds windows k (Some (Full w)) = IsLate commands rounds k × CanBeOnTime commands k × IsFirstOf commands windows k w

-- the answers for all commands
pub record AreJudged (commands : List Command) (rounds : List ℕ) (windows : List Window) (verdicts : List (Option Verdict)) : Type 0 where
  pub one_each : length verdicts ≡ length commands
  pub each : (k : ℕ) → k < length commands → IsJudged commands rounds windows k (slice_index_or verdicts k None)
