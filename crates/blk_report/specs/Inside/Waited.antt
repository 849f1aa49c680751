-- The places that a late command waited for, and what they went to.
use Rattle.std.specs.Prelude.{ℕ, ◌≡◌, ◌≤◌, ◌<◌, ◌+◌, ◌-◌, List, length, map, slice_index, slice_index_or}
use Rattle.edd_commands.specs.declared.steps.Step.{Step}
use Rattle.edd_commands.specs.Capacity.{carried, depth_at}
use Rattle.edd_commands.specs.Schedule.{places_at}
use Rattle.edd_verdict.specs.declared.Verdict.{Verdict}
use Rattle.blk_report.specs.declared.serving.Service.{Service}
use Rattle.blk_report.specs.declared.delays.LateCommand.{LateCommand}
use Rattle.blk_report.specs.declared.below.CountAsk.{CountAsk}

-- the commands before this place were issued before the round, and the others are not
pub record IsFrom (services : List Service) (round place : ℕ) : Type 0 where
  pub within : place ≤ length services
  pub before : (k : ℕ) (d : Service) → k < place → (slice_index_or services k d).issue < round
  pub after : (k : ℕ) (d : Service) → place ≤ k → k < length services → round ≤ (slice_index_or services k d).issue

-- it asks for how many of the commands that were issued in the rounds that s waited are due no later
pub record IsAskOfWait (services : List Service) (s : Service) (a : CountAsk) : Type 0 where
  pub start : IsFrom services s.release a.start
  pub end : IsFrom services s.issue a.end
  pub bound : a.bound ≡ s.due + 1
  pub nothing : a.count ≡ 0

-- each late command has one that asks for it
abbrev pub AskForAll : List Service → List Service → List CountAsk → Type 0
AskForAll services late asks =
    (k : ℕ) → (d : Service) → (e : CountAsk) → k < length late → IsAskOfWait services (slice_index_or late k d) (slice_index_or asks k e)

-- no round has more of them than it carries
abbrev pub FitsIn : List Service → List Step → Type 0
FitsIn services steps = (x : ℕ) → places_at (map (λ s. s.issue) services) x ≤ depth_at steps x

-- what the rounds before each carry, up to a last one
pub record AreCarried (steps : List Step) (last : ℕ) (sums : List ℕ) : Type 0 where
  pub each : length sums ≡ last + 1
  pub at : (x : ℕ) → x ≤ last → slice_index sums x ≡ carried steps 0 x

-- a late command with its verdict, `places` of whose places went to commands, and `sooner` of these to commands due no later
abbrev pub late_command : List ℕ → Service → ℕ → ℕ → Verdict → LateCommand
late_command sums s places sooner verdict = record {
  service = s;
  lateness = s.issue - s.due;
  sooner = sooner;
  later = places - sooner;
  idle = slice_index sums s.issue - slice_index sums s.release - places;
  verdict = verdict;
}

-- the places of a late command are in range, `sooner` of them went to commands due no later, and its rounds carry them all
pub record CanWait (sums : List ℕ) (s : Service) (places sooner : ℕ) : Type 0 where
  pub few : sooner ≤ places
  pub late : s.due ≤ s.issue
  pub released : s.release ≤ s.issue
  pub summed : s.issue < length sums
  pub room : places + slice_index sums s.release ≤ slice_index sums s.issue

-- how many places it asks about
abbrev pub places_in : CountAsk → ℕ
places_in a = a.end - a.start

-- so of each late command, by what was asked and what was counted
abbrev pub CanAllWait : List ℕ → List Service → List CountAsk → List CountAsk → Type 0
CanAllWait sums late asks counted = (k : ℕ) → (d : Service) → (e f : CountAsk) → k < length late
    → CanWait sums (slice_index_or late k d) (places_in (slice_index_or asks k e)) (slice_index_or counted k f).count

-- the late commands with their verdicts, by what was asked and what was counted
abbrev pub AreLateCommands : List ℕ → List Service → List CountAsk → List CountAsk → List Verdict → List LateCommand → Type 0
AreLateCommands sums late asks counted told rows =
    (k : ℕ) → (d : Service) → (e f : CountAsk) → (w : Verdict) → (r : LateCommand) → k < length late
    → slice_index_or rows k r ≡ late_command sums (slice_index_or late k d) (places_in (slice_index_or asks k e)) (slice_index_or counted k f).count (slice_index_or told k w)
