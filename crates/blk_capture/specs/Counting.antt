-- Requests that went to a device, by the clock, and rounds that are their dispatches.
use Rattle.std.specs.Prelude.{ℕ, ◌≡◌, ◌≤◌, ◌<◌, ◌+◌, ◌↔◌, List, length, count_by, nat_lt, nat_le, slice_index, slice_index_or, All}
use Rattle.std.specs.List.Sorted.{IsNonDecreasingBy}
use Rattle.edd_commands.specs.declared.TheConstants.{MAX_RELEASES, MAX_ROUNDS}
use Rattle.edd_commands.specs.declared.Command.{Command}
use Rattle.blk_capture.specs.declared.counting.TimedRequest.{TimedRequest}

-- in the order of their dispatches, and none went out before it was released
pub record AreServed (requests : List TimedRequest) : Type 0 where
  pub rising : IsNonDecreasingBy (λ r. r.dispatch) requests
  pub released : All (λ r. r.release ≤ r.dispatch) requests

-- how many went out before this time, and how many by this time
unfoldable pub dispatched_before : List TimedRequest → ℕ → ℕ
dispatched_before requests time = count_by (λ r. nat_lt r.dispatch time) requests

unfoldable pub dispatched_by : List TimedRequest → ℕ → ℕ
dispatched_by requests time = count_by (λ r. nat_le r.dispatch time) requests

-- the request at place k as a command: released after the dispatches before its release by the clock, due by those up to its deadline
abbrev pub command_at : List TimedRequest → ℕ → TimedRequest → Command
command_at requests k r = record {
  id = k + 1;
  release = dispatched_before requests r.release + 1;
  due = dispatched_by requests r.deadline;
}

-- the commands of the requests by place, and their rounds, which number the dispatches
pub record AreInRounds (requests : List TimedRequest) (commands : List Command) (rounds : List ℕ) : Type 0 where
  pub a_command : length commands ≡ length requests
  pub a_round : length rounds ≡ length requests
  pub commands_are : (k : ℕ) (d : TimedRequest) (e : Command) → k < length requests → slice_index_or commands k e ≡ command_at requests k (slice_index_or requests k d)
  pub rounds_are : (k : ℕ) → k < length requests → slice_index rounds k ≡ k + 1

-- each runs after its due round exactly where it went out after its deadline by the clock
abbrev pub AreLateByClock : List TimedRequest → List Command → List ℕ → Type 0
AreLateByClock requests commands rounds =
    (k : ℕ) (d : TimedRequest) (e : Command) → k < length requests
    → ((slice_index_or commands k e).due < slice_index rounds k) ↔ ((slice_index_or requests k d).deadline < (slice_index_or requests k d).dispatch)

-- every release and due round is within the limits of what a schedule is asked for
abbrev pub AreSolvable : List Command → Type 0
AreSolvable commands = All (λ c. (c.release < MAX_RELEASES) × (c.due < MAX_ROUNDS)) commands
