-- Requests that are counted in rounds.
use Rattle.std.proofs.Common.{ℕ, ◌≡◌, ◌≢◌, ◌∙◌, ◌<◌, ◌≤◌, ◌+◌, ◌-◌, List, sym, ap, subst, arith, length, map, get_or}
use Rattle.std.proofs.lemmas.List.{length-map}
use Rattle.std.proofs.lemmas.List.Elements.{All-from_get_or}
use Rattle.edd_commands.specs.declared.Command.{Command}
use Rattle.edd_commands.specs.declared.TheConstants.{MAX_COMMANDS}
use Rattle.edd_oracle.specs.Input.{IsTaken}
use Rattle.blk_capture.specs.Counting.{AreInRounds, AreSolvable, command_at}
use Rattle.blk_capture.specs.Requests.{AgreeOnLateness, times_of}
use Rattle.blk_capture.specs.declared.counting.TimedRequest.{TimedRequest}
use Rattle.blk_capture.specs.declared.requests.CapturedRequest.{CapturedRequest}
use Rattle.std.specs.Prelude.{◌↔◌, All, slice_index_or}
use Rattle.blk_replay.specs.Requests.{AreRounds, AreLateByTheClock}

no_request : TimedRequest
no_request = record { release = 0; deadline = 0; dispatch = 0 }

-- their ids rise by place
id_at : (timed : List TimedRequest) (commands : List Command) (rounds : List ℕ) (k : ℕ) (d : Command) → AreInRounds timed commands rounds → k < length timed → (slice_index_or commands k d).id ≡ k + 1
id_at timed commands rounds k d are h = ap (λ (c : Command). c.id) (are.commands_are k no_request d h)

pub taken : (requests : List CapturedRequest) (commands : List Command) (rounds : List ℕ) → AreInRounds (map times_of requests) commands rounds → length requests ≤ MAX_COMMANDS → AreSolvable commands → IsTaken commands
taken requests commands rounds are few solvable = record {
  few = omega (arith, are.a_command, length-map requests times_of, few);
  in_range = solvable;
  distinct = λ j k d h in_list same.
      let at_j = id_at (map times_of requests) commands rounds j d are (omega (arith, are.a_command, h, in_list)) in
      let at_k = id_at (map times_of requests) commands rounds k d are (omega (arith, are.a_command, in_list)) in
      let alike : j + 1 ≡ k + 1 = sym at_j ∙ same ∙ at_k in
      omega (arith, alike, h);
}

-- their rounds number the dispatches
pub own_rounds : (requests : List CapturedRequest) (commands : List Command) (rounds : List ℕ) → AreInRounds (map times_of requests) commands rounds → AreRounds (length requests) rounds
own_rounds requests commands rounds are =
    All-from_get_or (λ (r : ℕ). (0 < r) × (r ≤ length requests)) rounds 0 (λ k h.
    let within : k < length (map times_of requests) = omega (arith, h, are.a_round) in
    let is : get_or rounds k 0 ≡ k + 1 = are.rounds_are k within in
    (omega (arith, is), omega (arith, is, within, length-map requests times_of)))

-- and each is late just where it is by the clock
pub own_late : (requests : List CapturedRequest) (commands : List Command) (rounds : List ℕ) → AreInRounds (map times_of requests) commands rounds → AgreeOnLateness requests commands rounds → AreLateByTheClock requests commands rounds
own_late requests commands rounds are agree k d e h =
    let is : get_or rounds k 0 ≡ k + 1 = are.rounds_are k (omega (arith, h, length-map requests times_of)) in
    let back : get_or rounds k 0 - 1 ≡ k = omega (arith, is) in
    subst (λ (j : ℕ). ((slice_index_or commands k e).due < get_or rounds k 0) ↔ ((slice_index_or requests k d).deadline < (slice_index_or requests j d).dispatched)) (sym back) (agree k d e h)
