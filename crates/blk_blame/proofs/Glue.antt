-- Requests counted in rounds that are their dispatches, as commands that count these by the clock.
use Rattle.std.proofs.Common.{◌≡◌, ◌≤◌, ◌<◌, ◌+◌, ◌∙◌, ℕ, List, [], ◌∷◌, map, length, get_or, cond, nat_lt, nat_le, refl, sym, ap, arith}
use Rattle.std.specs.Prelude.{None}
use Rattle.std.proofs.lemmas.List.{get_or-map, length-map}
use Rattle.std.proofs.lemmas.List.Sums.{sum_by-cons}
use Rattle.blk_bio.specs.declared.bio.Dir.TheVariants.{Read}
use Rattle.edd_commands.specs.declared.TheConstants.{MAX_COMMANDS}
use Rattle.edd_commands.specs.declared.Command.{Command}
use Rattle.edd_oracle.specs.Input.{IsTaken}
use Rattle.edd_blame.specs.Clock.{times_before, times_by, AreByClock}
use Rattle.edd_blame.specs.declared.late.Allowance.{Allowance}
use Rattle.blk_capture.specs.Counting.{dispatched_before, dispatched_by, AreInRounds, AreSolvable}
use Rattle.blk_capture.specs.Requests.{times_of}
use Rattle.blk_capture.specs.declared.counting.TimedRequest.{TimedRequest}
use Rattle.blk_capture.specs.declared.requests.CapturedRequest.{CapturedRequest}
use Rattle.blk_blame.specs.Clock.{allowance_of, allowances_of, dispatches_of}

-- times are counted before and by a time as requests are
before_is : (qs : List CapturedRequest) (t : ℕ) → times_before (dispatches_of qs) t ≡ dispatched_before (map times_of qs) t
unfolding times_before dispatched_before
before_is [] t = refl
before_is (q ∷ qs) t = omega (arith, before_is qs t, sum_by-cons (λ x. cond (nat_lt x t) 1 0) q.dispatched (dispatches_of qs), sum_by-cons (λ (r : TimedRequest). cond (nat_lt r.dispatch t) 1 0) (times_of q) (map times_of qs))

by_is : (qs : List CapturedRequest) (t : ℕ) → times_by (dispatches_of qs) t ≡ dispatched_by (map times_of qs) t
unfolding times_by dispatched_by
by_is [] t = refl
by_is (q ∷ qs) t = omega (arith, by_is qs t, sum_by-cons (λ x. cond (nat_le x t) 1 0) q.dispatched (dispatches_of qs), sum_by-cons (λ (r : TimedRequest). cond (nat_le r.dispatch t) 1 0) (times_of q) (map times_of qs))

pub no_request : TimedRequest
no_request = record { release = 0; deadline = 0; dispatch = 0 }

pub nobody : CapturedRequest
nobody = record {
  dir = Read;
  first = 0;
  sectors = 0;
  bios = 0;
  bio = 0;
  pid = 0;
  cpu = 0;
  queued = 0;
  got = 0;
  inserted = None;
  merged = None;
  entry = 0;
  released = 0;
  earlier = None;
  deadline = 0;
  dispatched = 0;
  completed = None;
}

-- commands that count requests have numbers of their own
pub taken_in : (rs : List TimedRequest) (commands : List Command) (rounds : List ℕ) → AreInRounds rs commands rounds → length rs ≤ MAX_COMMANDS → AreSolvable commands → IsTaken commands
taken_in rs commands rounds counted few solvable = record {
  few = omega (arith, few, counted.a_command);
  in_range = solvable;
  distinct = λ j k d below low same.
      let at_j = ap (λ (c : Command). c.id) (counted.commands_are j no_request d (omega (arith, below, low, counted.a_command))) in
      let at_k = ap (λ (c : Command). c.id) (counted.commands_are k no_request d (omega (arith, low, counted.a_command))) in
      omega (arith, below, same, at_j, at_k);
}

module _ (qs : List CapturedRequest) (commands : List Command) (rounds : List ℕ) (counted : AreInRounds (map times_of qs) commands rounds) where
  one_each : length commands ≡ length qs
  one_each = counted.a_command ∙ length-map qs times_of

  pub by_clock : AreByClock (dispatches_of qs) (allowances_of qs) commands
  by_clock = record {
    one_each = length-map qs allowance_of ∙ sym one_each;
    each = λ k a c low.
        let within : k < length (map times_of qs) = omega (arith, low, counted.a_command) in
        let at_c = counted.commands_are k no_request c within in
        let at_q = get_or-map times_of qs k nobody no_request (omega (arith, low, one_each)) in
        let at_a = get_or-map allowance_of qs k nobody a (omega (arith, low, one_each)) in
        let q : CapturedRequest = get_or qs k nobody in (
          ap (λ (c : Command). c.release) at_c ∙ ap (λ (r : TimedRequest). dispatched_before (map times_of qs) r.release + 1) at_q
              ∙ sym (ap (λ n. n + 1) (before_is qs q.released)) ∙ sym (ap (λ (x : Allowance). times_before (dispatches_of qs) x.release + 1) at_a),
          ap (λ (c : Command). c.due) at_c ∙ ap (λ (r : TimedRequest). dispatched_by (map times_of qs) r.deadline) at_q
              ∙ sym (by_is qs q.deadline) ∙ sym (ap (λ (x : Allowance). times_by (dispatches_of qs) x.deadline) at_a),
        );
  }

  pub taken : length qs ≤ MAX_COMMANDS → AreSolvable commands → IsTaken commands
  taken few solvable = taken_in (map times_of qs) commands rounds counted (omega (arith, few, length-map qs times_of)) solvable
