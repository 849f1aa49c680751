-- What a trace decides at its Ticks, as a schedule of its commands.
use Rattle.std.proofs.Common.{◌≡◌, ◌<◌, ◌≤◌, ℕ, List, length, take, map, get_or, ℤ, sym, ◌∙◌, ap, subst, arith}
use Rattle.std.proofs.lemmas.List.{get_or-map}
use Rattle.edd_commands.specs.declared.Command.{Command}
use Rattle.edd_commands.specs.Capacity.{depth_at}
use Rattle.edd_commands.specs.Schedule.{IsLegal, IsGreatestLateness, IsLeastLateness, places_at}
use Rattle.edd_check.specs.OnTime.{number_on_time, IsMostOnTime}
use Rattle.edd_oracle.specs.Priority.{IsEarliestDueFirst, ComesFirst}
use Rattle.edd_oracle.proofs.One.{one_schedule}
use Rattle.blk_trace.specs.Happened.{Happened}
use Rattle.blk_trace.specs.Setups.{Setup, IsSetup}
use Rattle.blk_trace.specs.Events.{round_of}
use Rattle.blk_trace.specs.Depths.{depth_now, capacity_of}
use Rattle.blk_trace.specs.Legal.{IsLegalTrace}
use Rattle.blk_trace.specs.Meaning.{served, issued_ids, commands_of, rounds_of, release_of, due_of, command_of}
use Rattle.blk_trace.proofs.Newness.{get_at}
use Rattle.blk_trace.proofs.Requeues.{map_length}
use Rattle.blk_trace.proofs.Scheduling.{legal-schedule}
use Rattle.blk_trace.proofs.Bounds.{bounded}
use Rattle.blk_online.specs.OnTimeFirst.{ServesOnTimeFirst}
use Rattle.blk_online.specs.Ticks.{WentOut, IsEarliestNow, ServesOnTimeNow, AtTicks}
use Rattle.blk_online.proofs.Ticking.{IsTick, tick_of}
use Rattle.blk_online.proofs.Least.{earliest_least}
use Rattle.blk_online.proofs.Most.{most_on_time_first}

-- ---- commands and rounds by place

-- the service at a place
abbrev service_at : List Happened → ℕ → ℕ × ℕ
service_at events k = get_or (served 0 events) k (0, 0)

commands_long : (setup : Setup) (events : List Happened) → length (commands_of setup events) ≡ length (served 0 events)
unfolding commands_of issued_ids
commands_long setup events = map_length (command_of setup events) (map (λ (s : ℕ × ℕ). s.1) (served 0 events)) ∙ map_length (λ (s : ℕ × ℕ). s.1) (served 0 events)

command_at : (setup : Setup) (events : List Happened) (k : ℕ) (d : Command) → k < length (served 0 events) → get_or (commands_of setup events) k d ≡ command_of setup events (service_at events k).1
unfolding commands_of issued_ids
command_at setup events k d h =
    get_or-map (command_of setup events) (map (λ (s : ℕ × ℕ). s.1) (served 0 events)) k 0 d (omega (arith, map_length (λ (s : ℕ × ℕ). s.1) (served 0 events)))
    ∙ ap (command_of setup events) (get_or-map (λ (s : ℕ × ℕ). s.1) (served 0 events) k (0, 0) 0 h)

round_here : (events : List Happened) (k : ℕ) → k < length (served 0 events) → get_or (rounds_of events) k 0 ≡ (service_at events k).0
unfolding rounds_of
round_here events k h = get_or-map (λ (s : ℕ × ℕ). s.0) (served 0 events) k (0, 0) 0 h

in_order : (a b c d : Command) → a ≡ c → b ≡ d → ComesFirst c d → ComesFirst a b
in_order a b c d same other first = subst (λ (x : Command). ComesFirst x b) (sym same) (subst (λ (x : Command). ComesFirst c x) (sym other) first)

module _ (setup : Setup) (events : List Happened) (legal : IsLegalTrace setup events) where
  within_services : (k : ℕ) → k < length (commands_of setup events) → k < length (served 0 events)
  within_services k h = omega (arith, commands_long setup events)

  -- the Tick at which a command that could have run in the round still waits
  tick : (x k : ℕ) (d : Command) → k < length (commands_of setup events) → (get_or (commands_of setup events) k d).release ≤ x → x < get_or (rounds_of events) k 0 → IsTick setup events x (service_at events k).1
  tick x k d h released later =
      let k_in : k < length (served 0 events) = within_services k h in
      let is : (get_or (commands_of setup events) k d).release ≡ release_of events (service_at events k).1 = ap (λ (c : Command). c.release) (command_at setup events k d k_in) in
      tick_of setup events legal x k (service_at events k) (get_at (served 0 events) k (0, 0) k_in) (omega arith) (omega (arith, round_here events k k_in))

  -- what went out in that round
  out_at : (x p id : ℕ) → (t : IsTick setup events x id) → p < length (commands_of setup events) → get_or (rounds_of events) p 0 ≡ x → WentOut (take t.place events) x (service_at events p).1 × (command_of setup events (service_at events p).1 ≡ command_of setup (take t.place events) (service_at events p).1)
  out_at x p id t h at =
      let p_in : p < length (served 0 events) = within_services p h in
      t.held.went_out p (service_at events p) (get_at (served 0 events) p (0, 0) p_in) (sym (round_here events p p_in) ∙ at)

  full_at : (x id : ℕ) → (t : IsTick setup events x id) → places_at (rounds_of (take t.place events)) (round_of (take t.place events)) ≡ depth_now setup (take t.place events) → places_at (rounds_of events) x ≡ depth_at (capacity_of setup events) x
  full_at x id t full =
      t.held.places ∙ subst (λ n. places_at (rounds_of (take t.place events)) n ≡ depth_now setup (take t.place events)) t.round full ∙ sym t.held.depth

  pub earliest_first : AtTicks (IsEarliestNow setup) events → IsEarliestDueFirst (commands_of setup events) (rounds_of events) (capacity_of setup events)
  earliest_first each = record {
    full = λ x k d h released later.
        let t = tick x k d h released later in
        full_at x (service_at events k).1 t ((each t.place t.ticked).full (service_at events k).1 _ t.held.waits);
    due_first = λ x k p d h released later p_h at.
        let t = tick x k d h released later in
        let id : ℕ = (service_at events k).1 in
        let i : ℕ = (service_at events p).1 in
        let out = out_at x p id t p_h at in
        let order : ComesFirst (command_of setup (take t.place events) i) (command_of setup (take t.place events) id) =
        (each t.place t.ticked).due_first id i _ t.held.waits (subst (λ n. WentOut (take t.place events) n i) (sym t.round) out.0) in
        in_order (get_or (commands_of setup events) p d) (get_or (commands_of setup events) k d) (command_of setup (take t.place events) i) (command_of setup (take t.place events) id)
        (command_at setup events p d (within_services p p_h) ∙ out.1) (command_at setup events k d (within_services k h) ∙ t.held.same) order;
  }

  pub on_time_first : AtTicks (ServesOnTimeNow setup) events → ServesOnTimeFirst (commands_of setup events) (rounds_of events) (capacity_of setup events)
  on_time_first each = record {
    full = λ x k d delayed.
        let h : k < length (commands_of setup events) = delayed.in_list in
        let t = tick x k d h delayed.released delayed.later in
        let id : ℕ = (service_at events k).1 in
        let same : (get_or (commands_of setup events) k d).due ≡ due_of setup (take t.place events) id = ap (λ (c : Command). c.due) (command_at setup events k d (within_services k h) ∙ t.held.same) in
        let in_time : round_of (take t.place events) ≤ due_of setup (take t.place events) id = omega (arith, delayed.in_time, t.round) in
        full_at x id t ((each t.place t.ticked).full id _ t.held.waits in_time);
    due_first = λ x k p d delayed p_h at.
        let h : k < length (commands_of setup events) = delayed.in_list in
        let t = tick x k d h delayed.released delayed.later in
        let id : ℕ = (service_at events k).1 in
        let i : ℕ = (service_at events p).1 in
        let same : (get_or (commands_of setup events) k d).due ≡ due_of setup (take t.place events) id = ap (λ (c : Command). c.due) (command_at setup events k d (within_services k h) ∙ t.held.same) in
        let in_time : round_of (take t.place events) ≤ due_of setup (take t.place events) id = omega (arith, delayed.in_time, t.round) in
        let out = out_at x p id t p_h at in
        let both = (each t.place t.ticked).due_first id i _ t.held.waits in_time (subst (λ n. WentOut (take t.place events) n i) (sym t.round) out.0) in
        let own : (get_or (commands_of setup events) p d).due ≡ due_of setup (take t.place events) i = ap (λ (c : Command). c.due) (command_at setup events p d (within_services p p_h) ∙ out.1) in (
          omega (arith, both.0, t.round),
          in_order (get_or (commands_of setup events) p d) (get_or (commands_of setup events) k d) (command_of setup (take t.place events) i) (command_of setup (take t.place events) id)
              (command_at setup events p d (within_services p p_h) ∙ out.1) (command_at setup events k d (within_services k h) ∙ t.held.same) both.1,
        );
  }

-- ---- the laws

pub oracle_same : (setup : Setup) (events : List Happened) → IsSetup setup → IsLegalTrace setup events → AtTicks (IsEarliestNow setup) events → (solved : List ℕ) → IsLegal (commands_of setup events) solved (capacity_of setup events) → IsEarliestDueFirst (commands_of setup events) solved (capacity_of setup events) → rounds_of events ≡ solved
oracle_same setup events is legal each solved legal' first' =
    one_schedule (commands_of setup events) (capacity_of setup events) (rounds_of events) solved (bounded setup events is legal).distinct (legal-schedule setup events legal) (earliest_first setup events legal each) legal' first'

pub trace_least : (setup : Setup) (events : List Happened) → IsLegalTrace setup events → AtTicks (IsEarliestNow setup) events → (late : ℤ) → IsGreatestLateness (commands_of setup events) (rounds_of events) late → IsLeastLateness (commands_of setup events) (capacity_of setup events) late
trace_least setup events legal each late greatest =
    earliest_least (commands_of setup events) (capacity_of setup events) (rounds_of events) late (legal-schedule setup events legal) (earliest_first setup events legal each) greatest

pub trace_most : (setup : Setup) (events : List Happened) → IsLegalTrace setup events → AtTicks (ServesOnTimeNow setup) events → IsMostOnTime (commands_of setup events) (capacity_of setup events) (number_on_time (commands_of setup events) (rounds_of events))
trace_most setup events legal each = most_on_time_first (commands_of setup events) (rounds_of events) (capacity_of setup events) (legal-schedule setup events legal) (on_time_first setup events legal each)
