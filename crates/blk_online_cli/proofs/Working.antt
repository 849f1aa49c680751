-- Rounds: what comes in before them, and what holds as each ends.
use Rattle.std.proofs.Common.{◌≡◌, ◌<◌, ◌≤◌, ◌+◌, ◌++◌, ℕ, zero, suc, List, [], ◌∷◌, Bool, true, false, refl, sym, ◌∙◌, ap, subst, arith, inl, inr, Some}
use Rattle.std.specs.Prelude.{slice_get}
use Rattle.std.specs.FinMap as map
use Rattle.edd_commands.specs.Schedule.{places_at}
use Rattle.blk_bio.specs.Bios.{Bio}
use Rattle.blk_sched.specs.Meaning.{Waiting, Meaning}
use Rattle.blk_queues.specs.Queues.{Queue}
use Rattle.blk_trace.specs.Happened.{Happened}
use Rattle.blk_trace.specs.declared.event.Event.TheVariants.{Tick, Release, Join, Done, Depth}
use Rattle.blk_trace.specs.Setups.{Setup}
use Rattle.blk_trace.specs.Events.{round_of}
use Rattle.blk_trace.specs.Depths.{depth_now, depth_in}
use Rattle.blk_trace.specs.Legal.{IsLegalTrace}
use Rattle.blk_trace.specs.Meaning.{served, rounds_of, due_of}
use Rattle.blk_trace.specs.Waits.{Entered, waits_at}
use Rattle.blk_trace.proofs.More.{round_more}
use Rattle.blk_trace.proofs.Commands.{rounds_kept}
use Rattle.blk_trace.proofs.Depths.{depth_kept, depth_now_is}
use Rattle.blk_trace.proofs.Entering.{same_entered}
use Rattle.blk_trace.proofs.Waiting.{waiting_from}
use Rattle.blk_core.specs.declared.calls.Placed.{Placed}
use Rattle.blk_core.specs.declared.calls.Placed.TheVariants.{New, Joined as JoinedTo}
use Rattle.blk_core.specs.State.{CoreState}
use Rattle.blk_core.specs.Calls.{Places, Completes, Ends, SetsDepth}
use Rattle.blk_sim.specs.Moves.{EnterInTurn, DrainInTurn}
use Rattle.blk_sim.specs.Rounds.{CompleteInTurn, Works, Rounds}
use Rattle.blk_earliest.specs.Choice.{earliest_kept, earliest_policy}
use Rattle.blk_sched.specs.Policies.{serves_all}
use Rattle.blk_online.specs.Ticks.{AtTicks, WentOut, IsRoundFull}
use Rattle.blk_online_cli.specs.ByRounds.{HoldsNow}
use Rattle.blk_online_cli.proofs.Growing.{Grows, grows_both, legal_before, grows_entered, grows_drained, grows_completed, grows_ended, grows_worked}
use Rattle.blk_online_cli.proofs.Agreeing.{IsBooked, held_then, placed_booked, done_booked, ticked_booked, deep_booked}
use Rattle.blk_online_cli.proofs.Quiet.{IsFresh, ticks_kept, ticks_more, served_same, fresh_kept, fresh_ticked}
use Rattle.blk_online_cli.proofs.Issuing.{Goes, IsIssuing, issued_in_turn, all_issued}

-- between two rounds: what holds at each Tick so far, and nothing went out yet in this round
pub record IsOnTrack (late_last : Bool) (setup : Setup) (c : CoreState) : Type 0 where
  pub booked : IsBooked setup (earliest_kept late_last) c
  pub ticks : AtTicks (HoldsNow late_last setup) c.events
  pub fresh : IsFresh c.events

-- once all went out in a round
pub record IsRoundDone (late_last : Bool) (setup : Setup) (round depth : ℕ) (c : CoreState) : Type 0 where
  pub booked : IsBooked setup (earliest_kept late_last) c
  pub ticks : AtTicks (HoldsNow late_last setup) c.events
  pub round_is : round_of c.events ≡ round
  pub depth_is : depth_now setup c.events ≡ depth
  pub full : (id : ℕ) (v : Waiting) → map.get c.meaning.pending id ≡ Some v → places_at (rounds_of c.events) round ≡ depth
  pub order : (id i : ℕ) (v : Waiting) → map.get c.meaning.pending id ≡ Some v → WentOut c.events round i → Goes late_last round (due_of setup c.events i) i v.due id

-- ---- what holds as the round ends

module _ (setup : Setup) (round depth : ℕ) (c : CoreState) where
  full_now : (late_last : Bool) → IsRoundDone late_last setup round depth c → (id : ℕ) (w : Entered) → waits_at setup c.events id ≡ Some w → IsRoundFull setup c.events
  full_now late_last done id w waits =
      let held = held_then setup (earliest_kept late_last) c id w done.booked waits in
      ap (places_at (rounds_of c.events)) done.round_is ∙ done.full id held.0 held.1 ∙ sym done.depth_is

  goes_now : (late_last : Bool) → IsRoundDone late_last setup round depth c → (id i : ℕ) (w : Entered) → waits_at setup c.events id ≡ Some w → WentOut c.events (round_of c.events) i → Goes late_last (round_of c.events) (due_of setup c.events i) i (due_of setup c.events id) id
  goes_now late_last done id i w waits out =
      let held = held_then setup (earliest_kept late_last) c id w done.booked waits in
      let due : held.0.due ≡ due_of setup c.events id = held.2 ∙ (waiting_from setup c.events id w waits).due_is in
      subst (λ r. Goes late_last r (due_of setup c.events i) i (due_of setup c.events id) id) (sym done.round_is)
      (subst (λ e. Goes late_last round (due_of setup c.events i) i e id) due
      (done.order id i held.0 held.1 (subst (λ r. WentOut c.events r i) done.round_is out)))

  pub holds_now : (late_last : Bool) → IsRoundDone late_last setup round depth c → HoldsNow late_last setup c.events
  holds_now false done = record {
    full = λ id w waits. full_now false done id w waits;
    due_first = λ id i w waits out. goes_now false done id i w waits out;
  }
  holds_now true done = record {
    full = λ id w waits in_time. full_now true done id w waits;
    due_first = λ id i w waits in_time out.
        goes_now true done id i w waits out (subst (λ e. round_of c.events ≤ e) (waiting_from setup c.events id w waits).due_is in_time);
  }

-- ---- what is in flight completes

module _ (late_last : Bool) (setup : Setup) (round depth : ℕ) where
  completed : (tag : ℕ) (old new : CoreState) → IsRoundDone late_last setup round depth old → Completes earliest_policy.told_done old tag new → IsRoundDone late_last setup round depth new
  completed tag old new done p =
      let es : List Happened = old.events in
      let more : new.events ≡ es ++ Done tag ∷ [] = p.3.1 in
      let same : new.meaning.pending ≡ old.meaning.pending = ap (λ (m : Meaning). m.pending) (sym p.4) in
      let still : round_of (es ++ Done tag ∷ []) ≡ round_of es = round_more es (Done tag) ∙ (let z : round_of es + 0 ≡ round_of es = omega arith in z) in
      record {
        booked = done_booked setup (earliest_kept late_last) old new done.booked tag p;
        ticks = subst (AtTicks (HoldsNow late_last setup)) (sym more) (ticks_kept (HoldsNow late_last setup) es (Done tag) refl done.ticks);
        round_is = ap round_of more ∙ still ∙ done.round_is;
        depth_is = ap (depth_now setup) more ∙ depth_now_is setup (es ++ Done tag ∷ []) ∙ ap (depth_in setup (es ++ Done tag ∷ [])) still ∙ depth_kept setup es (Done tag) (round_of es) refl ∙ sym (depth_now_is setup es) ∙ done.depth_is;
        full = λ id v there. ap (λ l. places_at (rounds_of l) round) more ∙ ap (λ l. places_at l round) (rounds_kept es (Done tag) refl refl) ∙ done.full id v (sym (ap (λ P. map.get P id) same) ∙ there);
        order = λ id i v there out.
            let dues : due_of setup new.events i ≡ due_of setup es i = ap (λ l. due_of setup l i) more ∙ (same_entered setup es (Done tag) i refl).due in
            subst (λ d. Goes late_last round d i v.due id) (sym dues)
            (done.order id i v (sym (ap (λ P. map.get P id) same) ∙ there) (out.0, sym (ap (λ l. slice_get (served 0 l) out.0) more ∙ ap (λ l. slice_get l out.0) (served_same es (Done tag) refl refl)) ∙ out.1));
      }

  all_completed : (n : ℕ) (old new : CoreState) → IsRoundDone late_last setup round depth old → CompleteInTurn earliest_policy n old new → IsRoundDone late_last setup round depth new
  unfolding CompleteInTurn
  all_completed zero old new done p = subst (IsRoundDone late_last setup round depth) (sym p) done
  all_completed (suc n) old new done p =
      let rest : IsRoundDone late_last setup round depth p.0 = all_completed n old p.0 done p.1 in
      elim p.2 [
        | inl ended ↦ completed n p.0 new rest ended
        | inr none ↦ subst (IsRoundDone late_last setup round depth) (sym none.1) rest
      ]

-- ---- the steps of a simulation

module _ (late_last : Bool) (setup : Setup) (some : 0 < setup.hw) where
  -- the round ends
  ended : (round depth : ℕ) (old new : CoreState) → IsRoundDone late_last setup round depth old → Ends earliest_policy.told_tick old new → IsOnTrack late_last setup new
  ended round depth old new done p =
      let more : new.events ≡ old.events ++ Tick ∷ [] = p.0.1 in
      record {
        booked = ticked_booked setup (earliest_kept late_last) old new done.booked p;
        ticks = subst (AtTicks (HoldsNow late_last setup)) (sym more) (ticks_more (HoldsNow late_last setup) old.events (holds_now setup round depth old late_last done) done.ticks);
        fresh = subst IsFresh (sym more) (fresh_ticked old.events);
      }

  pub worked : (old new : CoreState) → IsOnTrack late_last setup old → IsLegalTrace setup new.events → Works earliest_policy old new → IsOnTrack late_last setup new
  worked old new track legal p =
      let round : ℕ = round_of old.events in
      let depth : ℕ = depth_now setup old.events in
      let begun : IsIssuing late_last setup round depth 0 old = record {
        booked = track.booked;
        ticks = track.ticks;
        round_is = refl;
        depth_is = refl;
        count = track.fresh.empty;
        below = λ tag used. absurd (track.fresh.unused tag used);
        order = λ id i v there out. absurd (track.fresh.none_out i out);
      } in
      let to_end : Grows p.busy new = grows_both p.busy p.idle new (grows_completed earliest_policy p.busy.setup.depth p.busy p.idle p.completes) (grows_ended earliest_policy p.idle new p.ticks.1) in
      let busy : IsIssuing late_last setup round depth p.issues.tags p.busy = issued_in_turn late_last setup round depth p.issues.tags old p.busy begun (legal_before setup p.busy new to_end legal) p.issues.issued in
      let done : IsRoundDone late_last setup round depth p.busy = record {
        booked = busy.booked;
        ticks = busy.ticks;
        round_is = busy.round_is;
        depth_is = busy.depth_is;
        full = all_issued late_last setup round old p.busy some busy.booked.setup_is track.booked.setup_is p.issues busy;
        order = busy.order;
      } in
      ended round depth p.idle new (all_completed late_last setup round depth p.busy.setup.depth p.busy p.idle done p.completes) p.ticks.1

  -- one request comes in
  entered : (old new : CoreState) (bios : List Bio) (hw : ℕ) (placed : Placed) → IsOnTrack late_last setup old → IsLegalTrace setup new.events → Places serves_all old bios hw placed new → IsOnTrack late_last setup new
  entered old new bios hw (New id) track legal p = record {
    booked = placed_booked setup (earliest_kept late_last) old new track.booked bios hw (New id) legal p;
    ticks = subst (AtTicks (HoldsNow late_last setup)) (sym p.2.1) (ticks_kept (HoldsNow late_last setup) old.events (Release id bios) refl track.ticks);
    fresh = subst IsFresh (sym p.2.1) (fresh_kept old.events (Release id bios) refl refl refl track.fresh);
  }
  entered old new bios hw (JoinedTo id side) track legal p = record {
    booked = placed_booked setup (earliest_kept late_last) old new track.booked bios hw (JoinedTo id side) legal p;
    ticks = subst (AtTicks (HoldsNow late_last setup)) (sym p.1.1) (ticks_kept (HoldsNow late_last setup) old.events (Join id bios) refl track.ticks);
    fresh = subst IsFresh (sym p.1.1) (fresh_kept old.events (Join id bios) refl refl refl track.fresh);
  }

  pub all_entered : (hw : ℕ) (requests : List (List Bio)) (old new : CoreState) → IsOnTrack late_last setup old → IsLegalTrace setup new.events → EnterInTurn earliest_policy hw requests old new → IsOnTrack late_last setup new
  unfolding EnterInTurn
  all_entered hw [] old new track legal p = subst (IsOnTrack late_last setup) (sym p) track
  all_entered hw (bios ∷ rest) old new track legal p =
      let legal' : IsLegalTrace setup p.0.events = legal_before setup p.0 new (grows_entered earliest_policy hw rest p.0 new p.2) legal in
      all_entered hw rest p.0 new (entered old p.0 bios hw p.1.0 track legal' p.1.2) legal p.2

  pub all_drained : (count n : ℕ) (queues new_queues : List Queue) (old new : CoreState) → IsOnTrack late_last setup old → IsLegalTrace setup new.events → DrainInTurn earliest_policy count n queues old new_queues new → IsOnTrack late_last setup new
  unfolding DrainInTurn
  all_drained count zero queues new_queues old new track legal p = subst (IsOnTrack late_last setup) (sym p.1) track
  all_drained count (suc n) queues new_queues old new track legal p =
      let legal' : IsLegalTrace setup p.1.events = legal_before setup p.1 new (grows_entered earliest_policy n _ p.1 new p.3.entered) legal in
      all_entered n _ p.1 new (all_drained count n queues p.0 old p.1 track legal' p.2) legal p.3.entered

  pub all_rounds : (n : ℕ) (queues new_queues : List Queue) (old new : CoreState) → IsOnTrack late_last setup old → IsLegalTrace setup new.events → Rounds earliest_policy n queues old new_queues new → IsOnTrack late_last setup new
  unfolding Rounds
  all_rounds zero queues new_queues old new track legal p = subst (IsOnTrack late_last setup) (sym p.1) track
  all_rounds (suc n) queues new_queues old new track legal p =
      let works : Works earliest_policy p.3.filled new = p.3.works in
      let filled_legal : IsLegalTrace setup p.3.filled.events = legal_before setup p.3.filled new (grows_worked earliest_policy p.3.filled new works) legal in
      let middle_legal : IsLegalTrace setup p.1.events = legal_before setup p.1 p.3.filled (grows_drained earliest_policy _ _ p.0 new_queues p.1 p.3.filled p.3.drains) filled_legal in
      let middle : IsOnTrack late_last setup p.1 = all_rounds n queues p.0 old p.1 track middle_legal p.2 in
      worked p.3.filled new (all_drained _ _ p.0 new_queues p.1 p.3.filled middle filled_legal p.3.drains) legal works

  pub deepened : (depth : ℕ) (old new : CoreState) → IsOnTrack late_last setup old → SetsDepth old depth new → IsOnTrack late_last setup new
  deepened depth old new track p = record {
    booked = deep_booked setup (earliest_kept late_last) old new track.booked depth p;
    ticks = subst (AtTicks (HoldsNow late_last setup)) (sym p.0.1) (ticks_kept (HoldsNow late_last setup) old.events (Depth depth) refl track.ticks);
    fresh = subst IsFresh (sym p.0.1) (fresh_kept old.events (Depth depth) refl refl refl track.fresh);
  }
