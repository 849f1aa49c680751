-- What a policy that goes by due rounds decides, round by round.
use Rattle.std.proofs.Common.{◌≡◌, ◌≢◌, ◌<◌, ◌≤◌, ◌∙◌, sym, ap, subst, ℕ, suc, zero, ◌+◌, ◌-◌, ◌==◌, arith, cond, refl, Bool, true, false, List, [], ◌∷◌, length, get_or, map, Some, inl, inr}
use Rattle.std.specs.Prelude.{slice_get}
use Rattle.std.specs.FinMap.{get, insert}
use Rattle.std.proofs.lemmas.Bool.{cases_eq, cases_lt, eq-eqb, ne_eqb}
use Rattle.std.proofs.lemmas.List.{get_or_past, length-map}
use Rattle.std.proofs.lemmas.List.Sorted.{length_permutation}
use Rattle.std.proofs.lemmas.Option.{get_or_from_slice_get}
use Rattle.edd_commands.specs.declared.Command.{Command}
use Rattle.edd_commands.specs.declared.steps.Step.{Step}
use Rattle.edd_commands.specs.declared.TheConstants.{MAX_COMMANDS}
use Rattle.edd_commands.specs.Capacity.{fixed, depth_at}
use Rattle.edd_commands.specs.Schedule.{IsLegal, places_at}
use Rattle.edd_oracle.proofs.Counting.{count_some}
use Rattle.blk_capture.specs.Requests.{AreTimed, times_of}
use Rattle.blk_capture.specs.declared.requests.CapturedRequest.{CapturedRequest}
use Rattle.blk_sched.specs.Meaning.{Pending, Meaning}
use Rattle.blk_sched.specs.Policies.{Policy}
use Rattle.blk_online.specs.DueFirst.{IsDueFirst, IsOnTimeDueFirst, DueFirstIsLeastLate, OnTimeDueFirstHasMost}
use Rattle.blk_replay.specs.declared.Arrived.{Arrived}
use Rattle.blk_replay.specs.declared.requests.DueBy.TheVariants.{Deadline}
use Rattle.blk_replay.specs.Replay.{waiting, once_entered, Standing, standing, with_entered, IsRound, PlaysRounds, HaveOwnRounds}
use Rattle.blk_replay.specs.Requests.{AreRoundCommands, IsReplayOf, arrived_of}
use Rattle.blk_replay.specs.DueFirst.{GoesFirst, GoesByDue, IsBestOrder, ReplaysBest}
use Rattle.blk_replay.proofs.Pending.{get_new, get_old, get_left}
use Rattle.blk_replay.proofs.Between.{at_place}
use Rattle.blk_replay.proofs.Legal.{one_deep}
use Rattle.blk_replay.proofs.Entrants.{somewhere, within}

-- ---- what waits once those of a round have entered

-- what has an id below theirs stays
below_kept : (round id p : ℕ) (rs : List Arrived) (P : Pending) → p < id → get (once_entered round id rs P) p ≡ get P p
unfolding once_entered
below_kept round id p [] P low = refl
below_kept round id p (r ∷ rs) P low =
    below_kept round (suc id) p rs (cond (r.release == round) (insert P id (waiting id r)) P) (omega arith)
    ∙ other (r.release == round)
  where
    other : (b : Bool) → get (cond b (insert P id (waiting id r)) P) p ≡ get P p
    other true = get_old P id (waiting id r) p (λ same. absurd (omega (arith, same, low)))
    other false = refl

this_entered : (round id p : ℕ) (rs : List Arrived) (P : Pending) (j : ℕ) (r : Arrived) → p ≡ id + j → slice_get rs j ≡ Some r → r.release ≡ round → get (once_entered round id rs P) p ≡ Some (waiting p r)
unfolding once_entered
this_entered round id p [] P j r at is now = absurd (cc)
this_entered round id p (x ∷ rs) P zero r at is now =
    let one : x ≡ r = cc in
    let here : p ≡ id = omega (arith, at) in
    below_kept round (suc id) p rs (cond (x.release == round) (insert P id (waiting id x)) P) (omega (arith, here))
    ∙ ap (λ b. get (cond b (insert P id (waiting id x)) P) p) (eq-eqb x.release round (ap (λ (y : Arrived). y.release) one ∙ now))
    ∙ ap (λ (y : Arrived). get (insert P id (waiting id y)) p) one
    ∙ ap (get (insert P id (waiting id r))) here
    ∙ get_new P id (waiting id r)
    ∙ ap (λ k. Some (waiting k r)) (sym here)
this_entered round id p (x ∷ rs) P (suc j) r at is now =
    this_entered round (suc id) p rs (cond (x.release == round) (insert P id (waiting id x)) P) j r (omega (arith, at)) is now

others_entered : (round id p : ℕ) (rs : List Arrived) (P : Pending) (j : ℕ) (r : Arrived) → p ≡ id + j → slice_get rs j ≡ Some r → r.release ≢ round → get (once_entered round id rs P) p ≡ get P p
unfolding once_entered
others_entered round id p [] P j r at is never = absurd (cc)
others_entered round id p (x ∷ rs) P zero r at is never =
    let one : x ≡ r = cc in
    below_kept round (suc id) p rs (cond (x.release == round) (insert P id (waiting id x)) P) (omega (arith, at))
    ∙ ap (λ b. get (cond b (insert P id (waiting id x)) P) p) (ne_eqb x.release round (λ same. never (sym (ap (λ (y : Arrived). y.release) one) ∙ same)))
others_entered round id p (x ∷ rs) P (suc j) r at is never =
    others_entered round (suc id) p rs (cond (x.release == round) (insert P id (waiting id x)) P) j r (omega (arith, at)) is never
    ∙ other (x.release == round)
  where
    other : (b : Bool) → get (cond b (insert P id (waiting id x)) P) p ≡ get P p
    other true = get_old P id (waiting id x) p (λ same. absurd (omega (arith, same, at)))
    other false = refl

module _ (policy : Policy) (requests : List Arrived) (own : List ℕ) (start : Standing) where
  -- the request at a place waits in the round after the first n
  there_next : (n p : ℕ) (r : Arrived) (m : Standing) → slice_get requests p ≡ Some r → (r.release ≤ n → get m.meaning.pending p ≡ Some (waiting p r)) → r.release ≤ suc n → get (once_entered (suc n) 0 requests m.meaning.pending) p ≡ Some (waiting p r)
  there_next n p r m is before released = elim (cases_eq r.release (suc n)) [
    | inl now ↦ this_entered (suc n) 0 p requests m.meaning.pending p r (omega arith) is now
    | inr other ↦ others_entered (suc n) 0 p requests m.meaning.pending p r (omega arith) is other ∙ before (omega arith)
  ]

  -- and after them, if it is served later
  still_there : (n p : ℕ) (r : Arrived) (now : Standing) → slice_get requests p ≡ Some r → 0 < r.release → r.release ≤ n → n < get_or own p 0 → PlaysRounds policy requests own n start now → get now.meaning.pending p ≡ Some (waiting p r)
  unfolding PlaysRounds
  still_there zero p r now is some released later h = absurd (omega (arith, some, released))
  still_there (suc n) p r now is some released later h =
      let last = h.2 in
      let id = last.served.id in
      let apart : p ≢ id = λ same. let e : get_or own p 0 ≡ get_or own id 0 = ap (λ k. get_or own k 0) same in absurd (omega (arith, e, last.answered, later)) in
      let entered : Pending = once_entered (suc n) 0 requests h.0.meaning.pending in
      ap (λ (m : Meaning). get m.pending p) last.serves.left
      ∙ get_left entered id p apart
      ∙ there_next n p r h.0 is (λ low. still_there n p r h.0 is some low (omega (arith, later)) h.1) released

  -- one round of those that were played
  pub record Played (n : ℕ) : Type 0 where
    pub before : Standing
    pub after : Standing
    pub until : PlaysRounds policy requests own n start before
    pub round : IsRound policy requests own (suc n) before after

  played_at : (n k : ℕ) (now : Standing) → k < n → PlaysRounds policy requests own n start now → Played k
  unfolding PlaysRounds
  played_at zero k now low h = absurd (omega (arith, low))
  played_at (suc n) k now low h = elim (cases_eq k n) [
    | inl last ↦ subst Played (sym last) (record { before = h.0; after = now; until = h.1; round = h.2 })
    | inr other ↦ played_at n k h.0 (omega (arith, low)) h.1
  ]

  -- what is kept stays
  kept_so : (late_last : Bool) (kept : List ℕ) (n : ℕ) (now : Standing) → GoesByDue late_last policy kept → start.kept ≡ kept → PlaysRounds policy requests own n start now → now.kept ≡ kept
  unfolding PlaysRounds
  kept_so late_last kept zero now by first h = ap (λ (s : Standing). s.kept) h ∙ first
  kept_so late_last kept (suc n) now by first h =
      let before = kept_so late_last kept n h.0 by first h.1 in
      let s = h.2.serves in
      let picked = by.picked (with_entered requests (suc n) h.0).meaning 0 (suc n) (Some h.2.served) s.picked (subst (λ l. policy.chooses l (with_entered requests (suc n) h.0).meaning 0 (suc n) (Some h.2.served) s.picked) before s.chosen) in
      let done = by.done 0 h.2.served.extent.dir (suc n - h.2.served.release) s.done (subst (λ l. policy.told_done 0 h.2.served.extent.dir (suc n - h.2.served.release) l s.done) picked s.told_done) in
      by.ticked (suc n + 1) now.kept (subst (λ l. policy.told_tick (suc n + 1) l now.kept) done s.told_tick)

  -- what is served in a round goes first of what waits then
  decided : (late_last : Bool) (kept : List ℕ) (n x p k : ℕ) (q r : Arrived) (end : Standing)
      → GoesByDue late_last policy kept → start.kept ≡ kept → HaveOwnRounds own → PlaysRounds policy requests own n start end → length own ≡ n → x < n
      → slice_get requests p ≡ Some q → 0 < q.release → q.release ≤ suc x → p < length own → get_or own p 0 ≡ suc x
      → slice_get requests k ≡ Some r → 0 < r.release → r.release ≤ suc x → suc x < get_or own k 0
      → GoesFirst late_last (suc x) (waiting p q) (waiting k r)
  decided late_last kept n x p k q r end by first rounds_own h many low is_q some_q in_q p_in answered is_r some_r in_r later =
      let at = played_at n x end low h in
      let old : Standing = with_entered requests (suc x) at.before in
      let w = at.round.served in
      let s = at.round.serves in
      let w_in : w.id < length own = elim (cases_lt w.id (length own)) [
        | inl inside ↦ inside
        | inr past ↦ absurd (omega (arith, at.round.answered, get_or_past own w.id 0 past))
      ] in
      let same : w.id ≡ p = rounds_own.own w.id p w_in p_in (at.round.answered ∙ sym answered) in
      let there_q : get old.meaning.pending p ≡ Some (waiting p q) = there_next x p q at.before is_q (λ early. still_there x p q at.before is_q some_q early (omega (arith, answered)) at.until) in_q in
      let there_r : get old.meaning.pending k ≡ Some (waiting k r) = there_next x k r at.before is_r (λ early. still_there x k r at.before is_r some_r early (omega (arith, later)) at.until) in_r in
      let both : Some w ≡ Some (waiting p q) = sym s.waits ∙ ap (get old.meaning.pending) same ∙ there_q in
      let one : w ≡ waiting p q = cc in
      let kept_then : at.before.kept ≡ kept = kept_so late_last kept x at.before by first at.until in
      let chosen = subst (λ l. policy.chooses l old.meaning 0 (suc x) (Some w) s.picked) kept_then s.chosen in
      subst (λ v. GoesFirst late_last (suc x) v (waiting k r)) one (by.first old.meaning 0 (suc x) k w (waiting k r) s.picked chosen there_r)

-- ---- of the requests of a capture

module _ (policy : Policy) (start : Standing) (requests : List CapturedRequest) (commands : List Command) (rounds : List ℕ) (timed : AreTimed requests) (few : length requests ≤ MAX_COMMANDS) (counted : AreRoundCommands requests commands) (h : IsReplayOf policy start requests commands Deadline rounds) (legal : IsLegal commands rounds (fixed 1)) where
  abbrev arrived : List Arrived
  arrived = h.arrived

  many : length h.entrants ≡ length requests
  many = length_permutation h.placed h.entrants h.by_release.same ∙ h.are_placed.each

  own_many : length h.own ≡ length h.entrants
  own_many = h.replayed.one_each ∙ h.are_arriving.each

  commands_many : length commands ≡ length requests
  commands_many = counted.1.a_command ∙ length-map requests times_of

  -- where the request of a command is on its way
  record OnItsWay (k : ℕ) : Type 0 where
    place : ℕ
    inside : place < length h.own
    as_arrived : Arrived
    there : slice_get arrived place ≡ Some as_arrived
    round : get_or rounds k 0 ≡ get_or h.own place 0
    release : (d : Command) → as_arrived.release ≡ (get_or commands k d).release
    due : (d : Command) → as_arrived.due ≡ (get_or commands k d).due
    some_round : 0 < as_arrived.release

  on_its_way : (k : ℕ) → k < length commands → OnItsWay k
  on_its_way k h_k =
      let here : k < length requests = omega (arith, h_k, commands_many) in
      let s = somewhere requests h.placed h.entrants h.are_placed h.by_release k here in
      let e = at_place h.entrants s.0 s.1 in
      let q = at_place requests k here in
      let a = at_place arrived s.0 (omega (arith, s.1, h.are_arriving.each)) in
      let c : Command = record { id = 0; release = 0; due = 0 } in
      let own : (get_or h.entrants s.0 e.0).place ≡ k = s.2 e.0 in
      let this : (d : Command) → a.0 ≡ arrived_of requests Deadline k (get_or requests k q.0) (get_or commands k d) = λ d. sym (get_or_from_slice_get arrived s.0 a.0 a.0 a.1) ∙ h.are_arriving.are s.0 a.0 e.0 q.0 d s.1
      ∙ ap (λ p. arrived_of requests Deadline p (get_or requests p q.0) (get_or commands p d)) own in
      let timed_here : k < length (map times_of requests) = omega (arith, here, length-map requests times_of) in
      let release : (d : Command) → a.0.release ≡ (get_or commands k d).release = λ d. ap (λ (x : Arrived). x.release) (this d) in
      record {
        place = s.0;
        inside = omega (arith, s.1, own_many);
        as_arrived = a.0;
        there = a.1;
        round = ap (λ n. get_or rounds n 0) (sym own) ∙ h.put.put s.0 e.0 s.1;
        release = release;
        due = λ d. ap (λ (x : Arrived). x.due) (this d);
        some_round =
            let command = ap (λ (x : Command). x.release) (counted.1.commands_are k (times_of q.0) c timed_here) in
            omega (arith, release c, command);
      }

  -- a round before that of a command that could run in it is one of those that are played
  in_turn : (x k : ℕ) (d : Command) → k < length commands → (get_or commands k d).release ≤ x → x < get_or rounds k 0 → (0 < x) × (x < length h.own)
  in_turn x k d h_k low high =
      let o = on_its_way k h_k in
      let range = h.replayed.own_rounds.in_range o.place o.inside in
      (omega (arith, o.some_round, o.release d, low), omega (arith, range.1, o.round, high))

  abbrev begun : Standing
  begun = standing start.meaning h.replayed.begun

  -- it has a command
  full : (x k : ℕ) (d : Command) → k < length commands → (get_or commands k d).release ≤ x → x < get_or rounds k 0 → places_at rounds x ≡ depth_at (fixed 1) x
  unfolding places_at
  full zero k d h_k low high = absurd (omega (arith, (in_turn 0 k d h_k low high).0))
  full (suc x) k d h_k low high =
      let turn = in_turn (suc x) k d h_k low high in
      let at = played_at policy arrived h.own begun (length arrived) x h.replayed.end (omega (arith, turn.1, h.replayed.one_each)) h.replayed.played in
      let id = at.round.served.id in
      let id_in : id < length h.own = elim (cases_lt id (length h.own)) [
        | inl inside ↦ inside
        | inr past ↦ absurd (omega (arith, at.round.answered, get_or_past h.own id 0 past))
      ] in
      let e = at_place h.entrants id (omega (arith, id_in, own_many)) in
      let place : ℕ = (get_or h.entrants id e.0).place in
      let round : get_or rounds place 0 ≡ suc x = h.put.put id e.0 (omega (arith, id_in, own_many)) ∙ at.round.answered in
      let inside : place < length rounds = omega (arith, within requests h.placed h.entrants h.are_placed h.by_release id e.0 (omega (arith, id_in, own_many)), h.put.each, many) in
      let some : 0 < places_at rounds (suc x) = count_some (λ y. y == suc x) rounds place 0 inside (eq-eqb (get_or rounds place 0) (suc x) round) in
      omega (arith, some, legal.within_depth (suc x), one_deep (suc x))

  -- and it goes first
  goes_first : (late_last : Bool) (x k p : ℕ) (d : Command) → GoesByDue late_last policy start.kept → (kh : k < length commands) → (get_or commands k d).release ≤ x → x < get_or rounds k 0 → (ph : p < length commands) → get_or rounds p 0 ≡ x
      → GoesFirst late_last x (waiting (on_its_way p ph).place (on_its_way p ph).as_arrived) (waiting (on_its_way k kh).place (on_its_way k kh).as_arrived)
  goes_first late_last zero k p d by kh low high ph here = absurd (omega (arith, (in_turn 0 k d kh low high).0))
  goes_first late_last (suc x) k p d by kh low high ph here =
      let turn = in_turn (suc x) k d kh low high in
      let a = on_its_way p ph in
      let b = on_its_way k kh in
      decided policy arrived h.own begun late_last start.kept (length arrived) x a.place b.place a.as_arrived b.as_arrived h.replayed.end
      by (by.ticked 1 h.replayed.begun h.replayed.told_first) h.replayed.own_rounds h.replayed.played h.replayed.one_each (omega (arith, turn.1, h.replayed.one_each))
      a.there a.some_round (omega (arith, a.release d, legal.released p d ph, here)) a.inside (sym a.round ∙ here)
      b.there b.some_round (omega (arith, b.release d, low)) (omega (arith, b.round, high))

  is_due_first : GoesByDue false policy start.kept → IsDueFirst commands rounds (fixed 1)
  is_due_first by = record {
    full = full;
    due_first = λ x k p d kh low high ph here.
        let first : (on_its_way p ph).as_arrived.due ≤ (on_its_way k kh).as_arrived.due = goes_first false x k p d by kh low high ph here in
        omega (arith, first, (on_its_way p ph).due d, (on_its_way k kh).due d);
  }

  is_on_time_first : GoesByDue true policy start.kept → IsOnTimeDueFirst commands rounds (fixed 1)
  is_on_time_first by = record {
    full = λ x k d late. full x k d late.in_list late.released late.later;
    due_first = λ x k p d late ph here.
        let a = on_its_way p ph in
        let b = on_its_way k late.in_list in
        let first : (x ≤ a.as_arrived.due) × (a.as_arrived.due ≤ b.as_arrived.due) = goes_first true x k p d by late.in_list late.released late.later ph here (omega (arith, b.due d, late.in_time)) in
        (omega (arith, first.0, a.due d), omega (arith, first.1, a.due d, b.due d));
  }

pub replays_best : ((commands : List Command) → (steps : List Step) → DueFirstIsLeastLate commands steps) → ((commands : List Command) → (steps : List Step) → OnTimeDueFirstHasMost commands steps) → (policy : Policy) → ReplaysBest policy
replays_best least most policy late_last start requests commands rounds by timed few counted h legal =
    (elim late_last as (λ (b : Bool). GoesByDue b policy start.kept → IsBestOrder b commands rounds) [
      | false ↦ λ it late greatest. least commands (fixed 1) rounds late legal (is_due_first policy start requests commands rounds timed few counted h legal it) greatest
      | true ↦ λ it. most commands (fixed 1) rounds legal (is_on_time_first policy start requests commands rounds timed few counted h legal it)
    ]) by
