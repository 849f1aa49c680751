-- Each event keeps the core tied to its trace: here those that issue nothing and end no Issue.
use Rattle.std.proofs.Common.{◌≡◌, ◌≢◌, ◌∙◌, sym, ap, subst, refl, inl, inr, ℕ, ◌+◌, ◌*◌, ◌≤◌, ◌<◌, arith, Bool, true, false, cond, List, [], ◌∷◌, ◌++◌, length, length-append, Option, Some, None, is_some, get_or, sum_by, map as list_map, ◌⊎◌, ◌==◌}
use Rattle.std.proofs.lemmas.Bool.{cases_lt}
use Rattle.std.proofs.lemmas.List.Folds.{sum_by-replicate}
use Rattle.std.proofs.lemmas.List.Sums.{sum_by-set, count_by-le-length}
use Rattle.std.specs.List.{slice_get}
use Rattle.std.proofs.Math.ListN.{replicate, length-replicate}
use Rattle.std.specs.Prelude.{not}
use Rattle.std.specs.Option.{option_map}
use Rattle.std.specs.FinMap as map
use Rattle.std.specs.Ordering.{nat_cmp}
use Rattle.blk_bio.specs.declared.bio.Dir.{Dir}
use Rattle.blk_bio.specs.declared.bio.Dir.TheVariants.{Read, Write}
use Rattle.blk_bio.specs.declared.request.Side.{Side}
use Rattle.blk_bio.specs.Bios.{Bio}
use Rattle.blk_bio.specs.Limits.{Limits}
use Rattle.blk_bio.specs.Requests.{dir_of, IsRequest}
use Rattle.blk_bio.specs.Extents.{Extent, extent_of}
use Rattle.blk_bio.proofs.Fitting.{from_extents}
use Rattle.blk_trace.specs.Setups.{Setup, IsSetup, expire_of}
use Rattle.blk_trace.specs.Happened.{Happened}
use Rattle.blk_trace.specs.declared.event.Event.TheVariants.{Release, Join, Tick, Depth}
use Rattle.blk_trace.specs.Depths.{depth_now}
use Rattle.blk_trace.proofs.Depths.{depth_now_is}
use Rattle.blk_trace.specs.Events.{IsReleased, round_of, entered, AreOnce, open_count, IsOpen, IsUsed}
use Rattle.blk_trace.specs.Issues.{issues_from}
use Rattle.blk_trace.specs.Meaning.{released_ids, issued_ids, served, waiting_ids, rising}
use Rattle.blk_trace.specs.Inside.Seats.{RoundSeat, seat_at, flying_of}
use Rattle.blk_trace.specs.Inside.Allowed.{IsAllowed}
use Rattle.blk_trace.specs.Waits.{Entered, has_id, waits_at, was_issued, unissued_at, waiting_count, released_count}
use Rattle.blk_trace.specs.Setups.{same_dir}
use Rattle.blk_sched.specs.declared.picks.TheConstants.{MAX_OPEN}
use Rattle.blk_sched.specs.Meaning.{Waiting, Meaning, Pending, OpenPicks, HasCandidate, JoinsAt, Joins, open_of as open_picks_of, requeued_of, no_picks, at_start, unfinished, joined_waiting}
use Rattle.blk_queues.specs.Requeued.{requeued_total}
use Rattle.blk_core.specs.declared.tags.TagState.{TagState}
use Rattle.blk_core.specs.declared.tags.TagState.TheVariants.{Free, InFlight, Spent}
use Rattle.blk_core.specs.State.{Flight, CoreState, facts_of, facts_in_trace, requeued_at, is_of, is_named, InFlightAs}
use Rattle.blk_core.specs.Opens.{open_issues, open_issues_of}
use Rattle.blk_core.specs.Inside.Ties.{IsTied, flight_of, seat_of, queue_of, flying}
use Rattle.blk_core.proofs.Pushed.{IsPushed, get_more, released-released, released-joined, released-ticked, released-set}
use Rattle.blk_core.proofs.Waits.{agree_given, len_new, len_given, still_absent}
use Rattle.blk_core.proofs.Seen.{Facts, seen, seen_unissued, seen_requeued, seen_step, was_there, joined_seen, requests_same, requests_given}
use Rattle.blk_core.proofs.Flights.{free_flies, all_free, any_default, unused, none_flies}
use Rattle.blk_core.proofs.RequeueLists.{by_dirs, as_same, once_same, empty_list, none_counted, none_listed}
use Rattle.blk_core.proofs.Requeued.{requeued-released, requeued-joined, requeued-ticked, requeued-set}
use Rattle.blk_core.proofs.Flown.{flown_kept}
use Rattle.blk_core.proofs.Opens.{open_by_dir}
use Rattle.blk_trace.proofs.Counting.{waiting_is, count_kept}
use Rattle.blk_trace.proofs.Opening.{open_kept}
use Rattle.blk_trace.proofs.Seats.{seat_quiet, open_seat, free_unused, seat_used}
use Rattle.blk_trace.proofs.Capacities.{depth_few}
use Rattle.blk_trace.proofs.TagUses.{by_open}
use Rattle.blk_trace.proofs.Pushing.{empty_legal}
use Rattle.blk_trace.proofs.Joining.{join_request}
use Rattle.blk_sched.proofs.Joins.{joins as candidate_joins}
use Rattle.blk_trace.proofs.Unissued.{unissued_from, unissued_kept}
use Rattle.blk_trace.proofs.Steps as step

-- no Release is added: those that stand are known
pub old_known : (es : List Happened) (e : Happened) (rel : ℕ) → ((id : ℕ) (bios : List Bio) → e ≡ Release id bios → ⊥) → ((id : ℕ) → IsReleased es id → id < rel) → (id : ℕ) → IsReleased (es ++ e ∷ []) id → id < rel
old_known es e rel other h id (k, (bios, at)) = elim (get_more es e k (Release id bios) at) [ inl a ↦ h id (k, (bios, a)) | inr b ↦ absurd (other id bios b.1) ]

-- the newest Release is known
new_known : (es : List Happened) (rel : ℕ) (q : List Bio) → ((id : ℕ) → IsReleased es id → id < rel) → (id : ℕ) → IsReleased (es ++ Release rel q ∷ []) id → id < rel + 1
new_known es rel q h id (k, (bios, at)) = elim (get_more es (Release rel q) k (Release id bios) at) [
  | inl a ↦ (let l = h id (k, (bios, a)) in omega arith)
  | inr b ↦ (let e : rel ≡ id = (let p = b.1 in cc) in omega arith)
]

pub one_longer : (es : List Happened) (e : Happened) → length (es ++ e ∷ []) ≡ length es + 1
one_longer es e = length-append es (e ∷ [])

-- as many Issues of a direction are open as before, where as many commands of it are in flight
opens_same : (es fs : List Happened) (d : Dir) (n : ℕ) → flying_of fs d ≡ flying_of es d → n ≡ open_issues_of es d → n ≡ open_issues_of fs d
opens_same es fs d n same is = is ∙ sym (open_by_dir es d) ∙ sym same ∙ open_by_dir fs d

-- a tie at the values that the code's are equal to
pub tied_at : (setup setup' : Setup) (es es' : List Happened) (e : Happened) (m : Meaning) (fl : List TagState) (requeue_lists : List (List Waiting)) (rel : ℕ) → IsPushed setup es e setup' es' → IsTied setup (es ++ e ∷ []) m fl requeue_lists rel → IsTied setup' es' m fl requeue_lists rel
tied_at setup setup' es es' e m fl requeue_lists rel p t =
    subst (λ s. IsTied s es' m fl requeue_lists rel) (sym p.same) (subst (λ x. IsTied setup x m fl requeue_lists rel) (sym p.added) t)

-- a request that the scheduler has waits in the trace, and was never issued
pub never_issued : (setup : Setup) (es : List Happened) (m : Meaning) (fl : List TagState) (requeue_lists : List (List Waiting)) (rel id : ℕ) (w : Waiting) → IsTied setup es m fl requeue_lists rel → map.get m.pending id ≡ Some w → (e : Entered) × (unissued_at setup es id ≡ Some e) × (facts_in_trace e ≡ facts_of w)
never_issued setup es m fl requeue_lists rel id w t there = was_there (unissued_at setup es id) (facts_of w) (sym (t.holds.pending id) ∙ ap (option_map facts_of) there)

pub waits_there : (setup : Setup) (es : List Happened) (m : Meaning) (fl : List TagState) (requeue_lists : List (List Waiting)) (rel id : ℕ) (w : Waiting) → IsTied setup es m fl requeue_lists rel → map.get m.pending id ≡ Some w → (e : Entered) × (waits_at setup es id ≡ Some e) × (facts_in_trace e ≡ facts_of w)
waits_there setup es m fl requeue_lists rel id w t there =
    let n = never_issued setup es m fl requeue_lists rel id w t there in
    (n.0, (unissued_from setup es id n.0 n.1).1, n.2)

-- after a release the core is tied
pub tied_release : (setup setup' : Setup) (es es' : List Happened) (m m' : Meaning) (fl : List TagState) (requeue_lists : List (List Waiting)) (rel : ℕ) (bios : List Bio) (w : Waiting) → IsPushed setup es (Release rel bios) setup' es' → IsTied setup es m fl requeue_lists rel → facts_of w ≡ facts_in_trace record { release = round_of es; due = round_of es + expire_of setup (dir_of bios); bios = bios } → IsRequest bios → m' ≡ record m { pending = map.insert m.pending rel w } → IsTied setup' es' m' fl requeue_lists (rel + 1)
tied_release setup setup' es es' m m' fl requeue_lists rel bios w p t is request m_is =
    let fs : List Happened = es ++ Release rel bios ∷ [] in
    let absent : map.get m.pending rel ≡ None = t.fresh rel (omega arith) in
    let longer = one_longer es (Release rel bios) in
    let count = step.count-released setup es rel bios p.legal in
    let had = t.holds.count in
    let len = len_new m.pending rel w absent in
    let more = released-released es rel bios in
    let next = t.next in
    let few = t.few in
    let same : (q : ℕ) → requeued_at setup fs q ≡ requeued_at setup es q = λ q. requeued-released setup es rel bios p.legal q in
    tied_at setup setup' es es' (Release rel bios) m' fl requeue_lists (rel + 1) p
    (subst (λ x. IsTied setup fs x fl requeue_lists (rel + 1)) (sym m_is)
    (record {
      legal = p.legal;
      ranges = t.ranges;
      holds = record {
        pending = agree_given m.pending (seen_unissued setup es) (seen_unissued setup fs) rel w t.holds.pending
            (λ q. subst (λ x. seen_unissued setup fs q ≡ cond (rel == q) (Some x) (seen_unissued setup es q)) (sym is) (seen_step (unissued_at setup fs q) (rel == q) _ (unissued_at setup es q) (step.unissued-released setup es rel bios p.legal q)));
        requeued = as_same (seen_requeued setup es) (seen_requeued setup fs) requeue_lists (λ q. ap seen (same q)) t.holds.requeued;
        requeued_once = once_same (requeued_at setup es) (requeued_at setup fs) requeue_lists same t.holds.requeued_once;
        count = omega arith;
        reads = opens_same es fs Read m.open_picks.reads (step.open-released setup es rel bios p.legal Read) t.holds.reads;
        writes = opens_same es fs Write m.open_picks.writes (step.open-released setup es rel bios p.legal Write) t.holds.writes;
        requeued_picks = t.holds.requeued_picks;
      };
      next = omega arith;
      few = omega arith;
      known = new_known es rel bios t.known;
      requests = requests_given (unissued_at setup es) (unissued_at setup fs) rel _ (step.unissued-released setup es rel bios p.legal) request t.requests;
      fresh = λ q h. still_absent m.pending rel w q (let ne : rel ≢ q = omega arith in ne) (t.fresh q (omega arith));
      room = t.room;
      lists = t.lists;
      seats = λ tag h. t.seats tag h ∙ sym (step.seat-released setup es rel bios p.legal tag);
      flown = λ tag hw v at. flown_kept setup es (Release rel bios) tag v p.legal (λ e. absurd (cc)) (t.flown tag hw v at);
      reads = t.reads;
      writes = t.writes;
      queues = t.queues;
    }))

-- after a join the core is tied
pub tied_join : (setup setup' : Setup) (es es' : List Happened) (m m' : Meaning) (fl : List TagState) (requeue_lists : List (List Waiting)) (rel : ℕ) (serves : ℕ → Waiting → Bool) (hw now : ℕ) (bios : List Bio) (id : ℕ) (side : Side) → IsPushed setup es (Join id bios) setup' es' → IsTied setup es m fl requeue_lists rel → now ≡ round_of es → IsRequest bios → Joins serves hw now setup.limits (extent_of bios) m id side m' → IsTied setup' es' m' fl requeue_lists rel
tied_join setup setup' es es' m m' fl requeue_lists rel serves hw now bios id side p t now_is request joins =
    let fs : List Happened = es ++ Join id bios ∷ [] in
    let w = joins.0 in
    let candidate = joins.1 in
    let new : Waiting = joined_waiting side now (extent_of bios) w in
    let was = never_issued setup es m fl requeue_lists rel id w t candidate.pending in
    let e : Entered = was.0 in
    let waits : waits_at setup es id ≡ Some e = (unissued_from setup es id e was.1).1 in
    let old : IsRequest e.bios = t.requests id e was.1 in
    let fits = from_extents setup.limits w.extent (extent_of bios) e.bios bios side (sym (ap (λ (x : Facts). x.1.1) was.2)) refl old request candidate.fits in
    let is = joined_seen setup.limits e w bios now (round_of es) side was.2 now_is old request candidate.fits in
    let longer = one_longer es (Join id bios) in
    let count = step.count-joined setup es id bios p.legal in
    let had = t.holds.count in
    let len = len_given m.pending id w new candidate.pending in
    let more = released-joined es id bios in
    let next = t.next in
    let few = t.few in
    let same : (q : ℕ) → requeued_at setup fs q ≡ requeued_at setup es q = λ q. requeued-joined setup es id bios p.legal e waits q in
    tied_at setup setup' es es' (Join id bios) m' fl requeue_lists rel p
    (subst (λ x. IsTied setup fs x fl requeue_lists rel) (sym joins.2)
    (record {
      legal = p.legal;
      ranges = t.ranges;
      holds = record {
        pending = agree_given m.pending (seen_unissued setup es) (seen_unissued setup fs) id new t.holds.pending
            (λ q. subst (λ x. seen_unissued setup fs q ≡ cond (id == q) (Some x) (seen_unissued setup es q)) (sym is) (seen_step (unissued_at setup fs q) (id == q) _ (unissued_at setup es q) (step.unissued-joined setup es id bios p.legal e waits q)));
        requeued = as_same (seen_requeued setup es) (seen_requeued setup fs) requeue_lists (λ q. ap seen (same q)) t.holds.requeued;
        requeued_once = once_same (requeued_at setup es) (requeued_at setup fs) requeue_lists same t.holds.requeued_once;
        count = omega arith;
        reads = opens_same es fs Read m.open_picks.reads (step.open-joined setup es id bios p.legal Read) t.holds.reads;
        writes = opens_same es fs Write m.open_picks.writes (step.open-joined setup es id bios p.legal Write) t.holds.writes;
        requeued_picks = t.holds.requeued_picks;
      };
      next = omega arith;
      few = omega arith;
      known = old_known es (Join id bios) rel (λ i b e. cc) t.known;
      requests = requests_given (unissued_at setup es) (unissued_at setup fs) id _ (step.unissued-joined setup es id bios p.legal e waits) (join_request setup.limits e.bios bios side old request fits) t.requests;
      fresh = λ q h. still_absent m.pending id new q (elsewhere q h) (t.fresh q h);
      room = t.room;
      lists = t.lists;
      seats = λ tag h. t.seats tag h ∙ sym (step.seat-joined setup es id bios p.legal tag);
      flown = λ tag h v at. flown_kept setup es (Join id bios) tag v p.legal (λ e. absurd (cc)) (t.flown tag h v at);
      reads = t.reads;
      writes = t.writes;
      queues = t.queues;
    }))
  where
    elsewhere : (q : ℕ) → rel ≤ q → id ≢ q
    elsewhere q h e = let a : map.get m.pending q ≡ None = t.fresh q h in let b : map.get m.pending id ≡ Some joins.0 = joins.1.pending in let c : map.get m.pending id ≡ map.get m.pending q = ap (map.get m.pending) e in cc

-- the seat of a tag whose command is in flight
pub seated : (setup : Setup) (es : List Happened) (m : Meaning) (fl : List TagState) (requeue_lists : List (List Waiting)) (rel tag hw : ℕ) (w : Waiting) → IsTied setup es m fl requeue_lists rel → tag < length fl → get_or fl tag Free ≡ InFlight hw w → seat_at es tag ≡ Some (record { dir = w.extent.dir; in_flight = true })
seated setup es m fl requeue_lists rel tag hw w t lt at = sym (t.seats tag lt) ∙ ap seat_of at

-- what the code reads under a tag
pub read_at : (fl : List TagState) (tag hw : ℕ) (seen : TagState) (w : Waiting) → tag < length fl → seen ≡ get_or fl tag seen → seen ≡ InFlight hw w → get_or fl tag Free ≡ InFlight hw w
read_at fl tag hw seen w lt e is = any_default fl tag Free seen lt ∙ sym e ∙ is

-- a pick of its direction is open
pub open_flight : (setup : Setup) (es : List Happened) (m : Meaning) (fl : List TagState) (requeue_lists : List (List Waiting)) (rel tag hw : ℕ) (w : Waiting) → IsTied setup es m fl requeue_lists rel → tag < length fl → get_or fl tag Free ≡ InFlight hw w → 0 < open_picks_of w.extent.dir m.open_picks
open_flight setup es m fl requeue_lists rel tag hw w t lt at = by_dir w.extent.dir refl
  where
    by_dir : (d : Dir) → w.extent.dir ≡ d → 0 < open_picks_of d m.open_picks
    by_dir Read is =
        let one : flying Read (get_or fl tag Free) ≡ 1 = ap (flying Read) at ∙ ap (λ d. cond (same_dir Read d) 1 0) is in
        let some = sum_by-set (flying Read) fl tag unused Free lt in
        let reads = t.reads in omega arith
    by_dir Write is =
        let one : flying Write (get_or fl tag Free) ≡ 1 = ap (flying Write) at ∙ ap (λ d. cond (same_dir Write d) 1 0) is in
        let some = sum_by-set (flying Write) fl tag unused Free lt in
        let writes = t.writes in omega arith

-- a free tag has no hardware queue of its own
few_of : (count : ℕ) (s : TagState) → 0 < count → s ≡ Free → queue_of s < count
few_of count s some is = let q : queue_of s ≡ 0 = ap queue_of is in omega arith

none_flown : (P : Type 0) (s : TagState) (hw : ℕ) (w : Waiting) → s ≡ Free → s ≡ InFlight hw w → P
none_flown P s hw w is at = absurd (cc)

-- after a tick the core is tied
pub tied_tick : (setup setup' : Setup) (es es' : List Happened) (m m' : Meaning) (fl fl' : List TagState) (requeue_lists : List (List Waiting)) (rel : ℕ) → IsPushed setup es Tick setup' es' → IsTied setup es m fl requeue_lists rel → m' ≡ m → fl' ≡ replicate (length fl) Free → IsTied setup' es' m' fl' requeue_lists rel
tied_tick setup setup' es es' m m' fl fl' requeue_lists rel p t m_is fl_is =
    let fs : List Happened = es ++ Tick ∷ [] in
    let n : ℕ = length fl in
    let l : length (replicate n unused) ≡ n = length-replicate n unused in
    let r : sum_by (flying Read) (replicate n unused) ≡ n * 0 = sum_by-replicate (flying Read) n unused in
    let s : sum_by (flying Write) (replicate n unused) ≡ n * 0 = sum_by-replicate (flying Write) n unused in
    let ro = step.open-ticked setup es p.legal Read in
    let so = step.open-ticked setup es p.legal Write in
    let rb = step.open-before_tick setup es p.legal Read in
    let sb = step.open-before_tick setup es p.legal Write in
    let hr = t.holds.reads in let hs = t.holds.writes in
    let br = open_by_dir es Read in let bs = open_by_dir es Write in
    let ar = open_by_dir fs Read in let aw = open_by_dir fs Write in
    let longer = one_longer es Tick in
    let count = step.count-ticked setup es p.legal in
    let more = released-ticked es in
    let next = t.next in
    let few = t.few in
    let same : (q : ℕ) → requeued_at setup fs q ≡ requeued_at setup es q = λ q. requeued-ticked setup es q in
    tied_at setup setup' es es' Tick m' fl' requeue_lists rel p
    (subst (λ x. IsTied setup fs x fl' requeue_lists rel) (sym m_is)
    (subst (λ x. IsTied setup fs m x requeue_lists rel) (sym fl_is)
    (record {
      legal = p.legal;
      ranges = t.ranges;
      holds = record {
        pending = λ q. t.holds.pending q ∙ ap seen (sym (step.unissued-ticked setup es p.legal q));
        requeued = as_same (seen_requeued setup es) (seen_requeued setup fs) requeue_lists (λ q. ap seen (same q)) t.holds.requeued;
        requeued_once = once_same (requeued_at setup es) (requeued_at setup fs) requeue_lists same t.holds.requeued_once;
        count = t.holds.count ∙ sym count;
        reads = omega arith;
        writes = omega arith;
        requeued_picks = t.holds.requeued_picks;
      };
      next = omega arith;
      few = omega arith;
      known = old_known es Tick rel (λ i b e. cc) t.known;
      requests = requests_same (unissued_at setup es) (unissued_at setup fs) (step.unissued-ticked setup es p.legal) t.requests;
      fresh = t.fresh;
      room = l ∙ t.room;
      lists = t.lists;
      seats = λ q h. ap seat_of (all_free n q) ∙ sym (step.seat-ticked setup es p.legal q);
      flown = λ q h v at. none_flown (InFlightAs setup fs q v) (get_or (replicate n unused) q Free) h v (all_free n q) at;
      reads = omega arith;
      writes = omega arith;
      queues = λ q. few_of setup.hw (get_or (replicate n unused) q Free) t.ranges.some_queues (all_free n q);
    })))

-- after a Depth the core is tied
pub tied_set : (setup setup' : Setup) (es es' : List Happened) (m : Meaning) (fl : List TagState) (requeue_lists : List (List Waiting)) (rel depth : ℕ) → IsPushed setup es (Depth depth) setup' es' → IsTied setup es m fl requeue_lists rel → IsTied setup' es' m fl requeue_lists rel
tied_set setup setup' es es' m fl requeue_lists rel depth p t =
    let e : Happened = Depth depth in
    let fs : List Happened = es ++ e ∷ [] in
    let longer = one_longer es e in
    let count = count_kept es e refl refl refl in
    let more = released-set es depth in
    let next = t.next in
    let few = t.few in
    let same : (q : ℕ) → requeued_at setup fs q ≡ requeued_at setup es q = λ q. requeued-set setup es depth q in
    tied_at setup setup' es es' e m fl requeue_lists rel p
    (record {
      legal = p.legal;
      ranges = t.ranges;
      holds = record {
        pending = λ q. t.holds.pending q ∙ ap seen (sym (unissued_kept setup es e refl refl refl refl q));
        requeued = as_same (seen_requeued setup es) (seen_requeued setup fs) requeue_lists (λ q. ap seen (same q)) t.holds.requeued;
        requeued_once = once_same (requeued_at setup es) (requeued_at setup fs) requeue_lists same t.holds.requeued_once;
        count = t.holds.count ∙ sym count;
        reads = opens_same es fs Read m.open_picks.reads (open_kept setup es e p.legal refl refl Read) t.holds.reads;
        writes = opens_same es fs Write m.open_picks.writes (open_kept setup es e p.legal refl refl Write) t.holds.writes;
        requeued_picks = t.holds.requeued_picks;
      };
      next = omega arith;
      few = omega arith;
      known = old_known es e rel (λ i b x. cc) t.known;
      requests = requests_same (unissued_at setup es) (unissued_at setup fs) (unissued_kept setup es e refl refl refl refl) t.requests;
      fresh = t.fresh;
      room = t.room;
      lists = t.lists;
      seats = λ tag h. t.seats tag h ∙ sym (seat_quiet setup es e p.legal refl refl refl tag);
      flown = λ tag h v at. flown_kept setup es e tag v p.legal (λ x. absurd (cc)) (t.flown tag h v at);
      reads = t.reads;
      writes = t.writes;
      queues = t.queues;
    })

-- nothing waits, is taken or is in flight at first
no_waits : (setup : Setup) (q : ℕ) → unissued_at setup [] q ≡ None
unfolding unissued_at waits_at was_issued released_ids
no_waits setup q = refl

none_requeued : (setup : Setup) (q : ℕ) → requeued_at setup [] q ≡ None
unfolding requeued_at was_issued
none_requeued setup q = refl

no_count : waiting_count [] ≡ 0
unfolding waiting_ids released_ids issued_ids served issues_from rising
no_count = refl

no_seat : (t : ℕ) → seat_at [] t ≡ None
unfolding seat_at issues_from
no_seat t = refl

none_open : (d : Dir) → open_issues_of [] d ≡ 0
unfolding open_issues issues_from
none_open d = refl

none_released : released_count [] ≡ 0
unfolding released_ids
none_released = refl

-- what a scheduler means at its start
start_parts : (m : Meaning) → m ≡ at_start m.front → (m.pending ≡ map.empty) × (m.open_picks ≡ no_picks)
start_parts m is = (ap (λ (x : Meaning). x.pending) is, ap (λ (x : Meaning). x.open_picks) is)

abbrev nothing : List Waiting
nothing = []

no_requeued_picks : (d : Dir) (p : OpenPicks) → p ≡ no_picks → requeued_of d p ≡ 0
no_requeued_picks Read p is = ap (λ (x : OpenPicks). x.requeued_reads) is
no_requeued_picks Write p is = ap (λ (x : OpenPicks). x.requeued_writes) is

at_first : (setup : Setup) (m : Meaning) (n k : ℕ) → m ≡ at_start m.front → IsSetup setup → n ≡ setup.depth → k ≡ setup.hw → IsTied setup [] m (replicate n unused) (replicate k nothing) 0
at_first setup m n k start ranges d h_is =
    let parts = start_parts m start in
    let rs : sum_by (flying Read) (replicate n unused) ≡ n * 0 = sum_by-replicate (flying Read) n unused in
    let ss : sum_by (flying Write) (replicate n unused) ≡ n * 0 = sum_by-replicate (flying Write) n unused in
    let r : m.open_picks.reads ≡ 0 = ap (λ (x : OpenPicks). x.reads) parts.1 in
    let w : m.open_picks.writes ≡ 0 = ap (λ (x : OpenPicks). x.writes) parts.1 in
    let len : map.len m.pending ≡ 0 = ap map.len parts.0 ∙ map.len-empty nat_cmp Waiting in
    let waiting = no_count in
    let requeue_lists = none_listed k in
    record {
      legal = empty_legal setup;
      ranges = ranges;
      holds = record {
        pending = λ q. ap (λ (x : Pending). option_map facts_of (map.get x q)) parts.0 ∙ ap (option_map facts_of) (map.get-empty nat_cmp q) ∙ ap seen (sym (no_waits setup q));
        requeued = λ hw j v at. absurd (let e : ◌≡◌ {A = Option Waiting} None (Some v) = ap (λ l. slice_get l j) (sym (empty_list k hw)) ∙ at in cc);
        requeued_once = λ q. none_counted (is_named q) k ∙ sym (ap (λ o. cond (is_some o) 1 0) (none_requeued setup q));
        count = omega arith;
        reads = r ∙ sym (none_open Read);
        writes = w ∙ sym (none_open Write);
        requeued_picks = λ dir. no_requeued_picks dir m.open_picks parts.1 ∙ sym (none_counted (is_of dir) k);
      };
      next = sym none_released;
      few = omega arith;
      requests = λ q e at. absurd (let x : ◌≡◌ {A = Option Entered} None (Some e) = sym (no_waits setup q) ∙ at in cc);
      known = λ id r. absurd (let x : None ≡ Some (Release id r.1.0) = r.1.1 in cc);
      fresh = λ q h. ap (λ (x : Pending). map.get x q) parts.0 ∙ map.get-empty nat_cmp q;
      room = length-replicate n unused ∙ d;
      lists = length-replicate k nothing ∙ h_is;
      seats = λ q h. ap seat_of (all_free n q) ∙ sym (no_seat q);
      flown = λ q h v at. none_flown (InFlightAs setup [] q v) (get_or (replicate n unused) q Free) h v (all_free n q) at;
      reads = omega arith;
      writes = omega arith;
      queues = λ q. few_of setup.hw (get_or (replicate n unused) q Free) ranges.some_queues (all_free n q);
    }

-- at first the core is tied
pub tied_new : (s s' : Setup) (es : List Happened) (m : Meaning) (fl : List TagState) (requeue_lists : List (List Waiting)) (n k : ℕ) → s' ≡ s → es ≡ [] → m ≡ at_start m.front → IsSetup s → n ≡ s.depth → fl ≡ replicate n Free → k ≡ s.hw → requeue_lists ≡ replicate k [] → IsTied s' es m fl requeue_lists 0
tied_new s s' es m fl requeue_lists n k p q start ranges d f h_is h =
    subst (λ x. IsTied x es m fl requeue_lists 0) (sym p) (subst (λ x. IsTied s x m fl requeue_lists 0) (sym q) (subst (λ x. IsTied s [] m x requeue_lists 0) (sym f) (subst (λ x. IsTied s [] m (replicate n unused) x 0) (sym h) (at_first s m n k start ranges d h_is))))

-- what a core is at first
pub at_start_of : (s s' : Setup) (es : List Happened) (m : Meaning) (kept : List ℕ) (flights now : List (Option Flight)) (requeue_lists then : List (List Waiting)) → s' ≡ s → es ≡ [] → flights ≡ now → requeue_lists ≡ then → (let c : CoreState = record { setup = s'; events = es; meaning = m; kept = kept; flights = flights; requeued = requeue_lists } in c ≡ record { setup = s; events = []; meaning = m; kept = kept; flights = now; requeued = then })
at_start_of s s' es m kept flights now requeue_lists then p q r h = cc

-- a scheduler's join is one that the trace allows
pub join_allowed : (setup : Setup) (es : List Happened) (m m' : Meaning) (fl : List TagState) (requeue_lists : List (List Waiting)) (rel : ℕ) (serves : ℕ → Waiting → Bool) (hw now : ℕ) (bios : List Bio) (id : ℕ) (side : Side) → IsTied setup es m fl requeue_lists rel → IsRequest bios → Joins serves hw now setup.limits (extent_of bios) m id side m' → AreOnce (entered es ++ bios) → IsAllowed setup es (Join id bios)
join_allowed setup es m m' fl requeue_lists rel serves hw now bios id side t request joins once =
    let was = never_issued setup es m fl requeue_lists rel id joins.0 t joins.1.pending in
    let fits = from_extents setup.limits joins.0.extent (extent_of bios) was.0.bios bios side (sym (ap (λ (x : Facts). x.1.1) was.2)) refl (t.requests id was.0 was.1) request joins.1.fits in
    (was.0, side, was.1, fits, once)

-- a Tick is allowed where nothing is in flight
pub tick_allowed : (setup : Setup) (es : List Happened) (m : Meaning) (fl : List TagState) (requeue_lists : List (List Waiting)) (rel : ℕ) → IsTied setup es m fl requeue_lists rel → open_count es ≡ 0 → IsAllowed setup es Tick
tick_allowed setup es m fl requeue_lists rel t none = let both = step.open-both setup es t.legal in ((let r : flying_of es Read ≡ 0 = omega arith in r), (let w : flying_of es Write ≡ 0 = omega arith in w))

-- a tag below the depth of the round that is on is one of the core's
pub tag_there : (setup : Setup) (es : List Happened) (m : Meaning) (fl : List TagState) (requeue_lists : List (List Waiting)) (rel tag : ℕ) → IsTied setup es m fl requeue_lists rel → tag < depth_now setup es → tag < length fl
tag_there setup es m fl requeue_lists rel tag t below =
    let is = depth_now_is setup es in let few = depth_few setup es (round_of es) t.legal in let room = t.room in omega arith

-- where a tag is free, a scheduler can open one more pick
pub few_open : (setup : Setup) (es : List Happened) (m : Meaning) (fl : List TagState) (requeue_lists : List (List Waiting)) (rel tag : ℕ) → IsTied setup es m fl requeue_lists rel → tag < length fl → get_or fl tag Free ≡ Free → m.open_picks.reads + m.open_picks.writes < MAX_OPEN
few_open setup es m fl requeue_lists rel tag t lt none = let a = free_flies fl tag lt none in let b = t.reads in let c = t.writes in let d = t.room in let e = t.ranges.few_tags in omega arith

-- a tag that wasn't issued in the round is free
pub free_slot : (setup : Setup) (es : List Happened) (m : Meaning) (fl : List TagState) (requeue_lists : List (List Waiting)) (rel tag : ℕ) → IsTied setup es m fl requeue_lists rel → tag < length fl → (IsUsed es tag → ⊥) → get_or fl tag Free ≡ Free
free_slot setup es m fl requeue_lists rel tag t lt free = by_state (get_or fl tag Free) (t.seats tag lt ∙ (free_unused es tag).1 free)
  where
    by_state : (s : TagState) → seat_of s ≡ None → s ≡ Free
    by_state Free e = refl
    by_state (InFlight hw w) e = absurd (cc)
    by_state (Spent d) e = absurd (cc)

-- the requeued requests are those in the requeue lists, and as many wait
pub all_requeued : (setup : Setup) (es : List Happened) (m : Meaning) (fl : List TagState) (requeue_lists : List (List Waiting)) (rel : ℕ) → IsTied setup es m fl requeue_lists rel → m.open_picks.requeued_reads + m.open_picks.requeued_writes ≡ requeued_total requeue_lists
all_requeued setup es m fl requeue_lists rel t = let r = t.holds.requeued_picks Read in let w = t.holds.requeued_picks Write in let all = by_dirs requeue_lists in omega arith

-- no more wait than were released
few_wait : (es : List Happened) → waiting_count es ≤ released_count es
few_wait es = let is = waiting_is es in let few = count_by-le-length (λ id. not (has_id (issued_ids es) id)) (released_ids es) in omega arith

-- how many wait
pub pending_is : (setup : Setup) (es : List Happened) (m : Meaning) (fl : List TagState) (requeue_lists : List (List Waiting)) (rel pending reads writes : ℕ) → IsTied setup es m fl requeue_lists rel → pending ≡ map.len m.pending → reads ≡ requeued_of Read m.open_picks → writes ≡ requeued_of Write m.open_picks → (pending + (reads + writes) ≡ waiting_count es) × (waiting_count es ≤ length es)
pending_is setup es m fl requeue_lists rel pending reads writes t p r w =
    let all = all_requeued setup es m fl requeue_lists rel t in let count = t.holds.count in let few = few_wait es in let next = t.next in let known = t.few in
    (omega arith, omega arith)

-- a pick is open where an Issue is, and requeued where a request stands in a requeue list
pub open_issue : (setup : Setup) (es : List Happened) (m : Meaning) (fl : List TagState) (requeue_lists : List (List Waiting)) (rel : ℕ) (P : Type 0) → IsTied setup es m fl requeue_lists rel → (0 < unfinished m.open_picks) ⊎ P → (0 < open_count es) ⊎ (0 < requeued_total requeue_lists) ⊎ P
open_issue setup es m fl requeue_lists rel P t h =
    let both = step.open-both setup es t.legal in let r = t.holds.reads in let w = t.holds.writes in let all = all_requeued setup es m fl requeue_lists rel t in
    let br = open_by_dir es Read in let bw = open_by_dir es Write in
    elim h [
      | inl o ↦ elim (cases_lt 0 (open_count es)) [ inl a ↦ inl a | inr b ↦ inr (inl (omega arith)) ]
      | inr p ↦ inr (inr p)
    ]

-- a core without open Issues has nothing in flight
pub none_in_flight : (setup : Setup) (es : List Happened) (m : Meaning) (fl : List TagState) (requeue_lists : List (List Waiting)) (rel : ℕ) → IsTied setup es m fl requeue_lists rel → open_count es ≡ 0 → list_map flight_of fl ≡ replicate (length fl) None
none_in_flight setup es m fl requeue_lists rel t none =
    let both = step.open-both setup es t.legal in let r = t.holds.reads in let w = t.holds.writes in let fr = t.reads in let fw = t.writes in
    let br = open_by_dir es Read in let bw = open_by_dir es Write in
    none_flies fl (omega arith)

-- a tag that the code reads as free was not issued in the round, and another was
pub slot_free : (setup : Setup) (es : List Happened) (m : Meaning) (fl : List TagState) (requeue_lists : List (List Waiting)) (rel tag : ℕ) (seen : TagState) → IsTied setup es m fl requeue_lists rel → tag < length fl → seen ≡ get_or fl tag seen → seen ≡ Free → IsUsed es tag → ⊥
slot_free setup es m fl requeue_lists rel tag seen t lt e is =
    (free_unused es tag).0 (sym (t.seats tag lt) ∙ ap seat_of (any_default fl tag Free seen lt ∙ sym e ∙ is))

pub slot_used : (setup : Setup) (es : List Happened) (m : Meaning) (fl : List TagState) (requeue_lists : List (List Waiting)) (rel tag : ℕ) (seen : TagState) → IsTied setup es m fl requeue_lists rel → tag < length fl → seen ≡ get_or fl tag seen → (seen ≡ Free → ⊥) → IsUsed es tag
slot_used setup es m fl requeue_lists rel tag seen t lt e other =
    seat_used es tag (ap is_some (sym (t.seats tag lt) ∙ ap seat_of (any_default fl tag Free seen lt ∙ sym e)) ∙ by_state seen other)
  where
    by_state : (s : TagState) → (s ≡ Free → ⊥) → is_some (seat_of s) ≡ true
    by_state Free n = absurd (n refl)
    by_state (InFlight hw w) n = refl
    by_state (Spent d) n = refl

-- an Issue is open under a tag whose command is in flight, and under no other
pub flying_open : (setup : Setup) (es : List Happened) (m : Meaning) (fl : List TagState) (requeue_lists : List (List Waiting)) (rel tag hw : ℕ) (w : Waiting) → IsTied setup es m fl requeue_lists rel → get_or fl tag Free ≡ InFlight hw w → IsOpen es tag
flying_open setup es m fl requeue_lists rel tag hw w t at = by_open es tag w.id (t.flown tag hw w at).by

abbrev flies_now : Option RoundSeat → Bool
flies_now None = false
flies_now (Some seat) = seat.in_flight

pub not_flying : (setup : Setup) (es : List Happened) (m : Meaning) (fl : List TagState) (requeue_lists : List (List Waiting)) (rel tag : ℕ) (seen : TagState) → IsTied setup es m fl requeue_lists rel → tag < length fl → seen ≡ get_or fl tag seen → ((hw : ℕ) (w : Waiting) → seen ≡ InFlight hw w → ⊥) → IsOpen es tag → ⊥
not_flying setup es m fl requeue_lists rel tag seen t lt e other o =
    let seat = open_seat setup es tag t.legal o in
    let flies : flies_now (seat_of seen) ≡ true = ap flies_now (ap seat_of (e ∙ any_default fl tag seen Free lt) ∙ t.seats tag lt ∙ seat.1) in
    by_state seen other flies
  where
    by_state : (s : TagState) → ((hw : ℕ) (w : Waiting) → s ≡ InFlight hw w → ⊥) → flies_now (seat_of s) ≡ true → ⊥
    by_state Free n f = absurd (let x : false ≡ true = f in cc)
    by_state (InFlight hw w) n f = n hw w refl
    by_state (Spent d) n f = absurd (let x : false ≡ true = f in cc)

-- past the tags none is open
pub beyond : (setup : Setup) (es : List Happened) (m : Meaning) (fl : List TagState) (requeue_lists : List (List Waiting)) (rel tag : ℕ) → IsTied setup es m fl requeue_lists rel → length fl ≤ tag → IsOpen es tag → ⊥
beyond setup es m fl requeue_lists rel tag t past o =
    let seat = open_seat setup es tag t.legal o in
    let b = step.seat-below setup es t.legal tag _ seat.1 in
    let r = t.room in
    absurd (omega arith)

-- a join as the trace's own limits and the newcomer's extent say it
pub joins_at : (serves : ℕ → Waiting → Bool) (hw now : ℕ) (limits : Limits) (newcomer : Extent) (bios : List Bio) (m m' : Meaning) (id : ℕ) (side : Side) → newcomer ≡ extent_of bios → HasCandidate serves hw limits (extent_of bios) m id side → JoinsAt now newcomer m id side m' → Joins serves hw now limits (extent_of bios) m id side m'
joins_at serves hw now limits newcomer bios m m' id side is has joins =
    candidate_joins serves hw now limits (extent_of bios) m id side m' has (subst (λ (x : Extent). JoinsAt now x m id side m') is joins)

-- what the code enters is what the trace says of it
pub entered_at : (setup : Setup) (es : List Happened) (id hw now expire : ℕ) (newcomer : Extent) (bios : List Bio) → now ≡ round_of es → newcomer ≡ extent_of bios → expire ≡ expire_of setup (dir_of bios) → facts_of (record { id = id; hw = hw; release = now; due = now + expire; extent = newcomer }) ≡ facts_in_trace record { release = round_of es; due = round_of es + expire_of setup (dir_of bios); bios = bios }
entered_at setup es id hw now expire newcomer bios n b x =
    let e : now + expire ≡ round_of es + expire_of setup (dir_of bios) = ap (λ k. k + expire) n ∙ ap (λ k. round_of es + k) x in
    cc
