-- A Done and a Back: the core is tied after either.
use Rattle.std.proofs.Common.{◌≡◌, ◌∙◌, sym, ap, subst, refl, ℕ, ◌+◌, ◌<◌, arith, true, cond, List, [], ◌∷◌, ◌++◌, length, Some, get_or, sum_by, set, ◌==◌}
use Rattle.std.proofs.lemmas.List.{length-set}
use Rattle.std.proofs.lemmas.List.Sums.{sum_by-set}
use Rattle.std.specs.Option.{option_map}
use Rattle.std.specs.FinMap as map
use Rattle.blk_bio.specs.declared.bio.Dir.{Dir}
use Rattle.blk_bio.specs.declared.bio.Dir.TheVariants.{Read, Write}
use Rattle.blk_bio.specs.Bios.{Bio}
use Rattle.blk_trace.specs.Setups.{Setup}
use Rattle.blk_trace.specs.Happened.{Happened}
use Rattle.blk_trace.specs.declared.event.Event.TheVariants.{Release, Done, Back}
use Rattle.blk_trace.specs.Kinds.{ends}
use Rattle.blk_trace.specs.Rules.{BreaksNoRule}
use Rattle.blk_trace.specs.Inside.Seats.{RoundSeat, seat_at}
use Rattle.blk_trace.specs.Inside.Allowed.{IsAllowed, places_of}
use Rattle.blk_trace.specs.Waits.{unissued_at, waiting_count, released_count}
use Rattle.blk_trace.specs.Setups.{same_dir}
use Rattle.blk_sched.specs.declared.picks.TheConstants.{MAX_REQUEUED}
use Rattle.blk_sched.specs.Meaning.{Waiting, Meaning, Pending, RequeuesPick, opened, after_requeue, requeued_of}
use Rattle.blk_queues.specs.Requeued.{requeued_total, requeued_count}
use Rattle.blk_core.specs.declared.tags.TagState.{TagState}
use Rattle.blk_core.specs.declared.tags.TagState.TheVariants.{Free, InFlight, Spent}
use Rattle.blk_core.specs.State.{facts_of, requeued_at, is_of, InFlightAs}
use Rattle.blk_core.proofs.Seen.{seen, seen_unissued, seen_requeued, seen_step, once_seen, once_unseen, AreRequests, requests_same}
use Rattle.blk_core.specs.Inside.Ties.{IsTied, flying}
use Rattle.blk_core.proofs.Pushed.{IsPushed, released-finished, released-requeued}
use Rattle.blk_core.proofs.Flights.{opened_reads, opened_writes, opened_requeued, requeued_reads, requeued_writes, requeued_more, seats_set, queues_set, flown_set}
use Rattle.blk_core.proofs.RequeueLists.{AreAs, AreOnce, as_same, once_same, with_one, as_with, once_with, count_with, total_with}
use Rattle.blk_core.proofs.Requeued.{flown_not_requeued, requeued-finished, requeued-requeued}
use Rattle.blk_core.proofs.Flown.{flown_kept}
use Rattle.blk_core.proofs.Opens.{open_by_dir}
use Rattle.blk_core.proofs.Ties.{old_known, one_longer, tied_at, seated, pending_is}
use Rattle.blk_trace.proofs.Seats.{seat_ended}
use Rattle.blk_trace.proofs.Opening.{open_ended, open_positive}
use Rattle.blk_trace.proofs.TagUses.{by_open}
use Rattle.blk_trace.proofs.Steps as step

-- an event that ends the Issue of a command in flight breaks no rule
pub end_unbroken : (setup : Setup) (es : List Happened) (e : Happened) (m : Meaning) (fl : List TagState) (requeue_lists : List (List Waiting)) (rel tag hw : ℕ) (w : Waiting) → IsTied setup es m fl requeue_lists rel → tag < length fl → get_or fl tag Free ≡ InFlight hw w → (seat_at es tag ≡ Some (record { dir = w.extent.dir; in_flight = true }) → IsAllowed setup es e) → places_of e ≡ 0 → BreaksNoRule setup es e
end_unbroken setup es e m fl requeue_lists rel tag hw w t lt at allowed none =
    step.allowed-unbroken setup es e t.legal (allowed (seated setup es m fl requeue_lists rel tag hw w t lt at)) (let l = t.legal.not_too_long in omega arith)

-- one pick of the direction fewer is open
record IsClosed (m m' : Meaning) (dir : Dir) : Type 0 where
  reads : m.open_picks.reads ≡ m'.open_picks.reads + cond (same_dir Read dir) 1 0
  writes : m.open_picks.writes ≡ m'.open_picks.writes + cond (same_dir Write dir) 1 0
  pending : m'.pending ≡ m.pending

-- what the scheduler and the requeue lists hold then
record IsLeft (setup : Setup) (fs : List Happened) (m' : Meaning) (requeue_lists' : List (List Waiting)) : Type 0 where
  pending : (q : ℕ) → option_map facts_of (map.get m'.pending q) ≡ seen_unissued setup fs q
  requests : AreRequests (unissued_at setup fs)
  are : AreAs (seen_requeued setup fs) requeue_lists'
  once : AreOnce (requeued_at setup fs) requeue_lists'
  count : map.len m'.pending + requeued_total requeue_lists' ≡ waiting_count fs
  requeued_picks : (d : Dir) → requeued_of d m'.open_picks ≡ requeued_count (is_of d) requeue_lists'
  lists : length requeue_lists' ≡ setup.hw

tied_end : (setup setup' : Setup) (es es' : List Happened) (e : Happened) (m m' : Meaning) (fl : List TagState) (requeue_lists requeue_lists' : List (List Waiting)) (rel tag hw : ℕ) (w : Waiting) → IsPushed setup es e setup' es' → ends e ≡ Some tag → released_count (es ++ e ∷ []) ≡ released_count es → ((id : ℕ) (bios : List Bio) → e ≡ Release id bios → ⊥) → IsTied setup es m fl requeue_lists rel → tag < length fl → get_or fl tag Free ≡ InFlight hw w → IsClosed m m' w.extent.dir → IsLeft setup (es ++ e ∷ []) m' requeue_lists' → IsTied setup' es' m' (set fl tag (Spent w.extent.dir)) requeue_lists' rel
tied_end setup setup' es es' e m m' fl requeue_lists requeue_lists' rel tag hw w p end more other t lt at o s =
    let fs : List Happened = es ++ e ∷ [] in
    let g : TagState = Spent w.extent.dir in
    let seat : RoundSeat = record { dir = w.extent.dir; in_flight = true } in
    let here : seat_at es tag ≡ Some seat = seated setup es m fl requeue_lists rel tag hw w t lt at in
    let r0 : flying Read (get_or fl tag Free) ≡ cond (same_dir Read w.extent.dir) 1 0 = ap (flying Read) at in
    let s0 : flying Write (get_or fl tag Free) ≡ cond (same_dir Write w.extent.dir) 1 0 = ap (flying Write) at in
    let rs : sum_by (flying Read) (set fl tag g) + flying Read (get_or fl tag Free) ≡ sum_by (flying Read) fl + 0 = sum_by-set (flying Read) fl tag g Free lt in
    let ss : sum_by (flying Write) (set fl tag g) + flying Write (get_or fl tag Free) ≡ sum_by (flying Write) fl + 0 = sum_by-set (flying Write) fl tag g Free lt in
    let ro = o.reads in
    let so = o.writes in
    let rn = open_ended setup es e tag p.legal end w.extent.dir here Read in
    let sn = open_ended setup es e tag p.legal end w.extent.dir here Write in
    let tr = t.reads in let tw = t.writes in let hr = t.holds.reads in let hs = t.holds.writes in
    let br = open_by_dir es Read in let bs = open_by_dir es Write in
    let ar = open_by_dir fs Read in let aw = open_by_dir fs Write in
    let l : length (set fl tag g) ≡ length fl = length-set fl tag g in
    let longer = one_longer es e in
    let next = t.next in
    let few = t.few in
    let some = t.ranges.some_queues in
    let mp = o.pending in
    tied_at setup setup' es es' e m' (set fl tag g) requeue_lists' rel p
    (record {
      legal = p.legal;
      ranges = t.ranges;
      holds = record {
        pending = s.pending;
        requeued = s.are;
        requeued_once = s.once;
        count = s.count;
        reads = omega arith;
        writes = omega arith;
        requeued_picks = s.requeued_picks;
      };
      next = omega arith;
      few = omega arith;
      known = old_known es e rel other t.known;
      requests = s.requests;
      fresh = λ q h. ap (λ (x : Pending). map.get x q) mp ∙ t.fresh q h;
      room = l ∙ t.room;
      lists = s.lists;
      seats = λ q h. seats_set (seat_at es) (seat_at fs) fl tag g lt t.seats (seat_ended setup es e tag p.legal end seat here) q (omega arith);
      flown = flown_set (InFlightAs setup es) (InFlightAs setup fs) fl tag g lt
          (λ u v ne was. flown_kept setup es e u v p.legal (λ x. ne (let y : Some tag ≡ Some u = sym end ∙ x in cc)) was)
          (λ h v x. absurd (cc))
          t.flown;
      reads = omega arith;
      writes = omega arith;
      queues = queues_set setup.hw fl tag g lt (omega arith) t.queues;
    })

-- after a completion the core is tied
tied_done : (setup setup' : Setup) (es es' : List Happened) (m m' : Meaning) (fl : List TagState) (requeue_lists : List (List Waiting)) (rel tag hw : ℕ) (w : Waiting) → IsPushed setup es (Done tag) setup' es' → IsTied setup es m fl requeue_lists rel → tag < length fl → get_or fl tag Free ≡ InFlight hw w → m ≡ record m' { open_picks = opened w.extent.dir m'.open_picks } → IsTied setup' es' m' (set fl tag (Spent w.extent.dir)) requeue_lists rel
tied_done setup setup' es es' m m' fl requeue_lists rel tag hw w p t lt at m_is =
    let fs : List Happened = es ++ Done tag ∷ [] in
    let mp : m'.pending ≡ m.pending = sym (ap (λ (x : Meaning). x.pending) m_is) in
    let same : (q : ℕ) → requeued_at setup fs q ≡ requeued_at setup es q = λ q. requeued-finished setup es tag q in
    let count = step.count-finished setup es tag p.legal in
    tied_end setup setup' es es' (Done tag) m m' fl requeue_lists requeue_lists rel tag hw w p refl (released-finished es tag) (λ i b e. cc) t lt at
    (record {
      reads = ap (λ (x : Meaning). x.open_picks.reads) m_is ∙ opened_reads w.extent.dir m'.open_picks;
      writes = ap (λ (x : Meaning). x.open_picks.writes) m_is ∙ opened_writes w.extent.dir m'.open_picks;
      pending = mp;
    })
    (record {
      pending = λ q. ap (λ (x : Pending). option_map facts_of (map.get x q)) mp ∙ t.holds.pending q ∙ ap seen (sym (step.unissued-finished setup es tag p.legal q));
      requests = requests_same (unissued_at setup es) (unissued_at setup fs) (step.unissued-finished setup es tag p.legal) t.requests;
      are = as_same (seen_requeued setup es) (seen_requeued setup fs) requeue_lists (λ q. ap seen (same q)) t.holds.requeued;
      once = once_same (requeued_at setup es) (requeued_at setup fs) requeue_lists same t.holds.requeued_once;
      count = ap (λ x. map.len x + requeued_total requeue_lists) mp ∙ t.holds.count ∙ sym count;
      requeued_picks = λ d. sym (opened_requeued d w.extent.dir m'.open_picks) ∙ sym (ap (λ (x : Meaning). requeued_of d x.open_picks) m_is) ∙ t.holds.requeued_picks d;
      lists = t.lists;
    })

-- the same of what the code calls its direction
pub tied_done_at : (setup setup' : Setup) (es es' : List Happened) (m m' : Meaning) (fl : List TagState) (requeue_lists : List (List Waiting)) (rel tag hw : ℕ) (w : Waiting) (dir : Dir) → IsPushed setup es (Done tag) setup' es' → IsTied setup es m fl requeue_lists rel → tag < length fl → get_or fl tag Free ≡ InFlight hw w → dir ≡ w.extent.dir → m ≡ record m' { open_picks = opened dir m'.open_picks } → IsTied setup' es' m' (set fl tag (Spent dir)) requeue_lists rel
tied_done_at setup setup' es es' m m' fl requeue_lists rel tag hw w dir p t lt at is m_is =
    subst (λ d. m ≡ record m' { open_picks = opened d m'.open_picks } → IsTied setup' es' m' (set fl tag (Spent d)) requeue_lists rel) (sym is) (λ h. tied_done setup setup' es es' m m' fl requeue_lists rel tag hw w p t lt at h) m_is

-- after a Back, which requeues the request, the core is tied
pub tied_back : (setup setup' : Setup) (es es' : List Happened) (m m' : Meaning) (fl : List TagState) (requeue_lists requeue_lists' : List (List Waiting)) (rel tag hw : ℕ) (w : Waiting) (dir : Dir) → IsPushed setup es (Back tag) setup' es' → IsTied setup es m fl requeue_lists rel → tag < length fl → get_or fl tag Free ≡ InFlight hw w → dir ≡ w.extent.dir → RequeuesPick dir m m' → requeue_lists' ≡ with_one requeue_lists hw w → hw < setup.hw → IsTied setup' es' m' (set fl tag (Spent w.extent.dir)) requeue_lists' rel
tied_back setup setup' es es' m m' fl requeue_lists requeue_lists' rel tag hw w dir p t lt at dir_is hands lists_are small =
    let fs : List Happened = es ++ Back tag ∷ [] in
    let back : RequeuesPick w.extent.dir m m' = subst (λ d. RequeuesPick d m m') dir_is hands in
    let f : InFlightAs setup es tag w = t.flown tag hw w at in
    let in_lists : hw < length requeue_lists = (let x = t.lists in omega arith) in
    let mp : m'.pending ≡ m.pending = ap (λ (x : Meaning). x.pending) back in
    let none = ap seen (flown_not_requeued setup es tag w.id t.legal f.by) in
    let step_is : (q : ℕ) → seen_requeued setup fs q ≡ cond (w.id == q) (Some (facts_of w)) (seen_requeued setup es q) =
    λ q. subst (λ x. seen_requeued setup fs q ≡ cond (w.id == q) (Some x) (seen_requeued setup es q)) (sym f.known) (seen_step (requeued_at setup fs q) (w.id == q) _ (requeued_at setup es q) (requeued-requeued setup es tag w.id t.legal f.by q)) in
    let had = t.holds.count in
    let len : map.len m'.pending ≡ map.len m.pending = ap map.len mp in
    let more = total_with requeue_lists hw w in_lists in
    let count = step.count_requeued setup es tag w.id t.legal f.by in
    subst (λ x. IsTied setup' es' m' (set fl tag (Spent w.extent.dir)) x rel) (sym lists_are)
    (tied_end setup setup' es es' (Back tag) m m' fl requeue_lists (with_one requeue_lists hw w) rel tag hw w p refl (released-requeued es tag) (λ i b e. cc) t lt at
    (record {
      reads = sym (requeued_reads w.extent.dir m.open_picks) ∙ sym (ap (λ (x : Meaning). x.open_picks.reads) back) ∙ opened_reads w.extent.dir m'.open_picks;
      writes = sym (requeued_writes w.extent.dir m.open_picks) ∙ sym (ap (λ (x : Meaning). x.open_picks.writes) back) ∙ opened_writes w.extent.dir m'.open_picks;
      pending = mp;
    })
    (record {
      pending = λ q. ap (λ (x : Pending). option_map facts_of (map.get x q)) mp ∙ t.holds.pending q ∙ ap seen (sym (step.unissued_requeued setup es tag w.id t.legal f.by q));
      requests = requests_same (unissued_at setup es) (unissued_at setup fs) (step.unissued_requeued setup es tag w.id t.legal f.by) t.requests;
      are = as_with (seen_requeued setup es) (seen_requeued setup fs) requeue_lists hw w in_lists none step_is t.holds.requeued;
      once = once_unseen (requeued_at setup fs) (with_one requeue_lists hw w) (once_with (seen_requeued setup es) (seen_requeued setup fs) requeue_lists hw w in_lists none step_is (once_seen (requeued_at setup es) requeue_lists t.holds.requeued_once));
      count = omega arith;
      requeued_picks = λ d.
          let picks : requeued_of d (opened w.extent.dir m'.open_picks) ≡ requeued_of d (after_requeue w.extent.dir m.open_picks) = ap (λ (x : Meaning). requeued_of d x.open_picks) back in
          let before = opened_requeued d w.extent.dir m'.open_picks in
          let after = requeued_more d w.extent.dir m.open_picks in
          let counts = count_with (is_of d) requeue_lists hw w in_lists in
          let was = t.holds.requeued_picks d in
          omega arith;
      lists = length-set requeue_lists hw (get_or requeue_lists hw [] ++ w ∷ []) ∙ t.lists;
    }))

-- where a command is in flight, one more may be requeued
pub few_requeued : (setup : Setup) (es : List Happened) (m : Meaning) (fl : List TagState) (requeue_lists : List (List Waiting)) (rel tag hw : ℕ) (w : Waiting) → IsTied setup es m fl requeue_lists rel → get_or fl tag Free ≡ InFlight hw w → m.open_picks.requeued_reads + m.open_picks.requeued_writes < MAX_REQUEUED
few_requeued setup es m fl requeue_lists rel tag hw w t at =
    let f : InFlightAs setup es tag w = t.flown tag hw w at in
    let some = open_positive setup es tag t.legal (by_open es tag w.id f.by) in
    let room = t.legal.not_too_long in
    let waits = pending_is setup es m fl requeue_lists rel (map.len m.pending) (requeued_of Read m.open_picks) (requeued_of Write m.open_picks) t refl refl refl in
    let all = waits.0 in
    let few = waits.1 in
    omega arith
