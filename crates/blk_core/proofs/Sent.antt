-- What goes to the device, chosen or requeued: the core is tied after its Issue.
use Rattle.std.proofs.Common.{◌≡◌, ◌∙◌, sym, ap, subst, ℕ, ◌+◌, ◌<◌, arith, Bool, true, cond, List, [], ◌∷◌, ◌++◌, length, Some, None, get_or, set, ◌==◌}
use Rattle.std.proofs.lemmas.List.{length-set}
use Rattle.std.proofs.lemmas.List.Sums.{sum_by-set}
use Rattle.std.specs.Option.{option_map}
use Rattle.std.specs.FinMap as map
use Rattle.blk_bio.specs.declared.bio.Dir.{Dir}
use Rattle.blk_bio.specs.declared.bio.Dir.TheVariants.{Read, Write}
use Rattle.edd_commands.specs.declared.Command.{Command}
use Rattle.blk_bio.specs.Requests.{dir_of}
use Rattle.blk_trace.specs.Setups.{Setup}
use Rattle.blk_trace.specs.Depths.{depth_now}
use Rattle.blk_trace.specs.Happened.{Happened}
use Rattle.blk_trace.specs.declared.event.Event.TheVariants.{Issue}
use Rattle.blk_trace.specs.Meaning.{commands_of}
use Rattle.blk_trace.specs.Inside.Allowed.{IsAllowed}
use Rattle.blk_trace.specs.Waits.{Entered, waits_at, unissued_at, waiting_count}
use Rattle.blk_trace.specs.Inside.Seats.{seat_at}
use Rattle.blk_trace.specs.Setups.{same_dir}
use Rattle.blk_sched.specs.Meaning.{Waiting, Meaning, Pending, Picks, RequeuesPick, opened, after_requeue, requeued_of}
use Rattle.blk_queues.specs.Requeued.{requeued_total, requeued_count}
use Rattle.blk_core.specs.declared.tags.TagState.{TagState}
use Rattle.blk_core.specs.declared.tags.TagState.TheVariants.{Free, InFlight}
use Rattle.blk_sched.specs.Policies.{Choice}
use Rattle.blk_core.specs.Calls.{SendsFrom}
use Rattle.blk_core.specs.State.{facts_of, facts_in_trace, requeued_at, is_of, InFlightAs}
use Rattle.blk_core.proofs.Seen.{Facts, seen, seen_unissued, seen_requeued, seen_step, was_there, once_seen, once_unseen, requests_taken}
use Rattle.blk_core.specs.Inside.Ties.{IsTied, seat_of, flying}
use Rattle.blk_core.proofs.Pushed.{IsPushed, released-issued}
use Rattle.blk_core.proofs.Waits.{agree_taken, len_taken, still_none}
use Rattle.blk_core.proofs.Flights.{opened_reads, opened_writes, opened_requeued, requeued_reads, requeued_writes, requeued_more, seats_set, queues_set, flown_set}
use Rattle.blk_core.proofs.RequeueLists.{AreAs, AreOnce, as_same, once_same, none_gone, as_without, once_without, count_without, total_without, first_stands}
use Rattle.blk_core.proofs.Requeued.{requeued_from, unissued_not_requeued, requeued_not_unissued, requeued-issued}
use Rattle.blk_core.proofs.Flown.{flown_kept, flown_issued}
use Rattle.blk_core.proofs.Opens.{open_by_dir}
use Rattle.blk_core.proofs.Ties.{old_known, one_longer, tied_at, never_issued, waits_there}
use Rattle.blk_trace.proofs.Steps as step

-- one more pick of the direction is open
record IsOpened (m m' : Meaning) (dir : Dir) : Type 0 where
  reads : m'.open_picks.reads ≡ m.open_picks.reads + cond (same_dir Read dir) 1 0
  writes : m'.open_picks.writes ≡ m.open_picks.writes + cond (same_dir Write dir) 1 0

-- what the scheduler and the requeue lists hold once the request went
record IsSent (setup : Setup) (es fs : List Happened) (m' : Meaning) (requeue_lists' : List (List Waiting)) (rel : ℕ) : Type 0 where
  pending : (q : ℕ) → option_map facts_of (map.get m'.pending q) ≡ seen_unissued setup fs q
  fresh : (q : ℕ) → rel < q + 1 → map.get m'.pending q ≡ None
  are : AreAs (seen_requeued setup fs) requeue_lists'
  once : AreOnce (requeued_at setup fs) requeue_lists'
  count : map.len m'.pending + requeued_total requeue_lists' + 1 ≡ waiting_count es
  requeued_picks : (d : Dir) → requeued_of d m'.open_picks ≡ requeued_count (is_of d) requeue_lists'
  lists : length requeue_lists' ≡ setup.hw

tied_sent : (setup setup' : Setup) (es es' : List Happened) (m m' : Meaning) (fl : List TagState) (requeue_lists requeue_lists' : List (List Waiting)) (rel hw tag : ℕ) (w : Waiting) (e : Entered) → IsPushed setup es (Issue w.id tag) setup' es' → IsTied setup es m fl requeue_lists rel → waits_at setup es w.id ≡ Some e → facts_in_trace e ≡ facts_of w → IsOpened m m' w.extent.dir → IsSent setup es (es ++ Issue w.id tag ∷ []) m' requeue_lists' rel → tag < length fl → get_or fl tag Free ≡ Free → hw < setup.hw → IsTied setup' es' m' (set fl tag (InFlight hw w)) requeue_lists' rel
tied_sent setup setup' es es' m m' fl requeue_lists requeue_lists' rel hw tag w entry p t waits known o s lt none small =
    let fs : List Happened = es ++ Issue w.id tag ∷ [] in
    let f : TagState = InFlight hw w in
    let r0 : flying Read (get_or fl tag Free) ≡ 0 = ap (flying Read) none in
    let s0 : flying Write (get_or fl tag Free) ≡ 0 = ap (flying Write) none in
    let rs = sum_by-set (flying Read) fl tag f Free lt in
    let ss = sum_by-set (flying Write) fl tag f Free lt in
    let ro = o.reads in
    let so = o.writes in
    let dir_is : dir_of entry.bios ≡ w.extent.dir = ap (λ (x : Facts). x.1.1.dir) known in
    let of_reads : cond {A = ℕ} (same_dir Read (dir_of entry.bios)) 1 0 ≡ cond {A = ℕ} (same_dir Read w.extent.dir) 1 0 = ap (λ d. cond {A = ℕ} (same_dir Read d) 1 0) dir_is in
    let of_writes : cond {A = ℕ} (same_dir Write (dir_of entry.bios)) 1 0 ≡ cond {A = ℕ} (same_dir Write w.extent.dir) 1 0 = ap (λ d. cond {A = ℕ} (same_dir Write d) 1 0) dir_is in
    let rn = step.open-issued setup es w.id tag p.legal entry waits Read in
    let sn = step.open-issued setup es w.id tag p.legal entry waits Write in
    let tr = t.reads in let tw = t.writes in let hr = t.holds.reads in let hs = t.holds.writes in
    let br = open_by_dir es Read in let bs = open_by_dir es Write in
    let ar = open_by_dir fs Read in let aw = open_by_dir fs Write in
    let l : length (set fl tag f) ≡ length fl = length-set fl tag f in
    let longer = one_longer es (Issue w.id tag) in
    let count = step.count-issued setup es w.id tag p.legal in
    let sent = s.count in
    let more = released-issued es w.id tag in
    let next = t.next in
    let few = t.few in
    tied_at setup setup' es es' (Issue w.id tag) m' (set fl tag f) requeue_lists' rel p
    (record {
      legal = p.legal;
      ranges = t.ranges;
      holds = record {
        pending = s.pending;
        requeued = s.are;
        requeued_once = s.once;
        count = omega arith;
        reads = omega arith;
        writes = omega arith;
        requeued_picks = s.requeued_picks;
      };
      next = omega arith;
      few = omega arith;
      known = old_known es (Issue w.id tag) rel (λ i b e. cc) t.known;
      requests = requests_taken (unissued_at setup es) (unissued_at setup fs) w.id (step.unissued-issued setup es w.id tag p.legal) t.requests;
      fresh = λ q h. s.fresh q (omega arith);
      room = l ∙ t.room;
      lists = s.lists;
      seats = λ q h. seats_set (seat_at es) (seat_at fs) fl tag f lt t.seats
          (subst (λ d. (k : ℕ) → seat_at fs k ≡ cond (tag == k) (Some (record { dir = d; in_flight = true })) (seat_at es k)) dir_is (step.seat-issued setup es w.id tag p.legal entry waits)) q (omega arith);
      flown = flown_set (InFlightAs setup es) (InFlightAs setup fs) fl tag f lt
          (λ u v ne was. flown_kept setup es (Issue w.id tag) u v p.legal (λ e. absurd (cc)) was)
          (λ h v e. subst (λ x. InFlightAs setup fs tag x) (same_request h v e) (flown_issued setup es tag w entry p.legal waits known))
          t.flown;
      reads = omega arith;
      writes = omega arith;
      queues = queues_set setup.hw fl tag f lt small t.queues;
    })
  where
    same_request : (h : ℕ) (v : Waiting) → ◌≡◌ {A = TagState} (InFlight hw w) (InFlight h v) → w ≡ v
    same_request h v e = cc

-- the scheduler's choice goes
picked_goes : (setup : Setup) (es : List Happened) (m m' : Meaning) (fl : List TagState) (requeue_lists : List (List Waiting)) (rel hw tag : ℕ) (serves : ℕ → Waiting → Bool) (w : Waiting) → (let fs : List Happened = es ++ Issue w.id tag ∷ [] in (q : ℕ) → unissued_at setup fs q ≡ cond (w.id == q) None (unissued_at setup es q)) → (let fs : List Happened = es ++ Issue w.id tag ∷ [] in (q : ℕ) → requeued_at setup fs q ≡ cond (w.id == q) None (requeued_at setup es q)) → IsTied setup es m fl requeue_lists rel → Picks serves hw m w m' → IsSent setup es (es ++ Issue w.id tag ∷ []) m' requeue_lists rel
picked_goes setup es m m' fl requeue_lists rel hw tag serves w unissued requeued t picks =
    let fs : List Happened = es ++ Issue w.id tag ∷ [] in
    let mp : m'.pending ≡ map.remove m.pending w.id = ap (λ (x : Meaning). x.pending) picks.2 in
    let mo : m'.open_picks ≡ opened w.extent.dir m.open_picks = ap (λ (x : Meaning). x.open_picks) picks.2 in
    let none : requeued_at setup es w.id ≡ None = (let was = never_issued setup es m fl requeue_lists rel w.id w t picks.0 in unissued_not_requeued setup es w.id was.0 was.1) in
    let same : (q : ℕ) → requeued_at setup fs q ≡ requeued_at setup es q = none_gone (requeued_at setup es) (requeued_at setup fs) w.id none requeued in
    let had = t.holds.count in
    let len = len_taken m.pending w.id w picks.0 in
    let now : map.len m'.pending ≡ map.len (map.remove m.pending w.id) = ap map.len mp in
    record {
      pending = λ q. ap (λ (x : Pending). option_map facts_of (map.get x q)) mp ∙ agree_taken m.pending (seen_unissued setup es) (seen_unissued setup fs) w.id t.holds.pending (λ k. seen_step (unissued_at setup fs k) (w.id == k) None (unissued_at setup es k) (unissued k)) q;
      fresh = λ q h. ap (λ (x : Pending). map.get x q) mp ∙ still_none m.pending w.id q (t.fresh q (omega arith));
      are = as_same (seen_requeued setup es) (seen_requeued setup fs) requeue_lists (λ q. ap seen (same q)) t.holds.requeued;
      once = once_same (requeued_at setup es) (requeued_at setup fs) requeue_lists same t.holds.requeued_once;
      count = omega arith;
      requeued_picks = λ d. ap (requeued_of d) mo ∙ opened_requeued d w.extent.dir m.open_picks ∙ t.holds.requeued_picks d;
      lists = t.lists;
    }

picked_opened : (serves : ℕ → Waiting → Bool) (hw : ℕ) (m m' : Meaning) (w : Waiting) → Picks serves hw m w m' → IsOpened m m' w.extent.dir
picked_opened serves hw m m' w picks = record {
  reads = ap (λ (x : Meaning). x.open_picks.reads) picks.2 ∙ opened_reads w.extent.dir m.open_picks;
  writes = ap (λ (x : Meaning). x.open_picks.writes) picks.2 ∙ opened_writes w.extent.dir m.open_picks;
}

-- the first of a requeue list goes
again_goes : (setup : Setup) (es : List Happened) (m m' : Meaning) (fl : List TagState) (requeue_lists : List (List Waiting)) (rel hw tag : ℕ) (w : Waiting) (rest : List Waiting) → (let fs : List Happened = es ++ Issue w.id tag ∷ [] in (q : ℕ) → unissued_at setup fs q ≡ cond (w.id == q) None (unissued_at setup es q)) → (let fs : List Happened = es ++ Issue w.id tag ∷ [] in (q : ℕ) → requeued_at setup fs q ≡ cond (w.id == q) None (requeued_at setup es q)) → IsTied setup es m fl requeue_lists rel → hw < length requeue_lists → get_or requeue_lists hw [] ≡ w ∷ rest → RequeuesPick w.extent.dir m' m → IsSent setup es (es ++ Issue w.id tag ∷ []) m' (set requeue_lists hw rest) rel
again_goes setup es m m' fl requeue_lists rel hw tag w rest unissued requeued t lt is back =
    let fs : List Happened = es ++ Issue w.id tag ∷ [] in
    let mp : m'.pending ≡ m.pending = sym (ap (λ (x : Meaning). x.pending) back) in
    let stands = was_there (requeued_at setup es w.id) (facts_of w) (t.holds.requeued hw 0 w (first_stands requeue_lists hw w rest is)) in
    let seen_gone : (q : ℕ) → seen_requeued setup fs q ≡ cond (w.id == q) None (seen_requeued setup es q) = λ q. seen_step (requeued_at setup fs q) (w.id == q) None (requeued_at setup es q) (requeued q) in
    let once = once_seen (requeued_at setup es) requeue_lists t.holds.requeued_once in
    let same : (q : ℕ) → unissued_at setup fs q ≡ unissued_at setup es q = none_gone (unissued_at setup es) (unissued_at setup fs) w.id (requeued_not_unissued setup es w.id stands.0 stands.1) unissued in
    let had = t.holds.count in
    let len : map.len m'.pending ≡ map.len m.pending = ap map.len mp in
    let fewer = total_without requeue_lists hw w rest lt is in
    record {
      pending = λ q. ap (λ (x : Pending). option_map facts_of (map.get x q)) mp ∙ t.holds.pending q ∙ ap seen (sym (same q));
      fresh = λ q h. ap (λ (x : Pending). map.get x q) mp ∙ t.fresh q (omega arith);
      are = as_without (seen_requeued setup es) (seen_requeued setup fs) requeue_lists hw w rest lt is seen_gone t.holds.requeued once;
      once = once_unseen (requeued_at setup fs) (set requeue_lists hw rest) (once_without (seen_requeued setup es) (seen_requeued setup fs) requeue_lists hw w rest lt is seen_gone t.holds.requeued once);
      count = omega arith;
      requeued_picks = λ d.
          let picks : requeued_of d (opened w.extent.dir m.open_picks) ≡ requeued_of d (after_requeue w.extent.dir m'.open_picks) = ap (λ (x : Meaning). requeued_of d x.open_picks) back in
          let before = opened_requeued d w.extent.dir m.open_picks in
          let after = requeued_more d w.extent.dir m'.open_picks in
          let counts = count_without (is_of d) requeue_lists hw w rest lt is in
          let was = t.holds.requeued_picks d in
          omega arith;
      lists = length-set requeue_lists hw rest ∙ t.lists;
    }

again_opened : (m m' : Meaning) (dir : Dir) → RequeuesPick dir m' m → IsOpened m m' dir
again_opened m m' dir back = record {
  reads = sym (requeued_reads dir m'.open_picks) ∙ sym (ap (λ (x : Meaning). x.open_picks.reads) back) ∙ opened_reads dir m.open_picks;
  writes = sym (requeued_writes dir m'.open_picks) ∙ sym (ap (λ (x : Meaning). x.open_picks.writes) back) ∙ opened_writes dir m.open_picks;
}

-- a request that goes waits in the trace
pub sent_waits : (setup : Setup) (es : List Happened) (m m' : Meaning) (fl : List TagState) (requeue_lists requeue_lists' : List (List Waiting)) (rel : ℕ) (serves : ℕ → Waiting → Bool) (chooses : Choice) (kept kept' : List ℕ) (hw round : ℕ) (w : Waiting) (own : List Waiting) → IsTied setup es m fl requeue_lists rel → get_or requeue_lists hw [] ≡ own → SendsFrom serves chooses hw round own m kept requeue_lists w m' kept' requeue_lists' → (e : Entered) × (waits_at setup es w.id ≡ Some e) × (facts_in_trace e ≡ facts_of w)
sent_waits setup es m m' fl requeue_lists requeue_lists' rel serves chooses kept kept' hw round w [] t is sends = waits_there setup es m fl requeue_lists rel w.id w t sends.0.0
sent_waits setup es m m' fl requeue_lists requeue_lists' rel serves chooses kept kept' hw round w (first ∷ rest) t is sends =
    let was = was_there (requeued_at setup es w.id) (facts_of w) (t.holds.requeued hw 0 w (first_stands requeue_lists hw w rest (is ∙ ap (λ x. x ∷ rest) sends.0))) in
    (was.0, (requeued_from setup es w.id was.0 was.1).1, was.2)

-- after an issue the core is tied
pub tied_issue : (setup setup' : Setup) (es es' : List Happened) (m m' : Meaning) (fl : List TagState) (requeue_lists requeue_lists' : List (List Waiting)) (rel : ℕ) (serves : ℕ → Waiting → Bool) (chooses : Choice) (kept kept' : List ℕ) (hw round tag : ℕ) (w : Waiting) (own : List Waiting) → IsPushed setup es (Issue w.id tag) setup' es' → IsTied setup es m fl requeue_lists rel → get_or requeue_lists hw [] ≡ own → SendsFrom serves chooses hw round own m kept requeue_lists w m' kept' requeue_lists' → tag < length fl → get_or fl tag Free ≡ Free → hw < setup.hw → IsTied setup' es' m' (set fl tag (InFlight hw w)) requeue_lists' rel
tied_issue setup setup' es es' m m' fl requeue_lists requeue_lists' rel serves chooses kept kept' hw round tag w [] p t is sends lt none small =
    let waits = sent_waits setup es m m' fl requeue_lists requeue_lists' rel serves chooses kept kept' hw round w [] t is sends in
    subst (λ x. IsTied setup' es' m' (set fl tag (InFlight hw w)) x rel) (sym sends.2)
    (tied_sent setup setup' es es' m m' fl requeue_lists requeue_lists rel hw tag w waits.0 p t waits.1 waits.2 (picked_opened serves hw m m' w sends.0)
    (picked_goes setup es m m' fl requeue_lists rel hw tag serves w (step.unissued-issued setup es w.id tag p.legal) (requeued-issued setup es w.id tag p.legal) t sends.0) lt none small)
tied_issue setup setup' es es' m m' fl requeue_lists requeue_lists' rel serves chooses kept kept' hw round tag w (first ∷ rest) p t is sends lt none small =
    let waits = sent_waits setup es m m' fl requeue_lists requeue_lists' rel serves chooses kept kept' hw round w (first ∷ rest) t is sends in
    let lists = t.lists in
    subst (λ x. IsTied setup' es' m' (set fl tag (InFlight hw w)) x rel) (sym sends.3)
    (tied_sent setup setup' es es' m m' fl requeue_lists (set requeue_lists hw rest) rel hw tag w waits.0 p t waits.1 waits.2 (again_opened m m' w.extent.dir sends.1)
    (again_goes setup es m m' fl requeue_lists rel hw tag w rest (step.unissued-issued setup es w.id tag p.legal) (requeued-issued setup es w.id tag p.legal) t (omega arith) (is ∙ ap (λ x. x ∷ rest) sends.0) sends.1) lt none small)

-- what goes is an Issue that the trace allows
pub issue_allowed : (setup : Setup) (es : List Happened) (m : Meaning) (fl : List TagState) (requeue_lists : List (List Waiting)) (rel tag id : ℕ) (e : Entered) → IsTied setup es m fl requeue_lists rel → waits_at setup es id ≡ Some e → tag < depth_now setup es → tag < length fl → get_or fl tag Free ≡ Free → IsAllowed setup es (Issue id tag)
issue_allowed setup es m fl requeue_lists rel tag id e t waits below lt none =
    (e, waits, below, sym (t.seats tag lt) ∙ ap seat_of none)

-- its command is the last one
pub last_command : (setup setup' : Setup) (es es' : List Happened) (tag : ℕ) (w : Waiting) (e : Entered) → IsPushed setup es (Issue w.id tag) setup' es' → waits_at setup es w.id ≡ Some e → facts_in_trace e ≡ facts_of w → commands_of setup' es' ≡ commands_of setup es ++ record { id = w.id; release = w.release; due = w.due } ∷ []
last_command setup setup' es es' tag w e p waits known =
    ap (λ s. commands_of s es') p.same ∙ ap (commands_of setup) p.added
    ∙ step.commands-issued setup es w.id tag p.legal e waits
    ∙ ap (λ (x : Facts). commands_of setup es ++ (let y : Command = record { id = w.id; release = x.0; due = x.1.0 } in y) ∷ []) known

-- what goes in the round that the code reads
pub sends_at : (serves : ℕ → Waiting → Bool) (chooses : Choice) (hw now round : ℕ) (own : List Waiting) (m m' : Meaning) (kept kept' : List ℕ) (requeue_lists requeue_lists' : List (List Waiting)) (w : Waiting) → now ≡ round → SendsFrom serves chooses hw now own m kept requeue_lists w m' kept' requeue_lists' → SendsFrom serves chooses hw round own m kept requeue_lists w m' kept' requeue_lists'
sends_at serves chooses hw now round own m m' kept kept' requeue_lists requeue_lists' w now_is sends = subst (λ n. SendsFrom serves chooses hw n own m kept requeue_lists w m' kept' requeue_lists') now_is sends
