-- A trace to which an event was added, and what that leaves of its list.
use Rattle.std.proofs.Common.{◌≡◌, ◌∙◌, sym, ap, subst, refl, inl, inr, ℕ, ◌+◌, ◌≤◌, zero, suc, arith, List, [], ◌∷◌, ◌++◌, length, Some, None, ◌⊎◌}
use Rattle.std.specs.List.{slice_get}
use Rattle.blk_bio.specs.Bios.{Bio}
use Rattle.blk_trace.specs.declared.trace.Prepared.{Prepared}
use Rattle.blk_trace.specs.Setups.{Setup}
use Rattle.blk_trace.specs.Happened.{Happened}
use Rattle.blk_trace.specs.declared.event.Event.TheVariants.{Tick, Release, Join, Issue, Done, Back, Depth}
use Rattle.blk_trace.specs.declared.trace.TheConstants.{MAX_EVENTS}
use Rattle.blk_trace.specs.Rules.{BreaksNoRule}
use Rattle.blk_trace.specs.Events.{open_count}
use Rattle.blk_trace.specs.Legal.{IsLegalTrace}
use Rattle.blk_trace.specs.Meaning.{released_ids}
use Rattle.blk_trace.specs.Waits.{released_count}
use Rattle.blk_trace.specs.Inside.Allowed.{IsAllowed, places_of}
use Rattle.blk_trace.specs.Traces.{Traced, IsPreparedFor}
use Rattle.blk_trace.proofs.Steps.{allowed-unbroken}

-- one more event, with which the list is legal
pub record IsPushed (setup : Setup) (events : List Happened) (e : Happened) (setup' : Setup) (events' : List Happened) : Type 0 where
  pub same : setup' ≡ setup
  pub added : events' ≡ events ++ e ∷ []
  pub legal : IsLegalTrace setup (events ++ e ∷ [])

-- what was made ready and then added to
pub pushed : (setup : Setup) (events : List Happened) (ready new : Traced) (e : Happened) (p q : Prepared) → ready ≡ record { setup = setup; events = events; prepared = p } → new ≡ record { setup = ready.setup; events = ready.events ++ e ∷ []; prepared = q } → IsLegalTrace ready.setup (ready.events ++ e ∷ []) → IsPushed setup events e new.setup new.events
pushed setup events ready new e p q is added legal =
    let s : ready.setup ≡ setup = ap (λ (t : Traced). t.setup) is in
    let l : ready.events ≡ events = ap (λ (t : Traced). t.events) is in
    record {
      same = ap (λ (t : Traced). t.setup) added ∙ s;
      added = ap (λ (t : Traced). t.events) added ∙ ap (λ x. x ++ e ∷ []) l;
      legal = subst (λ x. IsLegalTrace setup (x ++ e ∷ [])) l (subst (λ x. IsLegalTrace x (ready.events ++ e ∷ [])) s legal);
    }

-- the same of a trace that was not made ready
pub pushed_at_once : (old new : Traced) (e : Happened) (q : Prepared) → new ≡ record { setup = old.setup; events = old.events ++ e ∷ []; prepared = q } → IsLegalTrace old.setup (old.events ++ e ∷ []) → IsPushed old.setup old.events e new.setup new.events
pushed_at_once old new e q added legal = record { same = ap (λ (t : Traced). t.setup) added; added = ap (λ (t : Traced). t.events) added; legal = legal }

-- an event that is allowed, and for which there is a place, breaks no rule of the trace that was made ready
pub unbroken : (setup : Setup) (es : List Happened) (ready : Traced) (p : Prepared) (e : Happened) → ready ≡ record { setup = setup; events = es; prepared = p } → IsLegalTrace setup es → IsAllowed setup es e → length es + open_count es + places_of e ≤ MAX_EVENTS → BreaksNoRule ready.setup ready.events e
unbroken setup es ready p e is legal allowed room = subst (λ (t : Traced). BreaksNoRule t.setup t.events e) (sym is) (allowed-unbroken setup es e legal allowed room)

-- and room for it was made
pub ready_for : (setup : Setup) (es : List Happened) (ready : Traced) (p : Prepared) (e : Happened) → ready ≡ record { setup = setup; events = es; prepared = p } → IsPreparedFor p e → IsPreparedFor ready.prepared e
ready_for setup es ready p e is made = subst (λ (t : Traced). IsPreparedFor t.prepared e) (sym is) made

-- what stands in a list with one more
pub get_more : {X : Type 0} (xs : List X) (y : X) (k : ℕ) (x : X) → slice_get (xs ++ y ∷ []) k ≡ Some x → (slice_get xs k ≡ Some x) ⊎ ((k ≡ length xs) × (y ≡ x))
get_more [] y zero x h = inr (refl, (let e : y ≡ x = cc in e))
get_more [] y (suc k) x h = absurd (let e : None ≡ Some x = h in cc)
get_more (z ∷ xs) y zero x h = inl h
get_more (z ∷ xs) y (suc k) x h = elim (get_more xs y k x h) [ inl a ↦ inl a | inr b ↦ inr ((let e = b.0 in omega arith), b.1) ]

-- how many were released
pub released_more : (es : List Happened) (e : Happened) → released_count (es ++ e ∷ []) ≡ released_count es + released_count (e ∷ [])
unfolding released_ids
released_more [] e = omega arith
released_more (Release id bios ∷ es) e = let h = released_more es e in omega arith
released_more (x ∷ es) e = released_more es e

pub released-released : (es : List Happened) (id : ℕ) (bios : List Bio) → released_count (es ++ Release id bios ∷ []) ≡ released_count es + 1
unfolding released_ids
released-released es id bios = released_more es (Release id bios)

pub released-joined : (es : List Happened) (id : ℕ) (bios : List Bio) → released_count (es ++ Join id bios ∷ []) ≡ released_count es
unfolding released_ids
released-joined es id bios = let h = released_more es (Join id bios) in omega arith

pub released-issued : (es : List Happened) (id tag : ℕ) → released_count (es ++ Issue id tag ∷ []) ≡ released_count es
unfolding released_ids
released-issued es id tag = let h = released_more es (Issue id tag) in omega arith

pub released-finished : (es : List Happened) (tag : ℕ) → released_count (es ++ Done tag ∷ []) ≡ released_count es
unfolding released_ids
released-finished es tag = let h = released_more es (Done tag) in omega arith

pub released-requeued : (es : List Happened) (tag : ℕ) → released_count (es ++ Back tag ∷ []) ≡ released_count es
unfolding released_ids
released-requeued es tag = let h = released_more es (Back tag) in omega arith

pub released-set : (es : List Happened) (depth : ℕ) → released_count (es ++ Depth depth ∷ []) ≡ released_count es
unfolding released_ids
released-set es depth = let h = released_more es (Depth depth) in omega arith

pub released-ticked : (es : List Happened) → released_count (es ++ Tick ∷ []) ≡ released_count es
unfolding released_ids
released-ticked es = let h = released_more es Tick in omega arith
