-- What a scheduler knows of a request, beside what the trace says of it.
use Rattle.std.proofs.Common.{◌≡◌, ◌∙◌, sym, ap, subst, refl, ℕ, Bool, true, false, cond, List, Option, Some, None, is_some, ◌==◌}
use Rattle.std.specs.Option.{option_map}
use Rattle.blk_bio.specs.declared.request.Side.{Side}
use Rattle.blk_bio.specs.Bios.{Bio}
use Rattle.blk_bio.specs.Limits.{Limits}
use Rattle.blk_bio.specs.Requests.{IsRequest, Fits}
use Rattle.blk_bio.specs.Extents.{Extent, FitAt, extent_of, extent_joined}
use Rattle.blk_bio.proofs.Fitting.{from_extents}
use Rattle.blk_trace.specs.Setups.{Setup}
use Rattle.blk_trace.specs.Happened.{Happened}
use Rattle.blk_trace.specs.Events.{join_up}
use Rattle.blk_trace.specs.Waits.{Entered, unissued_at}
use Rattle.blk_trace.proofs.Joining.{together_is}
use Rattle.blk_sched.specs.Meaning.{Waiting, joined_waiting}
use Rattle.blk_core.specs.State.{facts_of, facts_in_trace, requeued_at, is_named}
use Rattle.blk_queues.specs.Requeued.{requeued_count}

-- a release, a due round and an extent
abbrev pub Facts : Type 0
Facts = ℕ × (ℕ × Extent)

-- what a scheduler may know of a request that the trace has
abbrev pub seen : Option Entered → Option Facts
seen o = option_map facts_in_trace o

abbrev pub seen_unissued : Setup → List Happened → ℕ → Option Facts
seen_unissued setup es id = seen (unissued_at setup es id)

abbrev pub seen_requeued : Setup → List Happened → ℕ → Option Facts
seen_requeued setup es id = seen (requeued_at setup es id)

-- what is known of one that was given or taken
pub seen_step : (V : Option Entered) (b : Bool) (x y : Option Entered) → V ≡ cond b x y → seen V ≡ cond b (seen x) (seen y)
seen_step V true x y is = ap seen is
seen_step V false x y is = ap seen is

pub some_seen : (o : Option Entered) → is_some (seen o) ≡ is_some o
some_seen None = refl
some_seen (Some e) = refl

-- where something is known the trace has it
pub was_there : (o : Option Entered) (f : Facts) → seen o ≡ Some f → (e : Entered) × (o ≡ Some e) × (facts_in_trace e ≡ f)
was_there None f h = absurd (cc)
was_there (Some e) f h = (e, refl, (let x : Some (facts_in_trace e) ≡ Some f = h in cc))

-- each is a request
abbrev pub AreRequests : (ℕ → Option Entered) → Type 0
AreRequests U = (id : ℕ) (e : Entered) → U id ≡ Some e → IsRequest e.bios

pub requests_same : (U V : ℕ → Option Entered) → ((q : ℕ) → V q ≡ U q) → AreRequests U → AreRequests V
requests_same U V same h id e at = h id e (sym (same id) ∙ at)

one_of : (b : Bool) (x : Entered) (y : Option Entered) (e : Entered) → IsRequest x.bios → (y ≡ Some e → IsRequest e.bios) → cond b (Some x) y ≡ Some e → IsRequest e.bios
one_of true x y e is h at = subst (λ (z : Entered). IsRequest z.bios) (let s : x ≡ e = cc in s) is
one_of false x y e is h at = h at

pub requests_given : (U V : ℕ → Option Entered) (id : ℕ) (x : Entered) → ((q : ℕ) → V q ≡ cond (id == q) (Some x) (U q)) → IsRequest x.bios → AreRequests U → AreRequests V
requests_given U V id x step is h q e at = one_of (id == q) x (U q) e is (h q e) (sym (step q) ∙ at)

fewer : (b : Bool) (y : Option Entered) (e : Entered) → (y ≡ Some e → IsRequest e.bios) → cond b None y ≡ Some e → IsRequest e.bios
fewer true y e h at = absurd (let x : ◌≡◌ {A = Option Entered} None (Some e) = at in cc)
fewer false y e h at = h at

pub requests_taken : (U V : ℕ → Option Entered) (id : ℕ) → ((q : ℕ) → V q ≡ cond (id == q) None (U q)) → AreRequests U → AreRequests V
requests_taken U V id step h q e at = fewer (id == q) (U q) e (h q e) (sym (step q) ∙ at)

-- what is known of a request once a newcomer has joined it is what the trace then says
pub joined_seen : (limits : Limits) (e : Entered) (w : Waiting) (bios : List Bio) (now round : ℕ) (side : Side) → facts_in_trace e ≡ facts_of w → now ≡ round → IsRequest e.bios → IsRequest bios → FitAt limits w.extent (extent_of bios) side
    → facts_of (joined_waiting side now (extent_of bios) w) ≡ facts_in_trace record { release = round; due = e.due; bios = join_up e.bios bios }
joined_seen limits e w bios now round side known now_is is more fit =
    let f : Fits limits e.bios bios side = from_extents limits w.extent (extent_of bios) e.bios bios side (sym (ap (λ (x : Facts). x.1.1) known)) refl is more fit in
    let t = together_is limits e.bios bios side is more f in
    let x : extent_of e.bios ≡ w.extent = ap (λ (x : Facts). x.1.1) known in
    let d : e.due ≡ w.due = ap (λ (x : Facts). x.1.0) known in
    ap (λ (n : ℕ). let y : Facts = (n, (w.due, extent_joined w.extent (extent_of bios) side)) in y) now_is
    ∙ ap (λ (n : ℕ). let y : Facts = (round, (n, extent_joined w.extent (extent_of bios) side)) in y) (sym d)
    ∙ ap (λ (z : Extent). let y : Facts = (round, (e.due, extent_joined z (extent_of bios) side)) in y) (sym x)
    ∙ ap (λ (z : Extent). let y : Facts = (round, (e.due, z)) in y) t

-- what stands once by the trace stands once by what is known of it
pub once_seen : (R : ℕ → Option Entered) (requeue_lists : List (List Waiting)) → ((id : ℕ) → requeued_count (is_named id) requeue_lists ≡ cond (is_some (R id)) 1 0) → (id : ℕ) → requeued_count (is_named id) requeue_lists ≡ cond (is_some (seen (R id))) 1 0
once_seen R requeue_lists h id = h id ∙ ap (λ b. cond b 1 0) (sym (some_seen (R id)))

pub once_unseen : (R : ℕ → Option Entered) (requeue_lists : List (List Waiting)) → ((id : ℕ) → requeued_count (is_named id) requeue_lists ≡ cond (is_some (seen (R id))) 1 0) → (id : ℕ) → requeued_count (is_named id) requeue_lists ≡ cond (is_some (R id)) 1 0
once_unseen R requeue_lists h id = h id ∙ ap (λ b. cond b 1 0) (some_seen (R id))
