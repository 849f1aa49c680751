-- A command in flight is known to the trace, after one more event.
use Rattle.std.proofs.Common.{◌≡◌, ◌∙◌, sym, ap, refl, ℕ, List, [], ◌∷◌, ◌++◌, Some}
use Rattle.blk_trace.specs.Happened.{Happened}
use Rattle.blk_trace.specs.declared.event.Event.TheVariants.{Issue}
use Rattle.blk_trace.specs.Kinds.{ends}
use Rattle.blk_trace.specs.Setups.{Setup}
use Rattle.blk_trace.specs.Legal.{IsLegalTrace}
use Rattle.blk_trace.specs.Waits.{Entered, entered_at, waits_at}
use Rattle.blk_trace.proofs.Pushing.{shorter_legal, obeys}
use Rattle.blk_trace.proofs.Entering.{IsSame, same_entered, stays_out}
use Rattle.blk_trace.proofs.Waiting.{IsWaiting, waiting_from}
use Rattle.blk_trace.proofs.Requeues.{open_issued}
use Rattle.blk_trace.proofs.TagUses.{still_by, now_by}
use Rattle.blk_sched.specs.Meaning.{Waiting}
use Rattle.blk_core.specs.State.{facts_of, facts_in_trace, InFlightAs}

-- an event that does not end its Issue
pub flown_kept : (setup : Setup) (es : List Happened) (e : Happened) (tag : ℕ) (w : Waiting) → IsLegalTrace setup (es ++ e ∷ []) → (ends e ≡ Some tag → ⊥) → InFlightAs setup es tag w → InFlightAs setup (es ++ e ∷ []) tag w
flown_kept setup es e tag w legal other f =
    let old = shorter_legal setup es e legal in
    let same : IsSame setup es (es ++ e ∷ []) w.id = same_entered setup es e w.id (stays_out setup es e w.id old (obeys setup es e legal) (open_issued es tag w.id f.by)) in
    let entry : entered_at setup (es ++ e ∷ []) w.id ≡ entered_at setup es w.id = rw (same.release, same.due, same.request) refl in
    record { by = still_by es e tag w.id other f.by; known = f.known ∙ ap facts_in_trace (sym entry) }

-- its Issue
pub flown_issued : (setup : Setup) (es : List Happened) (tag : ℕ) (w : Waiting) (e : Entered) → IsLegalTrace setup (es ++ Issue w.id tag ∷ []) → waits_at setup es w.id ≡ Some e → facts_in_trace e ≡ facts_of w → InFlightAs setup (es ++ Issue w.id tag ∷ []) tag w
flown_issued setup es tag w e legal waits known =
    let was : IsWaiting setup es w.id e = waiting_from setup es w.id e waits in
    let same : IsSame setup es (es ++ Issue w.id tag ∷ []) w.id = same_entered setup es (Issue w.id tag) w.id refl in
    let entry : entered_at setup (es ++ Issue w.id tag ∷ []) w.id ≡ entered_at setup es w.id = rw (same.release, same.due, same.request) refl in
    let here : e ≡ entered_at setup es w.id = rw (← was.release_is, ← was.due_is, ← was.bios_is) refl in
    record { by = now_by es w.id tag; known = sym known ∙ ap facts_in_trace (here ∙ sym entry) }
