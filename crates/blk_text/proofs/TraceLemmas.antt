-- The records of all events make the text of a trace.
use Rattle.std.proofs.Common.{◌≡◌, ◌<◌, ◌≤◌, ◌+◌, ◌∷◌, ◌∙◌, [], ℕ, Result, Ok, Err, length, take, List, get_or, refl, sym, ap, arith, subst, ⊎_elim}
use Rattle.std.specs.Prelude.{slice_get, All, IfOk}
use Rattle.std.specs.List.{flat_map}
use Rattle.std.proofs.lemmas.List.{length-append, take_all}
use Rattle.std.proofs.lemmas.List.Elements.{All-more}
use Rattle.std.proofs.lemmas.Option.{slice_get_read}
use Rattle.blk_bio.specs.Bios.{Bio}
use Rattle.blk_bio.specs.Limits.{Limits, IsLimits}
use Rattle.blk_bio.specs.Requests.{IsWithin, joined}
use Rattle.blk_bio.specs.declared.request.Side.{Side}
use Rattle.blk_bio.specs.declared.request.Side.TheVariants.{Back, Front}
use Rattle.blk_trace.specs.Events.{At, bios_of, request_of}
use Rattle.blk_trace.specs.Happened.{Happened}
use Rattle.blk_trace.specs.declared.event.Event.TheVariants.{Release, Join}
use Rattle.blk_trace.specs.Legal.{IsLegalTrace}
use Rattle.blk_trace.specs.Setups.{Setup}
use Rattle.blk_trace.specs.Traces.{Traced}
use Rattle.blk_text.specs.SetupRecord.{setup_row}
use Rattle.blk_records.specs.Texts.{rows_text}
use Rattle.blk_text.specs.Inside.TraceRecords.{event_rows, title_row}
use Rattle.blk_text.specs.TraceRecords.{EventFits}
use Rattle.blk_records.proofs.DraftLemmas.{IsSoFar}
use Rattle.blk_bio.specs.declared.limits.TheConstants.{MAX_SEGMENTS}

pub all_events : (has : List ℕ) (t : Traced) (events : List Happened) (i : ℕ) → length events ≤ i
    → events ≡ t.events
    → IsSoFar event_rows [] (title_row t.setup (length events) ∷ setup_row t.setup ∷ []) events i has
    → has ≡ rows_text (title_row t.setup (length t.events) ∷ setup_row t.setup ∷ flat_map event_rows t.events)
all_events has t events i l m a =
    rw (← m) (rw (take_all i events l) at a)

within : (l : Limits) (bios : List Bio) → IsLimits l → IsWithin l bios → length bios ≤ MAX_SEGMENTS
within l bios i w = ⊎_elim (λ e. omega (arith, e)) (λ h. omega (arith, h.1, i.few_segments)) w

-- each group of a legal list of events has at most 128 bios
pub few_bios : (setup : Setup) (events : List Happened) (k : ℕ) (e : Happened) → IsLimits setup.limits → IsLegalTrace setup events → At events k e → length (bios_of e) ≤ MAX_SEGMENTS
few_bios setup events k (Release id bios) i l at = within setup.limits bios i (l.release_within k id bios at)
few_bios setup events k (Join id bios) i l at =
    let f = l.join_fits k id bios at in
    omega (arith, within setup.limits (joined (request_of (take k events) id) bios f.0) i f.1.within, both (request_of (take k events) id) bios f.0)
  where
    both : (old more : List Bio) (s : Side) → length more ≤ length (joined old more s)
    both old more Back = omega (arith, length-append old more)
    both old more Front = omega (arith, length-append more old)
few_bios setup events k e i l at = omega arith

-- the same of an event that was looked up
pub few_at : (t : Traced) (events : List Happened) (k : ℕ) (e : Happened) → IsLimits t.setup.limits → IsLegalTrace t.setup t.events → events ≡ t.events
    → k < length events → e ≡ get_or events k e → length (bios_of e) ≤ MAX_SEGMENTS
few_at t events k e i l m lt is =
    few_bios t.setup t.events k e i l (ap (λ h. slice_get h k) (sym m) ∙ slice_get_read events (length events) k e refl lt is)

-- one more event whose numbers lie in their ranges
pub one_fits : {X : Type 0} (P : X → Type 0) (xs : List X) (i : ℕ) (x : X) → i < length xs → x ≡ get_or xs i x → All P (take i xs) → P x → All P (take (i + 1) xs)
one_fits P xs i x lt is h p = All-more P xs i x lt h (subst P is p)

-- then all do
pub all_fit : (t : Traced) (events : List Happened) (i : ℕ) → length events ≤ i → events ≡ t.events → All EventFits (take i events) → All EventFits t.events
all_fit t events i l m h = rw (← m) (rw (take_all i events l) at h)

-- what holds anyhow holds where the answer is Ok
pub if_ok : {T E H : Type 0} (r : Result T E) → H → IfOk r (λ _. H)
if_ok (Ok _) h = h
if_ok (Err _) h = tt
