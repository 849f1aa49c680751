-- Scripts by rounds, from their start to their end.
use Rattle.std.proofs.Common.{◌≡◌, ◌<◌, ℕ, zero, suc, List, [], ◌∷◌, get_or, Bool, false, refl, sym, ◌∙◌, ap, subst, arith, Some, None, true, replicate}
use Rattle.std.specs.Prelude.{All, option_map, IfOk, Result, Ok, Err}
use Rattle.std.specs.Ordering.{nat_cmp}
use Rattle.std.specs.FinMap as map
use Rattle.blk_sched.specs.Meaning.{Waiting, Meaning, at_start}
use Rattle.blk_trace.specs.Happened.{Happened}
use Rattle.blk_trace.specs.declared.event.Event.TheVariants.{Tick}
use Rattle.blk_trace.specs.Setups.{Setup, IsSetup}
use Rattle.blk_trace.specs.Legal.{IsLegalTrace}
use Rattle.blk_trace.specs.Meaning.{released_ids}
use Rattle.blk_trace.specs.Waits.{Entered, waits_at}
use Rattle.blk_text.specs.Script.{Scripted}
use Rattle.blk_text.specs.declared.script.Line.{Line}
use Rattle.blk_text.specs.declared.script.Line.TheVariants as line
use Rattle.blk_sim.specs.State.{SimState, start_of}
use Rattle.blk_sim.specs.Runs.{Steps, Runs}
use Rattle.blk_earliest.specs.Choice.{earliest_kept, earliest_policy}
use Rattle.blk_online.specs.Ticks.{AtTicks}
use Rattle.blk_online_cli.specs.ByRounds.{HoldsNow, IsByRounds}
use Rattle.blk_online.specs.Best.{HasLeastLateness, IsOneSchedule, HasMostOnTime}
use Rattle.blk_online.proofs.Laws.{trace_least, oracle_same, trace_most}
use Rattle.blk_online_cli.proofs.Growing.{legal_before, grows_run}
use Rattle.blk_online_cli.proofs.Quiet.{fresh_start}
use Rattle.blk_online_cli.proofs.Working.{IsOnTrack, all_entered, all_rounds, deepened}

nobody_held : (n hw : ℕ) → get_or (replicate n (let none : List Waiting = [] in none)) hw [] ≡ []
nobody_held zero hw = refl
nobody_held (suc n) zero = refl
nobody_held (suc n) (suc hw) = nobody_held n hw

nothing_waits : (setup : Setup) (id : ℕ) → waits_at setup [] id ≡ None
unfolding waits_at released_ids
nothing_waits setup id = refl

start_track : (late_last : Bool) (script : Scripted) → IsOnTrack late_last script.setup (start_of script (at_start true) (earliest_kept late_last)).core
start_track late_last script = record {
  booked = record {
    setup_is = refl;
    kept_is = refl;
    dues = λ id. ap (option_map (λ (w : Waiting). w.due)) (map.get-empty nat_cmp id) ∙ sym (ap (option_map (λ (e : Entered). e.due)) (nothing_waits script.setup id));
    named = λ id w h. let e : None ≡ Some w = sym (map.get-empty nat_cmp id) ∙ h in cc;
    none_requeued = λ hw. nobody_held script.setup.hw hw;
  };
  ticks = λ k at. let e : None ≡ Some Tick = at in cc;
  fresh = fresh_start [] refl;
}

stepped : (late_last : Bool) (setup : Setup) → 0 < setup.hw → (l : Line) (old new : SimState) → IsByRounds l → IsOnTrack late_last setup old.core → IsLegalTrace setup new.core.events → Steps earliest_policy old l new → IsOnTrack late_last setup new.core
stepped late_last setup some (line.Bio b) old new by track legal p = subst (IsOnTrack late_last setup) (sym p.2) track
stepped late_last setup some (line.Flush s) old new by track legal p = subst (IsOnTrack late_last setup) (sym p.1) track
stepped late_last setup some (line.Drain hw) old new by track legal p = all_entered late_last setup some hw _ old.core new.core track legal p.0.entered
stepped late_last setup some (line.Issue hw tag) old new by track legal p = absurd by
stepped late_last setup some (line.Done tag) old new by track legal p = absurd by
stepped late_last setup some (line.Back tag) old new by track legal p = absurd by
stepped late_last setup some (line.Depth n) old new by track legal p = deepened late_last setup some n old.core new.core track p.1
stepped late_last setup some line.Tick old new by track legal p = absurd by
stepped late_last setup some (line.Run n) old new by track legal p = all_rounds late_last setup some n old.queues new.queues old.core new.core track legal p.0

on_track : (late_last : Bool) (setup : Setup) → 0 < setup.hw → (ls : List Line) (old new : SimState) → All IsByRounds ls → IsOnTrack late_last setup old.core → IsLegalTrace setup new.core.events → Runs earliest_policy ls old new → IsOnTrack late_last setup new.core
unfolding Runs
on_track late_last setup some [] old new by track legal p = subst (λ (s : SimState). IsOnTrack late_last setup s.core) (sym p) track
on_track late_last setup some (l ∷ ls) old new by track legal p =
    let legal' : IsLegalTrace setup p.0.core.events = legal_before setup p.0.core new.core (grows_run earliest_policy ls p.0 new p.2) legal in
    on_track late_last setup some ls p.0 new (λ k d h. by (suc k) d (omega arith)) (stepped late_last setup some l old p.0 (by 0 l (omega arith)) track legal' p.1) legal p.2

-- at each Tick of its trace
pub script_holds : (late_last : Bool) (script : Scripted) (ls : List Line) (end : SimState) → IsSetup script.setup → All IsByRounds ls → Runs earliest_policy ls (start_of script (at_start true) (earliest_kept late_last)) end → IsLegalTrace script.setup end.core.events → AtTicks (HoldsNow late_last script.setup) end.core.events
script_holds late_last script ls end is by p legal =
    (on_track late_last script.setup is.some_queues ls (start_of script (at_start true) (earliest_kept late_last)) end by (start_track late_last script) legal p).ticks

-- ---- a trace that such a script leaves

-- what a simulation says of its trace
abbrev pub HasRun : Scripted → List Line → Meaning → List ℕ → Setup → List Happened → Type 0
HasRun script ls meaning kept setup events =
    (end : SimState) × Runs earliest_policy ls (start_of script meaning kept) end × (setup ≡ end.core.setup) × (events ≡ end.core.events)

pub trace_holds : (late_last : Bool) (script : Scripted) (ls : List Line) (meaning : Meaning) (kept : List ℕ) (setup : Setup) (events : List Happened) → IsSetup script.setup → meaning ≡ at_start true → kept ≡ earliest_kept late_last → HasRun script ls meaning kept setup events → setup ≡ script.setup → IsLegalTrace setup events → All IsByRounds ls → AtTicks (HoldsNow late_last setup) events
trace_holds late_last script ls meaning kept setup events is meaning_is kept_is ran own legal by =
    let end : SimState = ran.0 in
    let p : Runs earliest_policy ls (start_of script (at_start true) (earliest_kept late_last)) end =
    subst (λ (m : Meaning). Runs earliest_policy ls (start_of script m (earliest_kept late_last)) end) meaning_is
    (subst (λ (k : List ℕ). Runs earliest_policy ls (start_of script meaning k) end) kept_is ran.1) in
    let legal' : IsLegalTrace script.setup end.core.events = subst (λ (s : Setup). IsLegalTrace s end.core.events) own (subst (λ l. IsLegalTrace setup l) ran.3 legal) in
    let holds : AtTicks (HoldsNow late_last script.setup) end.core.events = script_holds late_last script ls end is by p legal' in
    subst (λ (s : Setup). AtTicks (HoldsNow late_last s) events) (sym own) (subst (λ l. AtTicks (HoldsNow late_last script.setup) l) (sym ran.3) holds)

pub least_late : (late_last : Bool) (setup : Setup) (events : List Happened) → IsLegalTrace setup events → late_last ≡ false → AtTicks (HoldsNow late_last setup) events → HasLeastLateness setup events
least_late late_last setup events legal off holds = trace_least setup events legal (subst (λ (b : Bool). AtTicks (HoldsNow b setup) events) off holds)

pub one_schedule : (late_last : Bool) (setup : Setup) (events : List Happened) → IsSetup setup → IsLegalTrace setup events → late_last ≡ false → AtTicks (HoldsNow late_last setup) events → IsOneSchedule setup events
one_schedule late_last setup events is legal off holds = oracle_same setup events is legal (subst (λ (b : Bool). AtTicks (HoldsNow b setup) events) off holds)

pub has_most_on_time : (late_last : Bool) (setup : Setup) (events : List Happened) → IsLegalTrace setup events → late_last ≡ true → AtTicks (HoldsNow late_last setup) events → HasMostOnTime setup events
has_most_on_time late_last setup events legal on holds = trace_most setup events legal (subst (λ (b : Bool). AtTicks (HoldsNow b setup) events) on holds)

-- ---- answers

pub ok_three : {T E : Type 0} (r : Result T E) (A B C D : T → Type 0) → IfOk r A → IfOk r B → IfOk r C → ((t : T) → A t → B t → C t → D t) → IfOk r D
ok_three (Ok t) A B C D a b c f = f t a b c
ok_three (Err e) A B C D a b c f = tt
