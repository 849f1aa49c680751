-- What the scheduler holds is what waits in the trace, by its ids and due rounds.
use Rattle.std.proofs.Common.{◌≡◌, ◌+◌, ◌++◌, ◌==◌, ℕ, List, [], ◌∷◌, Option, Some, None, Bool, true, false, cond, refl, sym, ◌∙◌, ap, subst, eq-eqb, eqb-true, ne_eqb, inl, inr}
use Rattle.std.specs.Prelude.{option_map}
use Rattle.std.specs.FinMap as map
use Rattle.std.proofs.lemmas.Bool.{cases_Bool}
use Rattle.blk_bio.specs.Bios.{Bio}
use Rattle.blk_bio.specs.Requests.{dir_of}
use Rattle.blk_bio.specs.Extents.{extent_of}
use Rattle.blk_sched.specs.Meaning.{Waiting, Pending, Meaning, Picks, joined_waiting}
use Rattle.blk_sched.proofs.Maps.{one_test}
use Rattle.blk_index.proofs.Indexed.{becomes_given, becomes_taken}
use Rattle.blk_queues.specs.Requeued.{requeued_in}
use Rattle.blk_trace.specs.Happened.{Happened}
use Rattle.blk_trace.specs.declared.event.Event.TheVariants.{Tick, Release, Join, Issue, Done, Depth}
use Rattle.blk_trace.specs.Setups.{Setup, expire_of}
use Rattle.blk_trace.specs.Events.{round_of}
use Rattle.blk_trace.specs.Legal.{IsLegalTrace}
use Rattle.blk_trace.specs.Waits.{Entered, waits_at}
use Rattle.blk_trace.proofs.Waiting.{waits_kept, waits-released, waits-joined, waits-issued}
use Rattle.blk_core.specs.declared.calls.Placed.{Placed}
use Rattle.blk_core.specs.declared.calls.Placed.TheVariants.{New, Joined as JoinedTo}
use Rattle.blk_core.specs.State.{CoreState}
use Rattle.blk_core.specs.Calls.{Places, Completes, Ends, SetsDepth}
use Rattle.blk_earliest.specs.Choice.{earliest_policy}
use Rattle.blk_sched.specs.Policies.{serves_all}

-- when a request is due that the scheduler has, and one that waits in the trace
abbrev pub due_in : Pending → ℕ → Option ℕ
due_in pending id = option_map (λ (w : Waiting). w.due) (map.get pending id)

abbrev pub due_waiting : Setup → List Happened → ℕ → Option ℕ
due_waiting setup events id = option_map (λ (w : Entered). w.due) (waits_at setup events id)

abbrev pub AreNamed : Pending → Type 0
AreNamed pending = (id : ℕ) (w : Waiting) → map.get pending id ≡ Some w → w.id ≡ id

-- the two agree, nothing is requeued, and the scheduler keeps this
pub record IsBooked (setup : Setup) (kept : List ℕ) (c : CoreState) : Type 0 where
  pub setup_is : c.setup ≡ setup
  pub kept_is : c.kept ≡ kept
  pub dues : (id : ℕ) → due_in c.meaning.pending id ≡ due_waiting setup c.events id
  pub named : AreNamed c.meaning.pending
  pub none_requeued : (hw : ℕ) → requeued_in c.requeued hw ≡ []

-- ---- maps

turned : (q id : ℕ) → (q == id) ≡ (id == q)
turned q id = elim (cases_Bool (q == id)) [
  | inl t ↦ t ∙ sym (eq-eqb id q (sym (eqb-true q id t)))
  | inr f ↦ f ∙ sym (ne_eqb id q (λ e. let t : (q == id) ≡ true = eq-eqb q id (sym e) in cc))
]

pub get_given : (P : Pending) (id : ℕ) (w : Waiting) (q : ℕ) → map.get (map.insert P id w) q ≡ cond (id == q) (Some w) (map.get P q)
get_given P id w q = becomes_given P (map.insert P id w) id w refl q ∙ ap (λ b. cond b (Some w) (map.get P q)) (one_test id q ∙ turned q id)

pub get_taken : (P : Pending) (id q : ℕ) → map.get (map.remove P id) q ≡ cond (id == q) None (map.get P q)
get_taken P id q = becomes_taken P (map.remove P id) id refl q ∙ ap (λ b. cond b None (map.get P q)) (one_test id q ∙ turned q id)

mapped : {X Y : Type 0} (f : X → Y) (b : Bool) (o p : Option X) → option_map f (cond b o p) ≡ cond b (option_map f o) (option_map f p)
mapped f true o p = refl
mapped f false o p = refl

-- a request is given, or taken, in both
agree_given : (P : Pending) (old new : ℕ → Option Entered) (id : ℕ) (w : Waiting) (e : Entered) → w.due ≡ e.due → ((q : ℕ) → due_in P q ≡ option_map (λ (x : Entered). x.due) (old q)) → ((q : ℕ) → new q ≡ cond (id == q) (Some e) (old q)) → (q : ℕ) → due_in (map.insert P id w) q ≡ option_map (λ (x : Entered). x.due) (new q)
agree_given P old new id w e same agree given q =
    ap (option_map (λ (x : Waiting). x.due)) (get_given P id w q) ∙ mapped (λ (x : Waiting). x.due) (id == q) (Some w) (map.get P q)
    ∙ ap (λ n. cond (id == q) (Some n) (due_in P q)) same ∙ ap (cond (id == q) (Some e.due)) (agree q)
    ∙ sym (ap (option_map (λ (x : Entered). x.due)) (given q) ∙ mapped (λ (x : Entered). x.due) (id == q) (Some e) (old q))

agree_taken : (P : Pending) (old new : ℕ → Option Entered) (id : ℕ) → ((q : ℕ) → due_in P q ≡ option_map (λ (x : Entered). x.due) (old q)) → ((q : ℕ) → new q ≡ cond (id == q) None (old q)) → (q : ℕ) → due_in (map.remove P id) q ≡ option_map (λ (x : Entered). x.due) (new q)
agree_taken P old new id agree given q =
    ap (option_map (λ (x : Waiting). x.due)) (get_taken P id q) ∙ mapped (λ (x : Waiting). x.due) (id == q) None (map.get P q)
    ∙ ap (cond (id == q) None) (agree q)
    ∙ sym (ap (option_map (λ (x : Entered). x.due)) (given q) ∙ mapped (λ (x : Entered). x.due) (id == q) None (old q))

named_given : (P : Pending) (id : ℕ) (w : Waiting) → w.id ≡ id → AreNamed P → AreNamed (map.insert P id w)
named_given P id w own named q v h =
    elim (id == q) as (λ b. (id == q) ≡ b → cond b (Some w) (map.get P q) ≡ Some v → v.id ≡ q) [
      | true ↦ λ e g. let same : w ≡ v = cc in ap (λ (x : Waiting). x.id) (sym same) ∙ own ∙ eqb-true id q e
      | false ↦ λ _ g. named q v g
    ] refl (sym (get_given P id w q) ∙ h)

-- what is still there was there before
pub still_there : (P : Pending) (id q : ℕ) (v : Waiting) → map.get (map.remove P id) q ≡ Some v → map.get P q ≡ Some v
still_there P id q v h =
    elim (id == q) as (λ b. cond b None (map.get P q) ≡ Some v → map.get P q ≡ Some v) [
      | true ↦ λ g. absurd (cc)
      | false ↦ λ g. g
    ] (sym (get_taken P id q) ∙ h)

named_taken : (P : Pending) (id : ℕ) → AreNamed P → AreNamed (map.remove P id)
named_taken P id named q v h = named q v (still_there P id q v h)

-- one that the scheduler has waits in the trace, and is due there in the same round
pub waits_then : (setup : Setup) (kept : List ℕ) (c : CoreState) (id : ℕ) (w : Waiting) → IsBooked setup kept c → map.get c.meaning.pending id ≡ Some w → (e : Entered) × (waits_at setup c.events id ≡ Some e) × (w.due ≡ e.due)
waits_then setup kept c id w booked there =
    elim (waits_at setup c.events id) as (λ o. waits_at setup c.events id ≡ o → Some w.due ≡ option_map (λ (x : Entered). x.due) o → (e : Entered) × (waits_at setup c.events id ≡ Some e) × (w.due ≡ e.due)) [
      | None ↦ λ _ g. absurd (cc)
      | Some e ↦ λ is g. (e, is, cc)
    ] refl (sym (ap (option_map (λ (x : Waiting). x.due)) there) ∙ booked.dues id)

-- and the other way round
pub held_then : (setup : Setup) (kept : List ℕ) (c : CoreState) (id : ℕ) (e : Entered) → IsBooked setup kept c → waits_at setup c.events id ≡ Some e → (w : Waiting) × (map.get c.meaning.pending id ≡ Some w) × (w.due ≡ e.due)
held_then setup kept c id e booked waits =
    elim (map.get c.meaning.pending id) as (λ o. map.get c.meaning.pending id ≡ o → option_map (λ (x : Waiting). x.due) o ≡ Some e.due → (w : Waiting) × (map.get c.meaning.pending id ≡ Some w) × (w.due ≡ e.due)) [
      | None ↦ λ _ g. absurd (cc)
      | Some w ↦ λ is g. (w, is, cc)
    ] refl (booked.dues id ∙ ap (option_map (λ (x : Entered). x.due)) waits)

-- ---- one event more

module _ (setup : Setup) (kept : List ℕ) (old new : CoreState) (booked : IsBooked setup kept old) where
  -- by what it does to what waits
  after : (e : Happened) → new.setup ≡ old.setup → new.kept ≡ old.kept → new.requeued ≡ old.requeued → new.events ≡ old.events ++ e ∷ [] → AreNamed new.meaning.pending → ((q : ℕ) → due_in new.meaning.pending q ≡ due_waiting setup (old.events ++ e ∷ []) q) → IsBooked setup kept new
  after e setup_same kept_same requeued_same more named agree = record {
    setup_is = setup_same ∙ booked.setup_is;
    kept_is = kept_same ∙ booked.kept_is;
    dues = λ q. agree q ∙ ap (λ l. due_waiting setup l q) (sym more);
    named = named;
    none_requeued = λ hw. ap (λ l. requeued_in l hw) requeued_same ∙ booked.none_requeued hw;
  }

  -- where what waits stays
  pub unchanged : (e : Happened) → new.setup ≡ old.setup → new.kept ≡ old.kept → new.requeued ≡ old.requeued → new.events ≡ old.events ++ e ∷ [] → new.meaning.pending ≡ old.meaning.pending → ((q : ℕ) → waits_at setup (old.events ++ e ∷ []) q ≡ waits_at setup old.events q) → IsBooked setup kept new
  unchanged e setup_same kept_same requeued_same more same waits =
      after e setup_same kept_same requeued_same more (subst AreNamed (sym same) booked.named)
      (λ q. ap (λ P. due_in P q) same ∙ booked.dues q ∙ ap (option_map (λ (x : Entered). x.due)) (sym (waits q)))

  pub placed_booked : (bios : List Bio) (hw : ℕ) (placed : Placed) → IsLegalTrace setup new.events → Places serves_all old bios hw placed new → IsBooked setup kept new
  placed_booked bios hw (New id) legal p =
      let legal' : IsLegalTrace setup (old.events ++ Release id bios ∷ []) = subst (λ l. IsLegalTrace setup l) p.2.1 legal in
      let w : Waiting = record { id = id; hw = hw; release = round_of old.events; due = round_of old.events + expire_of setup (dir_of bios); extent = extent_of bios } in
      let is : new.meaning.pending ≡ map.insert old.meaning.pending id w =
      ap (λ (m : Meaning). m.pending) p.3
      ∙ ap (λ (n : ℕ). map.insert old.meaning.pending id (record { id = n; hw = hw; release = round_of old.events; due = round_of old.events + expire_of old.setup (dir_of bios); extent = extent_of bios })) (sym p.1)
      ∙ ap (λ (s : Setup). map.insert old.meaning.pending id (record { id = id; hw = hw; release = round_of old.events; due = round_of old.events + expire_of s (dir_of bios); extent = extent_of bios })) booked.setup_is in
      after (Release id bios) p.2.0 p.4 p.6 p.2.1
      (subst AreNamed (sym is) (named_given old.meaning.pending id w refl booked.named))
      (λ q. ap (λ P. due_in P q) is ∙ agree_given old.meaning.pending (waits_at setup old.events) (waits_at setup (old.events ++ Release id bios ∷ [])) id w _ refl booked.dues (waits-released setup old.events id bios legal') q)
  placed_booked bios hw (JoinedTo id side) legal p =
      let legal' : IsLegalTrace setup (old.events ++ Join id bios ∷ []) = subst (λ l. IsLegalTrace setup l) p.1.1 legal in
      let w : Waiting = p.0.0 in
      let there : map.get old.meaning.pending id ≡ Some w = p.0.1.pending in
      let waits = waits_then setup kept old id w booked there in
      let joined : Waiting = joined_waiting side (round_of old.events) (extent_of bios) w in
      let is : new.meaning.pending ≡ map.insert old.meaning.pending id joined = ap (λ (m : Meaning). m.pending) p.0.2 in
      after (Join id bios) p.1.0 p.2 p.4 p.1.1
      (subst AreNamed (sym is) (named_given old.meaning.pending id joined (booked.named id w there) booked.named))
      (λ q. ap (λ P. due_in P q) is ∙ agree_given old.meaning.pending (waits_at setup old.events) (waits_at setup (old.events ++ Join id bios ∷ [])) id joined _ waits.2 booked.dues (waits-joined setup old.events id bios legal' waits.0 waits.1) q)

  pub sent_booked : (w : Waiting) (hw tag : ℕ) (new_meaning : Meaning) → new_meaning ≡ new.meaning → new.setup ≡ old.setup → new.kept ≡ old.kept → new.requeued ≡ old.requeued → new.events ≡ old.events ++ Issue w.id tag ∷ [] → IsLegalTrace setup new.events → Picks serves_all hw old.meaning w new_meaning → IsBooked setup kept new
  sent_booked w hw tag new_meaning own setup_same kept_same requeued_same more legal picks =
      let legal' : IsLegalTrace setup (old.events ++ Issue w.id tag ∷ []) = subst (λ l. IsLegalTrace setup l) more legal in
      let is : new.meaning.pending ≡ map.remove old.meaning.pending w.id = ap (λ (m : Meaning). m.pending) (sym own ∙ picks.2) in
      after (Issue w.id tag) setup_same kept_same requeued_same more
      (subst AreNamed (sym is) (named_taken old.meaning.pending w.id booked.named))
      (λ q. ap (λ P. due_in P q) is ∙ agree_taken old.meaning.pending (waits_at setup old.events) (waits_at setup (old.events ++ Issue w.id tag ∷ [])) w.id booked.dues (waits-issued setup old.events w.id tag legal') q)

  pub done_booked : (tag : ℕ) → Completes earliest_policy.told_done old tag new → IsBooked setup kept new
  done_booked tag p =
      unchanged (Done tag) p.3.0 p.5 p.7 p.3.1 (ap (λ (m : Meaning). m.pending) (sym p.4)) (waits_kept setup old.events (Done tag) refl refl refl refl)

  pub ticked_booked : Ends earliest_policy.told_tick old new → IsBooked setup kept new
  ticked_booked p =
      unchanged Tick p.0.0 p.2 p.4 p.0.1 (ap (λ (m : Meaning). m.pending) p.1) (waits_kept setup old.events Tick refl refl refl refl)

  pub deep_booked : (depth : ℕ) → SetsDepth old depth new → IsBooked setup kept new
  deep_booked depth p =
      unchanged (Depth depth) p.0.0 p.2 p.4 p.0.1 (ap (λ (m : Meaning). m.pending) p.1) (waits_kept setup old.events (Depth depth) refl refl refl refl)
