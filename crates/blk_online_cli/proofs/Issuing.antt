-- A round in which requests go out, each the first of what waits.
use Rattle.std.proofs.Common.{◌≡◌, ◌<◌, ◌≤◌, ◌+◌, ◌%◌, ◌++◌, ◌==◌, ◌⊎◌, ℕ, zero, suc, List, [], ◌∷◌, length, get_or, Some, Bool, true, false, cond, refl, sym, ◌∙◌, ap, subst, arith, inl, inr, eq-eqb}
use Rattle.std.specs.Prelude.{slice_get, count_by, All}
use Rattle.std.specs.List.{Contains}
use Rattle.std.specs.FinMap as map
use Rattle.std.specs.FinMap.{entries, values}
use Rattle.std.specs.Ordering.{nat_cmp, is_eq}
use Rattle.std.specs.BTreeMap.{is_at}
use Rattle.std.specs.Map.{lookup, values_of}
use Rattle.std.proofs.lemmas.List.Sums.{sum_by-append}
use Rattle.edd_commands.specs.Schedule.{places_at}
use Rattle.blk_sched.specs.Meaning.{Waiting, Pending, Meaning, Picks}
use Rattle.blk_sched.proofs.Maps.{looked_up}
use Rattle.blk_trace.specs.Happened.{Happened}
use Rattle.blk_trace.specs.declared.event.Event.TheVariants.{Issue}
use Rattle.blk_trace.specs.Setups.{Setup}
use Rattle.blk_trace.specs.Events.{round_of, IsUsed}
use Rattle.blk_trace.specs.Depths.{depth_now, depth_in}
use Rattle.blk_trace.specs.Legal.{IsLegalTrace}
use Rattle.blk_trace.specs.Meaning.{served, rounds_of, due_of}
use Rattle.blk_trace.proofs.Newness.{in_either}
use Rattle.blk_trace.proofs.More.{round_more}
use Rattle.blk_trace.proofs.Served.{served_push}
use Rattle.blk_trace.proofs.Commands.{rounds-issued}
use Rattle.blk_trace.proofs.Depths.{depth_kept, depth_now_is}
use Rattle.blk_trace.proofs.Entering.{same_entered}
use Rattle.blk_trace.proofs.Waiting.{waiting_from}
use Rattle.blk_core.specs.State.{CoreState}
use Rattle.blk_core.specs.Calls.{SendsFrom}
use Rattle.blk_sim.specs.Rounds.{GivesCommand, IssueInTurn, IssuesAll}
use Rattle.blk_earliest.specs.Choice.{earliest_choice, earliest_chooses, earliest_kept, earliest_policy}
use Rattle.blk_sched.specs.Policies.{serves_all}
use Rattle.blk_earliest.proofs.Chosen.{choice_first, choice_on_time, choice_none}
use Rattle.blk_online.specs.Ticks.{AtTicks, WentOut}
use Rattle.blk_online_cli.specs.ByRounds.{HoldsNow}
use Rattle.blk_online_cli.proofs.Growing.{legal_before, grows_given}
use Rattle.blk_online_cli.proofs.Agreeing.{IsBooked, waits_then, still_there, sent_booked}
use Rattle.blk_online_cli.proofs.Quiet.{ticks_kept, used_or}

-- ---- the choice

-- the one due round and id come no later than the other
abbrev pub Before : ℕ → ℕ → ℕ → ℕ → Type 0
Before d i e j = (d < e) ⊎ ((d ≡ e) × (i ≤ j))

-- what goes out in a round goes before what waits, by the setting
abbrev pub Goes : Bool → ℕ → ℕ → ℕ → ℕ → ℕ → Type 0
Goes false round d i e j = Before d i e j
Goes true round d i e j = round ≤ e → (round ≤ d) × Before d i e j

goes_first : (late_last : Bool) (round : ℕ) (ws : List Waiting) (w : Waiting) → earliest_choice late_last round ws ≡ Some w → All (λ v. Goes late_last round w.due w.id v.due v.id) ws
goes_first false round ws w h = (choice_first round ws w h).first
goes_first true round ws w h = (choice_on_time round ws w h).on_time

same_setting : (a b : Bool) → earliest_kept a ≡ earliest_kept b → a ≡ b
same_setting true true h = refl
same_setting false false h = refl
same_setting true false h = absurd (let e : 1 ≡ 0 = ap (λ (xs : List ℕ). get_or xs 0 0) h in omega arith)
same_setting false true h = absurd (let e : 0 ≡ 1 = ap (λ (xs : List ℕ). get_or xs 0 0) h in omega arith)

-- what is found in the map is one of its values
found_listed : (es : List (ℕ × Waiting)) (k : ℕ) (v : Waiting) → lookup (is_at (nat_cmp k)) es ≡ Some v → Contains (values_of es) v
found_listed [] k v h = absurd (cc)
found_listed (e ∷ es) k v h =
    elim (is_eq (nat_cmp k e.0)) as (λ b. cond b (Some e.1) (lookup (is_at (nat_cmp k)) es) ≡ Some v → Contains (e.1 ∷ values_of es) v) [
      | true ↦ λ g. let same : e.1 ≡ v = cc in (0, omega arith, same)
      | false ↦ λ g. let rest = found_listed es k v g in (suc rest.0, omega (arith, rest.1), rest.2)
    ] h

listed : (P : Pending) (k : ℕ) (v : Waiting) → map.get P k ≡ Some v → Contains (values P) v
listed P k v h = found_listed (entries P) k v (sym (looked_up P k) ∙ h)

of_listed : (Q : Waiting → Type 0) (ws : List Waiting) (v : Waiting) → All Q ws → Contains ws v → Q v
of_listed Q ws v all there = subst Q there.2 (all there.0 v there.1)

-- ---- a round

pub record IsIssuing (late_last : Bool) (setup : Setup) (round depth n : ℕ) (c : CoreState) : Type 0 where
  pub booked : IsBooked setup (earliest_kept late_last) c
  pub ticks : AtTicks (HoldsNow late_last setup) c.events
  pub round_is : round_of c.events ≡ round
  pub depth_is : depth_now setup c.events ≡ depth
  pub count : places_at (rounds_of c.events) round ≡ n
  pub below : (tag : ℕ) → IsUsed c.events tag → tag < n
  pub order : (id i : ℕ) (v : Waiting) → map.get c.meaning.pending id ≡ Some v → WentOut c.events round i → Goes late_last round (due_of setup c.events i) i v.due id

places_push : (xs : List ℕ) (r : ℕ) → places_at (xs ++ r ∷ []) r ≡ places_at xs r + 1
unfolding places_at
places_push xs r =
    sum_by-append (λ (y : ℕ). cond (y == r) 1 0) xs (r ∷ [])
    ∙ (let one : cond {A = ℕ} (r == r) 1 0 ≡ 1 = ap (λ b. cond {A = ℕ} b 1 0) (eq-eqb r r refl) in
    let here : count_by (λ y. y == r) (r ∷ []) ≡ 1 = (let z : 0 + cond {A = ℕ} (r == r) 1 0 ≡ 1 = omega arith in z) in
    ap (λ n. count_by (λ y. y == r) xs + n) here)

due_kept : (setup : Setup) (es : List Happened) (id tag i : ℕ) → due_of setup (es ++ Issue id tag ∷ []) i ≡ due_of setup es i
due_kept setup es id tag i = (same_entered setup es (Issue id tag) i refl).due

-- one more goes out
module _ (late_last : Bool) (setup : Setup) (round depth : ℕ) (old new : CoreState) where
  sent : (hw n : ℕ) (w : Waiting) → IsIssuing late_last setup round depth n old → IsLegalTrace setup new.events → new.setup ≡ old.setup → new.events ≡ old.events ++ Issue w.id n ∷ [] → SendsFrom serves_all earliest_chooses hw (round_of old.events) [] old.meaning old.kept old.requeued w new.meaning new.kept new.requeued → IsIssuing late_last setup round depth (suc n) new
  sent hw n w so_far legal setup_same more sends =
      let es : List Happened = old.events in
      let picks : Picks serves_all hw old.meaning w new.meaning = sends.0 in
      let chooses = sends.1 in
      let own : chooses.0 ≡ late_last = same_setting chooses.0 late_last (sym chooses.1 ∙ so_far.booked.kept_is) in
      let choice : earliest_choice late_last round (values old.meaning.pending) ≡ Some w =
      sym (ap (λ b. earliest_choice b round (values old.meaning.pending)) own) ∙ sym (ap (λ r. earliest_choice chooses.0 r (values old.meaning.pending)) so_far.round_is) ∙ sym chooses.2 in
      let is : new.meaning.pending ≡ map.remove old.meaning.pending w.id = ap (λ (m : Meaning). m.pending) picks.2 in
      let pushed : served 0 (es ++ Issue w.id n ∷ []) ≡ served 0 es ++ (round_of es, w.id) ∷ [] = served_push es (Issue w.id n) refl in
      let waits = waits_then setup (earliest_kept late_last) old w.id w so_far.booked picks.0 in
      let due : w.due ≡ due_of setup es w.id = waits.2 ∙ (waiting_from setup es w.id waits.0 waits.1).due_is in
      let still : round_of (es ++ Issue w.id n ∷ []) ≡ round_of es = round_more es (Issue w.id n) ∙ (let z : round_of es + 0 ≡ round_of es = omega arith in z) in
      record {
        booked = sent_booked setup (earliest_kept late_last) old new so_far.booked w hw n new.meaning refl setup_same chooses.3 sends.2 more legal picks;
        ticks = subst (AtTicks (HoldsNow late_last setup)) (sym more) (ticks_kept (HoldsNow late_last setup) es (Issue w.id n) refl so_far.ticks);
        round_is = ap round_of more ∙ still ∙ so_far.round_is;
        depth_is = ap (depth_now setup) more ∙ depth_now_is setup (es ++ Issue w.id n ∷ []) ∙ ap (depth_in setup (es ++ Issue w.id n ∷ [])) still ∙ depth_kept setup es (Issue w.id n) (round_of es) refl ∙ sym (depth_now_is setup es) ∙ so_far.depth_is;
        count =
            ap (λ l. places_at (rounds_of l) round) more ∙ ap (λ l. places_at l round) (rounds-issued es w.id n ∙ ap (λ r. rounds_of es ++ r ∷ []) so_far.round_is) ∙ places_push (rounds_of es) round
            ∙ (let z : places_at (rounds_of es) round + 1 ≡ suc n = omega (arith, so_far.count) in z);
        below = λ tag used.
            used_or es w.id n tag (suc n) (λ u was. let low = so_far.below u was in omega arith) (omega arith) (subst (λ l. IsUsed l tag) more used);
        order = λ id i v there out.
            let old_there : map.get old.meaning.pending id ≡ Some v = still_there old.meaning.pending w.id id v (sym (ap (λ P. map.get P id) is) ∙ there) in
            let v_own : v.id ≡ id = so_far.booked.named id v old_there in
            let dues : due_of setup new.events i ≡ due_of setup es i = ap (λ l. due_of setup l i) more ∙ due_kept setup es w.id n i in
            subst (λ d. Goes late_last round d i v.due id) (sym dues)
            (elim (in_either (served 0 es) ((round_of es, w.id) ∷ []) out.0 (round, i) (sym (ap (λ l. slice_get l out.0) pushed) ∙ sym (ap (λ l. slice_get (served 0 l) out.0) more) ∙ out.1)) [
              | inl first ↦ so_far.order id i v old_there (out.0, first)
              | inr last ↦
                  let at : i ≡ w.id = only (round_of es, w.id) last.0 (round, i) last.1.1 in
                  let first : Goes late_last round w.due w.id v.due v.id = of_listed (λ x. Goes late_last round w.due w.id x.due x.id) (values old.meaning.pending) v (goes_first late_last round (values old.meaning.pending) w choice) (listed old.meaning.pending id v old_there) in
                  subst (λ j. Goes late_last round (due_of setup es j) j v.due id) (sym at)
                  (subst (λ d. Goes late_last round d w.id v.due id) due (subst (λ j. Goes late_last round w.due w.id v.due j) v_own first))
            ]);
      }
    where
      only : (x : ℕ × ℕ) (k : ℕ) (y : ℕ × ℕ) → slice_get (x ∷ []) k ≡ Some y → y.1 ≡ x.1
      only x zero y h = let same : x ≡ y = cc in ap (λ (s : ℕ × ℕ). s.1) (sym same)
      only x (suc k) y h = absurd (cc)

  given : (n : ℕ) → IsIssuing late_last setup round depth n old → IsLegalTrace setup new.events → new.setup ≡ old.setup → GivesCommand earliest_policy n old new → IsIssuing late_last setup round depth (suc n) new
  given n so_far legal setup_same gave =
      let a = gave.gave.1 in
      let w : Waiting = a.0 in
      let hw : ℕ = (((n % old.setup.hw) + gave.place) % old.setup.hw) in
      sent hw n w so_far legal a.2.0 a.2.1
      (subst (λ (l : List Waiting). SendsFrom serves_all earliest_chooses hw (round_of old.events) l old.meaning old.kept old.requeued w new.meaning new.kept new.requeued) (so_far.booked.none_requeued hw) a.1)

pub issued_in_turn : (late_last : Bool) (setup : Setup) (round depth n : ℕ) (old new : CoreState) → IsIssuing late_last setup round depth 0 old → IsLegalTrace setup new.events → IssueInTurn earliest_policy n old new → IsIssuing late_last setup round depth n new
unfolding IssueInTurn
issued_in_turn late_last setup round depth zero old new so_far legal p = subst (IsIssuing late_last setup round depth 0) (sym p) so_far
issued_in_turn late_last setup round depth (suc n) old new so_far legal p =
    elim p.2 [
      | inl used ↦
          let middle_legal : IsLegalTrace setup p.0.events = subst (λ (c : CoreState). IsLegalTrace setup c.events) used.1 legal in
          let rest : IsIssuing late_last setup round depth n p.0 = issued_in_turn late_last setup round depth n old p.0 so_far middle_legal p.1 in
          absurd (let low = rest.below n used.0 in omega arith)
      | inr gave ↦
          let middle_legal : IsLegalTrace setup p.0.events = legal_before setup p.0 new (grows_given earliest_policy n p.0 new gave) legal in
          let rest : IsIssuing late_last setup round depth n p.0 = issued_in_turn late_last setup round depth n old p.0 so_far middle_legal p.1 in
          given late_last setup round depth p.0 new n rest legal gave.gave.1.2.0 gave
    ]

-- the round is full, or nothing waits
pub all_issued : (late_last : Bool) (setup : Setup) (round : ℕ) (old new : CoreState) → 0 < setup.hw → (same : new.setup ≡ setup) → (own : old.setup ≡ setup) → (issues : IssuesAll earliest_policy old new) → IsIssuing late_last setup round (depth_now setup old.events) issues.tags new → (id : ℕ) (v : Waiting) → map.get new.meaning.pending id ≡ Some v → places_at (rounds_of new.events) round ≡ depth_now setup old.events
all_issued late_last setup round old new some same own issues done id v there =
    elim issues.ended [
      | inl all ↦ done.count ∙ all ∙ ap (λ (s : Setup). depth_now s old.events) own
      | inr nothing ↦ absurd (
          let asked = nothing 0 (omega (arith, ap (λ (s : Setup). s.hw) same)) in
          let chooses = asked.1.2 in
          let empty : values new.meaning.pending ≡ [] = choice_none chooses.0 (round_of new.events) (values new.meaning.pending) (sym chooses.2) in
          let in_list = listed new.meaning.pending id v there in
          let none : length (values new.meaning.pending) ≡ 0 = ap (λ (l : List Waiting). length l) empty in
          omega (arith, in_list.1, none))
    ]
