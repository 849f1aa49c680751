-- What every step keeps: the setup, how many plugs and software queues there are and their limits, how far the rounds are,
-- and that each bio is where the steps before leave it.
use Rattle.std.proofs.Common.{arith, ◌≡◌, ◌+◌, ◌<◌, ◌≤◌, ◌==◌, ◌%◌, ◌&&◌, ◌||◌, nat_lt, ◌∙◌, ℕ, zero, suc, Bool, true, false, List, [], Option, Some, None, length, refl, sym, ap, subst, inl, inr, set, replicate}
use Rattle.std.specs.Prelude.{slice_get}
use Rattle.std.specs.Option.{option_map}
use Rattle.std.proofs.lemmas.Bool.{lt-ltb}
use Rattle.std.proofs.lemmas.Bool.Decides.{eqb_tells}
use Rattle.std.proofs.lemmas.List.{length-set, length-replicate}
use Rattle.std.proofs.lemmas.List.Elements.{All-replicate}
use Rattle.edd_commands.specs.declared.Command.{Command}
use Rattle.blk_bio.specs.Bios.{Bio}
use Rattle.blk_trace.specs.Setups.{Setup}
use Rattle.blk_trace.specs.Happened.{Happened}
use Rattle.blk_trace.specs.Events.{round_of}
use Rattle.blk_queues.specs.Plugs.{Plug}
use Rattle.blk_queues.specs.Answers.{IsAddAnswer}
use Rattle.blk_queues.specs.declared.plug.Added.{Added}
use Rattle.blk_queues.specs.declared.plug.Added.TheVariants.{New, Joined}
use Rattle.std.specs.Prelude.{Ok}
use Rattle.blk_queues.specs.Queues.{Queue}
use Rattle.blk_sched.specs.Meaning.{Meaning}
use Rattle.blk_core.specs.State.{CoreState}
use Rattle.blk_core.specs.Calls.{Completes, Issues, RequeuesTag, SetsDepth}
use Rattle.blk_text.specs.Script.{Scripted, LineFits}
use Rattle.blk_text.specs.declared.script.Line.{Line}
use Rattle.blk_text.specs.declared.script.Line.TheVariants as line
use Rattle.blk_sim.specs.Simulation.{ticks_of}
use Rattle.blk_sim.specs.State.{SimState, start_of}
use Rattle.blk_sim.specs.Moves.{bios_in, flushed_plug, with_requests, drained, AreEmptied, Drains, DrainInTurn}
use Rattle.blk_sim.specs.Rounds.{AsksQueue, Ticks, IssueInTurn, CompleteInTurn, Works, Round, Rounds}
use Rattle.blk_sim.specs.Runs.{Steps}
use Rattle.blk_sim.specs.Simulated.{Placing, AreDrained, nobody, stepped, Stands, HaveCome, IsReady}
use Rattle.blk_sim.specs.Inside.Places.{is_served, RoundsPassed}
use Rattle.blk_sim.proofs.Picking.{set_cases}
use Rattle.blk_sim.proofs.Events.{adds_passed, passed_same, passed_trans, chain_took}
use Rattle.blk_sim.proofs.Draining.{drained_same, drained_at, drain_drained, drain_count, all_drained, drained_passed}
use Rattle.blk_sim.proofs.Holding.{come_added, come_flushed, come_more}
use Rattle.blk_sched.specs.Policies.{Policy}
use Rattle.blk_sim.proofs.Standing.{all_at, add_plugged, bio_stands, flush_plugged, flush_staged, flush_stands, let_go_stands, issue_goes, done_goes, back_goes, depth_goes, tick_goes, drain_goes, run_goes, fresh_stands}

-- the core's steps by themselves let no bio enter
issues_passed : (policy : Policy) (hw tag : ℕ) (a b : CoreState) (found : Option Command) → Issues policy.serves policy.chooses a hw tag found b → RoundsPassed 0 a b
issues_passed policy hw tag a b None h = passed_same a b h.0
issues_passed policy hw tag a b (Some command) h = adds_passed a b _ 0 h.2 refl refl

pub asks_passed : (policy : Policy) (hw tag : ℕ) (a b : CoreState) (found : Option Command) → AsksQueue policy hw tag a found b → RoundsPassed 0 a b
asks_passed policy hw tag a b found h = issues_passed policy hw tag a b found h.1

pub completes_passed : (policy : Policy) (tag : ℕ) (a b : CoreState) → Completes policy.told_done a tag b → RoundsPassed 0 a b
completes_passed policy tag a b h = adds_passed a b _ 0 h.3 refl refl

back_passed : (tag id : ℕ) (a b : CoreState) → RequeuesTag a tag id b → RoundsPassed 0 a b
back_passed tag id a b h = adds_passed a b _ 0 h.4 refl refl

depth_passed : (n : ℕ) (a b : CoreState) → SetsDepth a n b → RoundsPassed 0 a b
depth_passed n a b h = adds_passed a b _ 0 h.0 refl refl

pub ticks_passed : (policy : Policy) (a b : CoreState) → Ticks policy a b → RoundsPassed 1 a b
ticks_passed policy a b h = adds_passed a b _ 1 h.1.0 refl refl

tags_passed : (policy : Policy) (n : ℕ) (a b : CoreState) → IssueInTurn policy n a b → RoundsPassed 0 a b
unfolding IssueInTurn
tags_passed policy zero a b h = passed_same a b h
tags_passed policy (suc n) a b h = passed_trans 0 0 a h.0 b (tags_passed policy n a h.0 h.1) (elim h.2 [ inl t ↦ passed_same h.0 b t.1 | inr g ↦ asks_passed policy _ n h.0 b (Some g.command) g.gave ])

dones_passed : (policy : Policy) (n : ℕ) (a b : CoreState) → CompleteInTurn policy n a b → RoundsPassed 0 a b
unfolding CompleteInTurn
dones_passed policy zero a b h = passed_same a b h
dones_passed policy (suc n) a b h = passed_trans 0 0 a h.0 b (dones_passed policy n a h.0 h.1) (elim h.2 [ inl t ↦ completes_passed policy n h.0 b t | inr g ↦ passed_same h.0 b g.1 ])

pub works_passed : (policy : Policy) (a b : CoreState) → Works policy a b → RoundsPassed 1 a b
works_passed policy a b h = passed_trans 0 1 a h.idle b (passed_trans 0 0 a h.busy h.idle (tags_passed policy h.issues.tags a h.busy h.issues.issued) (dones_passed policy h.busy.setup.depth h.busy h.idle h.completes)) (ticks_passed policy h.idle b h.ticks)

-- n rounds passed under one setup
pub record Went (n : ℕ) (a b : CoreState) : Type 0 where
  pub setup : b.setup ≡ a.setup
  pub ticks : round_of b.events ≡ round_of a.events + n

went : (n : ℕ) (a b : CoreState) → RoundsPassed n a b → Went n a b
went n a b p = record { setup = p.setup; ticks = p.ticks }

went_same : (a b : CoreState) → b ≡ a → Went 0 a b
went_same a b e = went 0 a b (passed_same a b e)

went_trans : (m n : ℕ) (a b c : CoreState) → Went m a b → Went n b c → Went (m + n) a c
went_trans m n a b c p q = record { setup = q.setup ∙ p.setup; ticks = let x = p.ticks in let y = q.ticks in omega arith }

drain_went : (policy : Policy) (count hw : ℕ) (q q' : List Queue) (a b : CoreState) → Drains policy count hw q a q' b → Went 0 a b
drain_went policy count hw q q' a b h = let t = chain_took policy hw _ a b h.entered in record { setup = t.setup; ticks = let x = t.ticks in omega arith }

turn_went : (policy : Policy) (count n : ℕ) (q q' : List Queue) (a b : CoreState) → DrainInTurn policy count n q a q' b → Went 0 a b
unfolding DrainInTurn
turn_went policy count zero q q' a b h = went_same a b h.1
turn_went policy count (suc n) q q' a b h = went_trans 0 0 a h.1 b (turn_went policy count n q h.0 a h.1 h.2) (drain_went policy count n h.0 q' h.1 b h.3)

round_went : (policy : Policy) (q q' : List Queue) (a b : CoreState) → Round policy q a q' b → Went 1 a b
round_went policy q q' a b h = went_trans 0 1 a h.filled b (turn_went policy a.setup.hw a.setup.hw q q' a h.filled h.drains) (went 1 h.filled b (works_passed policy h.filled b h.works))

rounds_went : (policy : Policy) (n : ℕ) (q q' : List Queue) (a b : CoreState) → Rounds policy n q a q' b → Went n a b
unfolding Rounds
rounds_went policy zero q q' a b h = went_same a b h.1
rounds_went policy (suc n) q q' a b h = subst (λ k. Went k a b) (let e : n + 1 ≡ suc n = omega arith in e) (went_trans n 1 a h.1 b (rounds_went policy n q h.0 a h.1 h.2) (round_went policy h.0 q' h.1 b h.3))

pub steps_went : (policy : Policy) (old : SimState) (l : Line) (new : SimState) → Steps policy old l new → Went (ticks_of l) old.core new.core
steps_went policy old (line.Bio b) new h = went_same old.core new.core h.2
steps_went policy old (line.Flush s) new h = went_same old.core new.core h.1
steps_went policy old (line.Drain hw) new h = drain_went policy _ hw _ _ _ _ h.0
steps_went policy old (line.Issue hw tag) new h = went 0 _ _ (asks_passed policy hw tag _ _ h.0 h.1)
steps_went policy old (line.Done tag) new h = went 0 _ _ (completes_passed policy tag _ _ h.0)
steps_went policy old (line.Back tag) new h = went 0 _ _ (back_passed tag h.0 _ _ h.1)
steps_went policy old (line.Depth n) new h = went 0 _ _ (depth_passed n _ _ h.1)
steps_went policy old line.Tick new h = went 1 _ _ (ticks_passed policy _ _ h.0)
steps_went policy old (line.Run n) new h = rounds_went policy n _ _ _ _ h.0

-- as many plugs as before
pub steps_plugs : (policy : Policy) (old : SimState) (l : Line) (new : SimState) → Steps policy old l new → length new.plugs ≡ length old.plugs
steps_plugs policy old (line.Bio b) new h = ap length h.0.changed ∙ length-set old.plugs b.id.submitter h.0.grown
steps_plugs policy old (line.Flush s) new h = ap length h.0.plugs_are ∙ length-set old.plugs s _
steps_plugs policy old (line.Drain hw) new h = ap length h.1
steps_plugs policy old (line.Issue hw tag) new h = ap length h.2
steps_plugs policy old (line.Done tag) new h = ap length h.1
steps_plugs policy old (line.Back tag) new h = ap length h.2
steps_plugs policy old (line.Depth n) new h = ap length h.2
steps_plugs policy old line.Tick new h = ap length h.1
steps_plugs policy old (line.Run n) new h = ap length h.1

-- rounds leave all software queues empty and their bios in the core
rounds_point : (b x : Bool) → ((b && x) || x) ≡ x
rounds_point true true = refl
rounds_point true false = refl
rounds_point false x = refl

rounds_drained : (policy : Policy) (n : ℕ) (book : List Placing) (q q' : List Queue) (a b : CoreState) → 0 < a.setup.hw → Rounds policy n q a q' b → AreDrained nobody book q a.events → (length q' ≡ length q) × AreDrained (λ s. nat_lt 0 n && nat_lt s (length q)) book q' b.events
unfolding Rounds
rounds_drained policy zero book q q' a b some h d = (ap length h.0, drained_at (λ s. false) book q q' a.events b.events h.0 (ap (λ (x : CoreState). x.events) h.1) d)
rounds_drained policy (suc n) book q q' a b some h d =
    let before = rounds_drained policy n book q h.0 a h.1 some h.2 d in
    let same : h.1.setup ≡ a.setup = (rounds_went policy n q h.0 a h.1 h.2).setup in
    let hw : 0 < h.1.setup.hw = subst (λ (s : Setup). 0 < s.hw) (sym same) some in (
      drain_count policy _ _ h.0 q' h.1 h.3.filled h.3.drains ∙ before.0,
      drained_passed (λ s. nat_lt 0 (suc n) && nat_lt s (length q)) book q' 1 h.3.filled b (works_passed policy h.3.filled b h.3.works)
          (drained_same (λ s. (nat_lt 0 n && nat_lt s (length q)) || nat_lt s (length h.0)) (λ s. nat_lt 0 (suc n) && nat_lt s (length q))
          (λ s. ap (λ k. (nat_lt 0 n && nat_lt s (length q)) || nat_lt s k) before.0 ∙ rounds_point (nat_lt 0 n) (nat_lt s (length q)) ∙ ap (λ c. c && nat_lt s (length q)) (sym (lt-ltb 0 (suc n) (omega arith)))) book q' h.3.filled.events
          (all_drained policy (λ s. nat_lt 0 n && nat_lt s (length q)) h.1.setup.hw book h.0 q' h.1 h.3.filled hw h.3.drains before.1)),
    )

-- each bio is where the steps leave it
steps_stand_at : (hw : ℕ) (l : Line) (book : List Placing) (plugs plugs' : List Plug) (queues queues' : List Queue) (events events' : List Happened) → plugs' ≡ plugs → queues' ≡ queues → events' ≡ events → Stands (stepped hw l book) plugs queues events → Stands (stepped hw l book) plugs' queues' events'
steps_stand_at hw l book plugs plugs' queues queues' events events' p q e st =
    subst (λ x. Stands (stepped hw l book) x queues' events') (sym p) (subst (λ x. Stands (stepped hw l book) plugs x events') (sym q) (subst (λ x. Stands (stepped hw l book) plugs queues x) (sym e) st))

core_stands : (hw n : ℕ) (l : Line) (book : List Placing) (old new : SimState) → length old.queues ≡ length old.plugs → RoundsPassed n old.core new.core → new.plugs ≡ old.plugs → new.queues ≡ old.queues
    → (Stands book old.plugs old.queues old.core.events → AreDrained nobody book old.queues new.core.events → Stands (stepped hw l book) old.plugs old.queues new.core.events)
    → Stands book old.plugs old.queues old.core.events → Stands (stepped hw l book) new.plugs new.queues new.core.events
core_stands hw n l book old new counts p e f go st = steps_stand_at hw l book old.plugs new.plugs old.queues new.queues new.core.events new.core.events e f refl (go st (drained_passed nobody book old.queues n old.core new.core p st.drained))

pub steps_stand : (policy : Policy) (old : SimState) (l : Line) (new : SimState) (book : List Placing) → 0 < old.core.setup.hw → length old.queues ≡ length old.plugs → LineFits old.core.setup.hw (length old.plugs) l → Steps policy old l new
    → Stands book old.plugs old.queues old.core.events → Stands (stepped old.core.setup.hw l book) new.plugs new.queues new.core.events
steps_stand policy old (line.Bio b) new book some counts fits h st =
    steps_stand_at old.core.setup.hw (line.Bio b) book _ new.plugs _ new.queues _ new.core.events h.0.changed h.1 (ap (λ (x : CoreState). x.events) h.2)
    (bio_stands old.core.setup.hw b book old.plugs _ old.queues old.core.events st fits.0 (length-set old.plugs b.id.submitter h.0.grown)
    (add_plugged old.core.setup.hw b book old.plugs h.0.own h.0.grown b.id.submitter refl st.plugged h.0.stands h.0.kept))
steps_stand policy old (line.Flush s) new book some counts fits h st =
    steps_stand_at old.core.setup.hw (line.Flush s) book _ new.plugs _ new.queues _ new.core.events h.0.plugs_are h.0.queues_are (ap (λ (x : CoreState). x.events) h.1)
    (flush_stands old.core.setup.hw s book old.plugs _ old.queues _ old.core.events st (length-set old.plugs s _)
    (flush_plugged old.core.setup.hw s book old.plugs _ st.plugged refl)
    (flush_staged old.core.setup.hw s book old.plugs old.queues h.0.own h.0.to _ st.plugged st.drained.staged h.0.own_stands h.0.to_stands refl))
steps_stand policy old (line.Drain hw) new book some counts fits h st =
    steps_stand_at old.core.setup.hw (line.Drain hw) book old.plugs new.plugs new.queues new.queues new.core.events new.core.events h.1 refl refl
    (let_go_stands old.core.setup.hw (line.Drain hw) (λ s. (s % old.core.setup.hw) == hw) (λ s. nobody s || is_served (length old.queues) old.core.setup.hw hw s) book old.plugs new.queues new.core.events
    (drain_goes old.core.setup.hw hw) (h.0.emptied.as_many ∙ counts)
    (λ s lt. sym (ap (λ b. false || (b && ((s % old.core.setup.hw) == hw))) (lt-ltb s (length old.queues) (omega (arith, lt, counts)))))
    st.known st.plugged (drain_drained policy nobody old.core.setup.hw hw book old.queues new.queues old.core new.core h.0 st.drained))
steps_stand policy old (line.Issue hw tag) new book some counts fits h st =
    core_stands old.core.setup.hw 0 (line.Issue hw tag) book old new counts (asks_passed policy hw tag _ _ h.0 h.1) h.2 h.3
    (λ x d. let_go_stands old.core.setup.hw (line.Issue hw tag) nobody nobody book old.plugs old.queues new.core.events (issue_goes old.core.setup.hw hw tag) counts (λ s lt. refl) x.known x.plugged d) st
steps_stand policy old (line.Done tag) new book some counts fits h st =
    core_stands old.core.setup.hw 0 (line.Done tag) book old new counts (completes_passed policy tag _ _ h.0) h.1 h.2
    (λ x d. let_go_stands old.core.setup.hw (line.Done tag) nobody nobody book old.plugs old.queues new.core.events (done_goes old.core.setup.hw tag) counts (λ s lt. refl) x.known x.plugged d) st
steps_stand policy old (line.Back tag) new book some counts fits h st =
    core_stands old.core.setup.hw 0 (line.Back tag) book old new counts (back_passed tag h.0 _ _ h.1) h.2 h.3
    (λ x d. let_go_stands old.core.setup.hw (line.Back tag) nobody nobody book old.plugs old.queues new.core.events (back_goes old.core.setup.hw tag) counts (λ s lt. refl) x.known x.plugged d) st
steps_stand policy old (line.Depth n) new book some counts fits h st =
    core_stands old.core.setup.hw 0 (line.Depth n) book old new counts (depth_passed n _ _ h.1) h.2 h.3
    (λ x d. let_go_stands old.core.setup.hw (line.Depth n) nobody nobody book old.plugs old.queues new.core.events (depth_goes old.core.setup.hw n) counts (λ s lt. refl) x.known x.plugged d) st
steps_stand policy old line.Tick new book some counts fits h st =
    core_stands old.core.setup.hw 1 line.Tick book old new counts (ticks_passed policy _ _ h.0) h.1 h.2
    (λ x d. let_go_stands old.core.setup.hw line.Tick nobody nobody book old.plugs old.queues new.core.events (tick_goes old.core.setup.hw) counts (λ s lt. refl) x.known x.plugged d) st
steps_stand policy old (line.Run n) new book some counts fits h st =
    let r = rounds_drained policy n book old.queues new.queues old.core new.core some h.0 st.drained in
    let at_least : 1 ≤ n = fits.0 in
    steps_stand_at old.core.setup.hw (line.Run n) book old.plugs new.plugs new.queues new.queues new.core.events new.core.events h.1 refl refl
    (let_go_stands old.core.setup.hw (line.Run n) (λ s. true) (λ s. nat_lt 0 n && nat_lt s (length old.queues)) book old.plugs new.queues new.core.events
    (run_goes old.core.setup.hw n) (r.0 ∙ counts)
    (λ s lt. sym (ap (λ b. b && nat_lt s (length old.queues)) (lt-ltb 0 n (omega (arith, at_least))) ∙ lt-ltb s (length old.queues) (omega (arith, lt, counts))))
    st.known st.plugged r.1)

-- software queues that keep their limits and what came
pub record AreKept (old new : List Queue) : Type 0 where
  pub as_many : length new ≡ length old
  pub each : (s : ℕ) (q : Queue) → slice_get new s ≡ Some q → (o : Queue) × (slice_get old s ≡ Some o) × (q.limits ≡ o.limits) × (q.bios_in ≡ o.bios_in)

kept_same : (old new : List Queue) → new ≡ old → AreKept old new
kept_same old new e = record { as_many = ap length e; each = λ s q at. (q, ap (λ l. slice_get l s) (sym e) ∙ at, refl, refl) }

kept_trans : (a b c : List Queue) → AreKept a b → AreKept b c → AreKept a c
kept_trans a b c p r = record {
  as_many = r.as_many ∙ p.as_many;
  each = λ s q at. let x = r.each s q at in let y = p.each s x.0 x.1 in (y.0, y.1, x.2 ∙ y.2, x.3 ∙ y.3);
}

one_drained : (o : Option Queue) (q : Queue) → Some q ≡ option_map drained o → (x : Queue) × (o ≡ Some x) × (q.limits ≡ x.limits) × (q.bios_in ≡ x.bios_in)
one_drained None q e = cc e
one_drained (Some x) q e = let same : q ≡ drained x = cc e in (x, refl, ap (λ (y : Queue). y.limits) same, ap (λ (y : Queue). y.bios_in) same)

pub kept_drained : (count hw : ℕ) (old new : List Queue) → AreEmptied count hw old new → AreKept old new
kept_drained count hw old new h = record {
  as_many = h.as_many;
  each = λ s q at. elim (eqb_tells (s % count) hw) [
    | inl a ↦ one_drained (slice_get old s) q (sym at ∙ h.served s a.1)
    | inr a ↦ (q, sym (h.others s a.1) ∙ at, refl, refl)
  ];
}

kept_turn : (policy : Policy) (count n : ℕ) (q q' : List Queue) (a b : CoreState) → DrainInTurn policy count n q a q' b → AreKept q q'
unfolding DrainInTurn
kept_turn policy count zero q q' a b h = kept_same q q' h.0
kept_turn policy count (suc n) q q' a b h = kept_trans q h.0 q' (kept_turn policy count n q h.0 a h.1 h.2) (kept_drained count n h.0 q' h.3.emptied)

kept_rounds : (policy : Policy) (n : ℕ) (q q' : List Queue) (a b : CoreState) → Rounds policy n q a q' b → AreKept q q'
unfolding Rounds
kept_rounds policy zero q q' a b h = kept_same q q' h.0
kept_rounds policy (suc n) q q' a b h = kept_trans q h.0 q' (kept_rounds policy n q h.0 a h.1 h.2) (kept_turn policy h.1.setup.hw h.1.setup.hw h.0 q' h.1 h.3.filled h.3.drains)

ready_kept : (n : ℕ) (old new : SimState) → new.plugs ≡ old.plugs → AreKept old.queues new.queues → new.core.setup ≡ old.core.setup → IsReady n old → IsReady (n + 1) new
ready_kept n old new p k e r = record {
  counts = k.as_many ∙ r.counts ∙ sym (ap length p);
  plug_limits = λ s plug at. r.plug_limits s plug (ap (λ l. slice_get l s) (sym p) ∙ at) ∙ sym (ap (λ (x : Setup). x.limits) e);
  queue_limits = λ s q at. let x = k.each s q at in x.2 ∙ r.queue_limits s x.0 x.1 ∙ sym (ap (λ (y : Setup). y.limits) e);
  come = λ s plug q here there.
      let x = k.each s q there in
      let was : x.0.bios_in + length (bios_in plug.requests) ≤ n = r.come s plug x.0 (ap (λ l. slice_get l s) (sym p) ∙ here) x.1 in
      let same : q.bios_in ≡ x.0.bios_in = x.3 in
      omega (arith, was, same);
}

grown_limits : (old : Plug) (b : Bio) (new : Plug) (added : Added) → IsAddAnswer old b new (Ok added) → new.limits ≡ old.limits
grown_limits old b new New h = ap (λ (p : Plug). p.limits) h.2
grown_limits old b new (Joined side) h = h.2

pub steps_ready : (policy : Policy) (n : ℕ) (old : SimState) (l : Line) (new : SimState) → Steps policy old l new → IsReady n old → IsReady (n + 1) new
steps_ready policy n old (line.Bio b) new h r =
    let e : new.core.setup ≡ old.core.setup = ap (λ (x : CoreState). x.setup) h.2 in
    record {
      counts = ap length h.1 ∙ r.counts ∙ sym (steps_plugs policy old (line.Bio b) new h);
      plug_limits = λ s plug at. (elim (set_cases old.plugs b.id.submitter s h.0.grown plug (ap (λ l. slice_get l s) (sym h.0.changed) ∙ at)) [
        | inl a ↦ ap (λ (p : Plug). p.limits) a.1 ∙ grown_limits h.0.own b h.0.grown h.0.added h.0.answer ∙ r.plug_limits b.id.submitter h.0.own h.0.stands
        | inr a ↦ r.plug_limits s plug a.1
      ]) ∙ sym (ap (λ (x : Setup). x.limits) e);
      queue_limits = λ s q at. r.queue_limits s q (ap (λ l. slice_get l s) (sym h.1) ∙ at) ∙ sym (ap (λ (x : Setup). x.limits) e);
      come = subst (λ p. HaveCome (n + 1) p new.queues) (sym h.0.changed) (subst (λ q. HaveCome (n + 1) (set old.plugs b.id.submitter h.0.grown) q) (sym h.1) (come_added n old.plugs old.queues b.id.submitter h.0.own h.0.grown b h.0.stands h.0.kept r.come));
    }
steps_ready policy n old (line.Flush s) new h r =
    let e : new.core.setup ≡ old.core.setup = ap (λ (x : CoreState). x.setup) h.1 in
    record {
      counts = ap length h.0.queues_are ∙ length-set old.queues s _ ∙ r.counts ∙ sym (steps_plugs policy old (line.Flush s) new h);
      plug_limits = λ t plug at. (elim (set_cases old.plugs s t _ plug (ap (λ l. slice_get l t) (sym h.0.plugs_are) ∙ at)) [
        | inl a ↦ ap (λ (p : Plug). p.limits) a.1 ∙ r.plug_limits s h.0.own h.0.own_stands
        | inr a ↦ r.plug_limits t plug a.1
      ]) ∙ sym (ap (λ (x : Setup). x.limits) e);
      queue_limits = λ t q at. (elim (set_cases old.queues s t _ q (ap (λ l. slice_get l t) (sym h.0.queues_are) ∙ at)) [
        | inl a ↦ ap (λ (p : Queue). p.limits) a.1 ∙ r.queue_limits s h.0.to h.0.to_stands
        | inr a ↦ r.queue_limits t q a.1
      ]) ∙ sym (ap (λ (x : Setup). x.limits) e);
      come = come_more n (n + 1) _ _ (omega arith) (subst (λ p. HaveCome n p new.queues) (sym h.0.plugs_are) (subst (λ q. HaveCome n (set old.plugs s (flushed_plug h.0.own)) q) (sym h.0.queues_are) (come_flushed n old.plugs old.queues s h.0.own (flushed_plug h.0.own) h.0.to (with_requests h.0.to h.0.own.requests) h.0.own_stands h.0.to_stands refl refl r.come)));
    }
steps_ready policy n old (line.Drain hw) new h r = ready_kept n old new h.1 (kept_drained _ hw old.queues new.queues h.0.emptied) (steps_went policy old (line.Drain hw) new h).setup r
steps_ready policy n old (line.Issue hw tag) new h r = ready_kept n old new h.2 (kept_same old.queues new.queues h.3) (steps_went policy old (line.Issue hw tag) new h).setup r
steps_ready policy n old (line.Done tag) new h r = ready_kept n old new h.1 (kept_same old.queues new.queues h.2) (steps_went policy old (line.Done tag) new h).setup r
steps_ready policy n old (line.Back tag) new h r = ready_kept n old new h.2 (kept_same old.queues new.queues h.3) (steps_went policy old (line.Back tag) new h).setup r
steps_ready policy n old (line.Depth k) new h r = ready_kept n old new h.2 (kept_same old.queues new.queues h.3) (steps_went policy old (line.Depth k) new h).setup r
steps_ready policy n old line.Tick new h r = ready_kept n old new h.1 (kept_same old.queues new.queues h.2) (steps_went policy old line.Tick new h).setup r
steps_ready policy n old (line.Run k) new h r = ready_kept n old new h.1 (kept_rounds policy k old.queues new.queues old.core new.core h.0) (steps_went policy old (line.Run k) new h).setup r

-- before the first step
fresh : {X : Type 0} (n : ℕ) (x y : X) (s : ℕ) → slice_get (replicate n x) s ≡ Some y → y ≡ x
fresh n x y s at = all_at (λ z. z ≡ x) (replicate n x) s y (All-replicate (λ z. z ≡ x) n x refl) at

pub start_ready : (script : Scripted) (meaning : Meaning) (kept : List ℕ) (state : SimState) → state ≡ start_of script meaning kept → IsReady 0 state
start_ready script meaning kept state e = subst (IsReady 0) (sym e) (record {
  counts = length-replicate script.submitters _ ∙ sym (length-replicate script.submitters _);
  plug_limits = λ s plug at. ap (λ (p : Plug). p.limits) (fresh script.submitters _ plug s at);
  queue_limits = λ s q at. ap (λ (p : Queue). p.limits) (fresh script.submitters _ q s at);
  come = λ s plug q here there.
      let none : length (bios_in plug.requests) ≡ length (bios_in []) = ap (λ (z : Plug). length (bios_in z.requests)) (fresh script.submitters _ plug s here) in
      let zero_in : q.bios_in ≡ 0 = ap (λ (z : Queue). z.bios_in) (fresh script.submitters _ q s there) in
      omega (arith, none, zero_in);
})

pub start_stands : (script : Scripted) (meaning : Meaning) (kept : List ℕ) (state : SimState) → state ≡ start_of script meaning kept → Stands [] state.plugs state.queues state.core.events
start_stands script meaning kept state e = subst (λ (s : SimState). Stands [] s.plugs s.queues s.core.events) (sym e)
    (fresh_stands script.setup.limits script.soft_depth _ _ [] refl (All-replicate (λ (p : Plug). p ≡ record { limits = script.setup.limits; requests = [] }) script.submitters _ refl)
    (All-replicate (λ (q : Queue). q ≡ record { depth = script.soft_depth; limits = script.setup.limits; requests = []; bios_in = 0; bios_out = 0 }) script.submitters _ refl))

-- at a place of a script few enough bios have come
pub ready_more : (m n : ℕ) (state : SimState) → m ≤ n → IsReady m state → IsReady n state
ready_more m n state le r = record { counts = r.counts; plug_limits = r.plug_limits; queue_limits = r.queue_limits; come = come_more m n state.plugs state.queues le r.come }
