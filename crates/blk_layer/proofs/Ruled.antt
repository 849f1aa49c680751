-- A core that goes on under the policy of its scheduler and the layer's map: what each call leads to.
use Rattle.std.proofs.Common.{◌≡◌, ℕ, zero, suc, ap, sym, subst, List, [], ◌∷◌, ◌++◌, refl, Result, Ok, Err, Option, Some, None, IfOk, IfErr, OnErr}
use Rattle.std.specs.Prelude.{Contains}
use Rattle.edd_commands.specs.declared.Command.{Command}
use Rattle.blk_bio.specs.Bios.{Bio}
use Rattle.blk_queues.specs.Queues.{Queue}
use Rattle.blk_trace.specs.Happened.{Happened}
use Rattle.blk_trace.specs.declared.event.Event.TheVariants.{Release, Join, Issue, Done, Back, Tick, Depth}
use Rattle.blk_core.specs.declared.calls.Placed.{Placed}
use Rattle.blk_core.specs.declared.calls.Placed.TheVariants.{New, Joined as JoinedTo}
use Rattle.blk_core.specs.State.{CoreState}
use Rattle.blk_sched.specs.Policies.{Policy}
use Rattle.blk_core.specs.Calls.{Places, Issues, Completes, RequeuesTag, Ends, SetsDepth}
use Rattle.blk_core.specs.Runs.{MakesCalls}
use Rattle.blk_core.specs.declared.refusals.IssueFault.{IssueFault}
use Rattle.blk_layer.proofs.Moving.{Stays, stays_either, issue_stays}
use Rattle.blk_layer.proofs.Mapped.{first_mapped, mapped_to, some_mapped}
use Rattle.blk_layer.specs.Runs.{IsMappedTo, MakesLayerCall, MakesLayerCalls}
use Rattle.blk_layer.specs.Submitting.{MovesSome, IsMoveAllAnswer, AreMapped, queue_of}
use Rattle.blk_layer.specs.declared.submitting.DrainFault.{DrainFault}
use Rattle.blk_core.specs.declared.trying.NoneIssued.{NoneIssued}
use Rattle.blk_core.specs.declared.trying.NoneIssued.TheVariants as none
use Rattle.blk_core.specs.Tries.{IsNoneIssued}

module _ (policy : Policy) (map queues : List ℕ) where
  -- one call more
  calls_on : (start : CoreState) (es : List Happened) (e : Happened) (middle end : CoreState)
      → MakesLayerCalls policy map queues start es middle → MakesLayerCall policy map queues middle e end → MakesLayerCalls policy map queues start (es ++ e ∷ []) end
  unfolding MakesLayerCalls
  calls_on start [] e middle end is step = (end, subst (λ (c : CoreState). MakesLayerCall policy map queues c e end) is step, refl)
  calls_on start (x ∷ es) e middle end (next, first, rest) step = (next, first, calls_on next es e middle end rest step)

  -- no call leads to where it began
  pub no_calls : (start c : CoreState) → c ≡ start → c.events ≡ [] → MakesLayerCalls policy map queues start c.events c
  unfolding MakesLayerCalls
  no_calls start c same none = subst (λ (es : List Happened). MakesLayerCalls policy map queues start es c) (sym none) same

  -- for whichever hardware queues the calls were, they follow the policy
  pub calls_run : (start : CoreState) (es : List Happened) (end : CoreState) → MakesLayerCalls policy map queues start es end → MakesCalls policy start es end
  unfolding MakesLayerCalls MakesCalls
  calls_run start [] end is = is
  calls_run start (e ∷ es) end (middle, first, rest) = (middle, first.call, calls_run middle es end rest)

  module _ (start : CoreState) where
    -- the calls so far lead from the start to the core
    abbrev pub Goes : CoreState → Type 0
    Goes c = MakesLayerCalls policy map queues start c.events c

    one : (old new : CoreState) (e : Happened) → MakesLayerCall policy map queues old e new → new.events ≡ old.events ++ e ∷ [] → Goes old → Goes new
    one old new e step added runs =
        subst (λ (es : List Happened). MakesLayerCalls policy map queues start es new) (sym added) (calls_on start old.events e old new runs step)

    -- nothing was done
    same : (old new : CoreState) → new ≡ old → Goes old → Goes new
    same old new e runs = subst (λ (c : CoreState). Goes c) (sym e) runs

    placed : (old new : CoreState) (bios : List Bio) (hw : ℕ) (p : Placed) → IsMappedTo map bios hw → Places policy.serves old bios hw p new → Goes old → Goes new
    placed old new bios hw (New id) to p runs = one old new (Release id bios) (record { call = record { hw = hw; places = p }; its = to }) p.2.1 runs
    placed old new bios hw (JoinedTo id side) to p runs = one old new (Join id bios) (record { call = (side, record { hw = hw; places = p }); its = to }) p.1.1 runs

    some_moved : (queue : Queue) (core : CoreState) (n : ℕ) (now : Queue) (after : CoreState)
        → AreMapped map queue.requests → MovesSome policy.serves queue core map n now after → Goes core → Goes after
    unfolding MovesSome
    some_moved queue core zero now after are m runs = same core after m.1 runs
    some_moved queue core (suc n) now after are (between, (before, some, last)) runs =
        placed before after last.first (queue_of map last.first) last.placed
        (mapped_to map last.first (first_mapped map between.requests last.first now.requests last.stood (some_mapped policy.serves map queue core n between before some are)))
        last.places (some_moved queue core n between before are some runs)

    pub all_moved : (queue : Queue) (core : CoreState) (now : Queue) (after : CoreState) (r : Result ℕ DrainFault)
        → AreMapped map queue.requests → IsMoveAllAnswer policy.serves queue core map now after r → Goes core → Goes after
    all_moved queue core now after (Ok moved) are m runs = some_moved queue core moved now after are m.0 runs
    all_moved queue core now after (Err fault) are m runs = some_moved queue core fault.moved now after are m.0 runs

    pub completed : (old : CoreState) (tag : ℕ) (new : CoreState) → Completes policy.told_done old tag new → Goes old → Goes new
    completed old tag new d runs = one old new (Done tag) (record { call = d; its = tt }) d.3.1 runs

    pub taken_back : (old : CoreState) (tag : ℕ) (new : CoreState) (id : ℕ) → RequeuesTag old tag id new → Goes old → Goes new
    taken_back old tag new id b runs = one old new (Back tag) (record { call = record { id = id; taken = b }; its = tt }) b.4.1 runs

    pub ended : (old new : CoreState) → Ends policy.told_tick old new → Goes old → Goes new
    ended old new e runs = one old new Tick (record { call = e; its = tt }) e.0.1 runs

    pub set : (old : CoreState) (n : ℕ) (new : CoreState) → SetsDepth old n new → Goes old → Goes new
    set old n new s runs = one old new (Depth n) (record { call = s; its = tt }) s.0.1 runs

    -- a call that succeeded, or changed nothing
    pub either : {A E : Type 0} (P : A → Type 0) (old new : CoreState) (r : Result A E)
        → ((a : A) → P a → Goes old → Goes new) → IfOk r P → OnErr r (new ≡ old) → Goes old → Goes new
    either P old new (Ok a) on ok err runs = on a ok runs
    either P old new (Err e) on ok err runs = same old new err runs

    module _ (old : CoreState) (hw tag : ℕ) (new : CoreState) (works : Contains queues hw) where
      issued : (found : Option Command) → Issues policy.serves policy.chooses old hw tag found new → Goes old → Goes new
      issued None i runs = same old new i.0 runs
      issued (Some command) i runs =
          one old new (Issue i.0.id tag) (record { call = record { hw = hw; command = command; named = ap (λ (c : Command). c.id) i.3; issues = i }; its = works }) i.2.1 runs

      none_tried : (why : NoneIssued) → IsNoneIssued policy.serves policy.chooses policy.told_tick old hw tag why new → Goes old → Goes new
      none_tried none.Nothing f runs = issued None f runs
      none_tried (none.Issue why) f runs = same old new f.2 runs
      none_tried (none.Tick why) f runs = same old new f.3 runs
      none_tried none.Ended f runs = ended old new f.2 runs

      pub tried : (r : Result Command NoneIssued)
          → IfOk r (λ command. Issues policy.serves policy.chooses old hw tag (Some command) new) → IfErr r (λ why. IsNoneIssued policy.serves policy.chooses policy.told_tick old hw tag why new)
          → Goes old → Goes new
      tried (Ok command) ok fault runs = issued (Some command) ok runs
      tried (Err why) ok fault runs = none_tried why fault runs

      -- what the core is after it was asked for a command
      pub asked : (r : Result (Option Command) IssueFault)
          → IfOk r (λ found. Issues policy.serves policy.chooses old hw tag found new) → OnErr r (new ≡ old) → Stays old new × (Goes old → Goes new)
      asked r ok err = (
        stays_either (λ found. Issues policy.serves policy.chooses old hw tag found new) old new r (issue_stays policy.serves policy.chooses old hw tag new) ok err,
        either (λ found. Issues policy.serves policy.chooses old hw tag found new) old new r issued ok err,
      )
