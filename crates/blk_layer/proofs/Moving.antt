-- What a move leaves of the core.
use Rattle.std.proofs.Common.{◌≡◌, ◌∙◌, ◌+◌, ℕ, ap, refl, arith, cond, Bool, true, false, List, [], ◌∷◌, ◌++◌, Result, Ok, Err, Option, Some, None, IfOk, IfErr, OnErr}
use Rattle.blk_bio.specs.Bios.{Bio}
use Rattle.blk_queues.specs.Queues.{Queue}
use Rattle.blk_sched.specs.Meaning.{Waiting}
use Rattle.blk_trace.specs.Happened.{Happened}
use Rattle.blk_trace.specs.declared.event.Event.TheVariants.{Release, Join, Issue, Done, Back, Tick, Depth}
use Rattle.blk_trace.proofs.More.{more_of}
use Rattle.blk_core.specs.declared.calls.Placed.{Placed}
use Rattle.blk_core.specs.declared.calls.Placed.TheVariants.{New, Joined as JoinedTo}
use Rattle.blk_core.specs.declared.refusals.CoreFault.{CoreFault}
use Rattle.blk_core.specs.State.{CoreState}
use Rattle.edd_commands.specs.declared.Command.{Command}
use Rattle.blk_sched.specs.Policies.{Choice, OfDone, OfTick}
use Rattle.blk_core.specs.Calls.{Places, AddsEvent, Issues, Completes, RequeuesTag, Ends, SetsDepth}
use Rattle.blk_layer.specs.Closing.{done_count, is_done}
use Rattle.blk_layer.specs.Submitting.{IsMoveAnswer, queue_of}
use Rattle.blk_core.specs.declared.trying.NoneIssued.{NoneIssued}
use Rattle.blk_core.specs.declared.trying.NoneIssued.TheVariants as none
use Rattle.blk_core.specs.Tries.{IsNoneIssued}

-- one event more that is no Done
pub not_done : (es : List Happened) (e : Happened) → is_done e ≡ false → done_count (es ++ e ∷ []) ≡ done_count es
unfolding done_count
not_done es e other = more_of is_done es e ∙ ap (λ b. done_count es + cond b 1 0) other ∙ omega arith

-- what stays of a core: what it is set up for, and how many Dones it has
pub record Stays (old new : CoreState) : Type 0 where
  pub setup : new.setup ≡ old.setup
  pub dones : done_count new.events ≡ done_count old.events

placed_stays : (serves : ℕ → Waiting → Bool) (old : CoreState) (bios : List Bio) (hw : ℕ) (placed : Placed) (new : CoreState) → Places serves old bios hw placed new → Stays old new
placed_stays serves old bios hw (New id) new p = record { setup = p.2.0; dones = ap done_count p.2.1 ∙ not_done old.events (Release id bios) refl }
placed_stays serves old bios hw (JoinedTo id side) new p = record { setup = p.1.0; dones = ap done_count p.1.1 ∙ not_done old.events (Join id bios) refl }

pub same_stays : (old new : CoreState) → new ≡ old → Stays old new
same_stays old new e = record { setup = ap (λ (c : CoreState). c.setup) e; dones = ap (λ (c : CoreState). done_count c.events) e }

pub move_stays : (serves : ℕ → Waiting → Bool) (queue : Queue) (core : CoreState) (map : List ℕ) (new_queue : Queue) (new_core : CoreState) (r : Result Bool CoreFault)
    → IsMoveAnswer serves queue core map new_queue new_core r → Stays core new_core
move_stays serves queue core map new_queue new_core (Ok true) m = placed_stays serves core m.first (queue_of map m.first) m.placed new_core m.places
move_stays serves queue core map new_queue new_core (Ok false) m = same_stays core new_core m.2
move_stays serves queue core map new_queue new_core (Err why) m = same_stays core new_core m.2

-- one event more that is no Done
pub added_stays : (old : CoreState) (e : Happened) (new : CoreState) → is_done e ≡ false → AddsEvent old e new → Stays old new
added_stays old e new other added = record { setup = added.0; dones = ap done_count added.1 ∙ not_done old.events e other }

-- a call that succeeded, or changed nothing
pub stays_either : {A E : Type 0} (P : A → Type 0) (old new : CoreState) (r : Result A E) → ((a : A) → P a → Stays old new) → IfOk r P → OnErr r (new ≡ old) → Stays old new
stays_either P old new (Ok a) on ok err = on a ok
stays_either P old new (Err e) on ok err = same_stays old new err

pub issue_stays : (serves : ℕ → Waiting → Bool) (chooses : Choice) (old : CoreState) (hw tag : ℕ) (new : CoreState) (found : Option Command)
    → Issues serves chooses old hw tag found new → Stays old new
issue_stays serves chooses old hw tag new None i = same_stays old new i.0
issue_stays serves chooses old hw tag new (Some command) i = added_stays old (Issue i.0.id tag) new refl i.2

-- a completion is one Done more
one_done : (es : List Happened) (tag : ℕ) → done_count (es ++ Done tag ∷ []) ≡ done_count es + 1
unfolding done_count
one_done es tag = more_of is_done es (Done tag) ∙ omega arith

pub done_more : (told : OfDone) (old : CoreState) (tag : ℕ) (new : CoreState) → Completes told old tag new → done_count new.events ≡ done_count old.events + 1
done_more told old tag new d = ap done_count d.3.1 ∙ one_done old.events tag

pub back_stays : (old : CoreState) (tag : ℕ) (new : CoreState) (id : ℕ) → RequeuesTag old tag id new → Stays old new
back_stays old tag new id b = added_stays old (Back tag) new refl b.4

pub tick_stays : (told : OfTick) (old new : CoreState) → Ends told old new → Stays old new
tick_stays told old new e = added_stays old Tick new refl e.0

pub depth_stays : (old : CoreState) (n : ℕ) (new : CoreState) → SetsDepth old n new → Stays old new
depth_stays old n new s = added_stays old (Depth n) new refl s.0

-- a try that ends only a round that is full
none_stays : (serves : ℕ → Waiting → Bool) (chooses : Choice) (told : OfTick) (old : CoreState) (hw tag : ℕ) (why : NoneIssued) (new : CoreState)
    → IsNoneIssued serves chooses told old hw tag why new → Stays old new
none_stays serves chooses told old hw tag none.Nothing new f = issue_stays serves chooses old hw tag new None f
none_stays serves chooses told old hw tag (none.Issue why) new f = same_stays old new f.2
none_stays serves chooses told old hw tag (none.Tick why) new f = same_stays old new f.3
none_stays serves chooses told old hw tag none.Ended new f = tick_stays told old new f.2

pub tried_stays : (serves : ℕ → Waiting → Bool) (chooses : Choice) (told : OfTick) (old : CoreState) (hw tag : ℕ) (new : CoreState) (r : Result Command NoneIssued)
    → IfOk r (λ command. Issues serves chooses old hw tag (Some command) new) → IfErr r (λ why. IsNoneIssued serves chooses told old hw tag why new) → Stays old new
tried_stays serves chooses told old hw tag new (Ok command) issued fault = issue_stays serves chooses old hw tag new (Some command) issued
tried_stays serves chooses told old hw tag new (Err why) issued fault = none_stays serves chooses told old hw tag why new fault
