-- A core of which each round that ended was full: what each call leads to.
use Rattle.std.proofs.Common.{◌≡◌, ◌≤◌, ℕ, zero, suc, sym, subst, List, [], ◌∷◌, ◌++◌, Result, Ok, Err, Option, Some, None, IfOk, IfErr, OnErr, inl, inr}
use Rattle.edd_commands.specs.declared.Command.{Command}
use Rattle.blk_bio.specs.Bios.{Bio}
use Rattle.blk_queues.specs.Queues.{Queue}
use Rattle.blk_trace.specs.Happened.{Happened}
use Rattle.blk_trace.specs.declared.event.Event.TheVariants.{Release, Join, Issue, Done, Back, Tick, Depth}
use Rattle.blk_trace.specs.Setups.{Setup}
use Rattle.blk_trace.specs.Depths.{depth_now}
use Rattle.blk_trace.proofs.Places.{split, before, before_last}
use Rattle.blk_sched.specs.Policies.{Policy}
use Rattle.blk_core.specs.declared.calls.Placed.{Placed}
use Rattle.blk_core.specs.declared.calls.Placed.TheVariants.{New, Joined as JoinedTo}
use Rattle.blk_core.specs.declared.trying.NoneIssued.{NoneIssued}
use Rattle.blk_core.specs.declared.trying.NoneIssued.TheVariants as none
use Rattle.blk_core.specs.State.{CoreState}
use Rattle.blk_core.specs.Calls.{AddsEvent, Places, Issues, Completes, RequeuesTag, SetsDepth}
use Rattle.blk_core.specs.Tries.{issued_now, IsFull, IsNoneIssued}
use Rattle.blk_layer.specs.Rounds.{EndsFullRounds}
use Rattle.blk_layer.specs.Submitting.{MovesSome, IsMoveAllAnswer, queue_of}
use Rattle.blk_layer.specs.declared.submitting.DrainFault.{DrainFault}

-- so far each was full
abbrev pub AllFull : CoreState → Type 0
AllFull c = EndsFullRounds c.setup c.events

-- one event more
more : (setup : Setup) (es : List Happened) (e : Happened) → EndsFullRounds setup es → (e ≡ Tick → depth_now setup es ≤ issued_now es) → EndsFullRounds setup (es ++ e ∷ [])
more setup es e full here k at =
    elim (split es e k Tick at) [
      | inl old ↦ subst (λ l. depth_now setup l ≤ issued_now l) (sym (before es (e ∷ []) k Tick old)) (full k old)
      | inr new ↦ subst (λ l. depth_now setup l ≤ issued_now l) (sym (before_last es e k new.0)) (here new.1)
    ]

added : (old : CoreState) (e : Happened) (new : CoreState) → AddsEvent old e new → (e ≡ Tick → IsFull old) → AllFull old → AllFull new
added old e new a here full =
    subst (λ s. EndsFullRounds s new.events) (sym a.0) (subst (λ l. EndsFullRounds old.setup l) (sym a.1) (more old.setup old.events e full here))

-- nothing was done
same : (old new : CoreState) → new ≡ old → AllFull old → AllFull new
same old new e full = subst AllFull (sym e) full

-- before the first event
pub none_ended : (setup : Setup) (es : List Happened) → es ≡ [] → EndsFullRounds setup es
none_ended setup es e = subst (λ l. EndsFullRounds setup l) (sym e) (λ k at. absurd (cc))

placed : (policy : Policy) (old new : CoreState) (bios : List Bio) (hw : ℕ) (p : Placed) → Places policy.serves old bios hw p new → AllFull old → AllFull new
placed policy old new bios hw (New id) p full = added old (Release id bios) new p.2 (λ is. absurd (cc)) full
placed policy old new bios hw (JoinedTo id side) p full = added old (Join id bios) new p.1 (λ is. absurd (cc)) full

some_moved : (policy : Policy) (queue : Queue) (core : CoreState) (map : List ℕ) (n : ℕ) (now : Queue) (after : CoreState) → MovesSome policy.serves queue core map n now after → AllFull core → AllFull after
unfolding MovesSome
some_moved policy queue core map zero now after m full = same core after m.1 full
some_moved policy queue core map (suc n) now after (between, (before, some, last)) full =
    placed policy before after last.first (queue_of map last.first) last.placed last.places (some_moved policy queue core map n between before some full)

pub all_moved_full : (policy : Policy) (queue : Queue) (core : CoreState) (map : List ℕ) (now : Queue) (after : CoreState) (r : Result ℕ DrainFault) → IsMoveAllAnswer policy.serves queue core map now after r → AllFull core → AllFull after
all_moved_full policy queue core map now after (Ok moved) m full = some_moved policy queue core map moved now after m.0 full
all_moved_full policy queue core map now after (Err fault) m full = some_moved policy queue core map fault.moved now after m.0 full

pub issued_full : (policy : Policy) (old : CoreState) (hw tag : ℕ) (new : CoreState) (found : Option Command) → Issues policy.serves policy.chooses old hw tag found new → AllFull old → AllFull new
issued_full policy old hw tag new None i full = same old new i.0 full
issued_full policy old hw tag new (Some command) i full = added old (Issue i.0.id tag) new i.2 (λ is. absurd (cc)) full

pub completed_full : (policy : Policy) (old : CoreState) (tag : ℕ) (new : CoreState) → Completes policy.told_done old tag new → AllFull old → AllFull new
completed_full policy old tag new d full = added old (Done tag) new d.3 (λ is. absurd (cc)) full

pub back_full : (old : CoreState) (tag : ℕ) (new : CoreState) (id : ℕ) → RequeuesTag old tag id new → AllFull old → AllFull new
back_full old tag new id b full = added old (Back tag) new b.4 (λ is. absurd (cc)) full

pub depth_full : (old : CoreState) (n : ℕ) (new : CoreState) → SetsDepth old n new → AllFull old → AllFull new
depth_full old n new s full = added old (Depth n) new s.0 (λ is. absurd (cc)) full

-- a call that succeeded, or changed nothing
pub either_full : {A E : Type 0} (P : A → Type 0) (old new : CoreState) (r : Result A E) → ((a : A) → P a → AllFull old → AllFull new) → IfOk r P → OnErr r (new ≡ old) → AllFull old → AllFull new
either_full P old new (Ok a) on ok err full = on a ok full
either_full P old new (Err e) on ok err full = same old new err full

-- a try ends a round that is full alone
none_tried : (policy : Policy) (old : CoreState) (hw tag : ℕ) (why : NoneIssued) (new : CoreState) → IsNoneIssued policy.serves policy.chooses policy.told_tick old hw tag why new → AllFull old → AllFull new
none_tried policy old hw tag none.Nothing new f full = issued_full policy old hw tag new None f full
none_tried policy old hw tag (none.Issue why) new f full = same old new f.2 full
none_tried policy old hw tag (none.Tick why) new f full = same old new f.3 full
none_tried policy old hw tag none.Ended new f full = added old Tick new f.2.0 (λ is. f.1) full

pub tried_full : (policy : Policy) (old : CoreState) (hw tag : ℕ) (new : CoreState) (r : Result Command NoneIssued)
    → IfOk r (λ command. Issues policy.serves policy.chooses old hw tag (Some command) new) → IfErr r (λ why. IsNoneIssued policy.serves policy.chooses policy.told_tick old hw tag why new) → AllFull old → AllFull new
tried_full policy old hw tag new (Ok command) ok fault full = issued_full policy old hw tag new (Some command) ok full
tried_full policy old hw tag new (Err why) ok fault full = none_tried policy old hw tag why new fault full
