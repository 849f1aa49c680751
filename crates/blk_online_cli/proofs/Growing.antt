-- What a simulation does only adds events, and so what it leaves was legal before.
use Rattle.std.proofs.Common.{◌≡◌, ◌++◌, ℕ, zero, suc, List, [], ◌∷◌, length, Option, Some, None, refl, sym, ◌∙◌, ap, subst, inl, inr, append_assoc, append-nil}
use Rattle.edd_commands.specs.declared.Command.{Command}
use Rattle.blk_bio.specs.Bios.{Bio}
use Rattle.blk_queues.specs.Queues.{Queue}
use Rattle.blk_trace.specs.Happened.{Happened}
use Rattle.blk_trace.specs.Setups.{Setup}
use Rattle.blk_trace.specs.Legal.{IsLegalTrace}
use Rattle.blk_trace.proofs.Reading.{prefix_legal}
use Rattle.blk_core.specs.declared.calls.Placed.{Placed}
use Rattle.blk_core.specs.declared.calls.Placed.TheVariants.{New, Joined as JoinedTo}
use Rattle.blk_core.specs.State.{CoreState}
use Rattle.blk_core.specs.Calls.{Places, Completes, Ends}
use Rattle.blk_text.specs.declared.script.Line.{Line}
use Rattle.blk_text.specs.declared.script.Line.TheVariants as line
use Rattle.blk_sched.specs.Policies.{Policy}
use Rattle.blk_sim.specs.Moves.{EnterInTurn, DrainInTurn}
use Rattle.blk_sim.specs.Rounds.{AsksQueue, GivesCommand, IssueInTurn, CompleteInTurn, Works, Rounds}
use Rattle.blk_sim.specs.State.{SimState}
use Rattle.blk_sim.specs.Runs.{Steps, Runs}

-- more events, or as many
abbrev pub Grows : CoreState → CoreState → Type 0
Grows old new = (rest : List Happened) × (new.events ≡ old.events ++ rest)

pub grows_none : (old new : CoreState) → new ≡ old → Grows old new
grows_none old new same = ([], ap (λ (c : CoreState). c.events) same ∙ sym (append-nil old.events))

pub grows_both : (one two three : CoreState) → Grows one two → Grows two three → Grows one three
grows_both one two three first second =
    (first.0 ++ second.0, second.1 ∙ ap (λ l. l ++ second.0) first.1 ∙ append_assoc one.events first.0 second.0)

pub legal_before : (setup : Setup) (old new : CoreState) → Grows old new → IsLegalTrace setup new.events → IsLegalTrace setup old.events
legal_before setup old new more legal = prefix_legal setup (length more.0) old.events more.0 refl (subst (λ l. IsLegalTrace setup l) more.1 legal)

module _ (policy : Policy) where
  grows_placed : (old new : CoreState) (bios : List Bio) (hw : ℕ) (placed : Placed) → Places policy.serves old bios hw placed new → Grows old new
  grows_placed old new bios hw (New id) p = (_, p.2.1)
  grows_placed old new bios hw (JoinedTo id side) p = (_, p.1.1)

  pub grows_entered : (hw : ℕ) (requests : List (List Bio)) (old new : CoreState) → EnterInTurn policy hw requests old new → Grows old new
  unfolding EnterInTurn
  grows_entered hw [] old new p = grows_none old new p
  grows_entered hw (bios ∷ rest) old new p = grows_both old p.0 new (grows_placed old p.0 bios hw p.1.0 p.1.2) (grows_entered hw rest p.0 new p.2)

  pub grows_drained : (count n : ℕ) (queues new_queues : List Queue) (old new : CoreState) → DrainInTurn policy count n queues old new_queues new → Grows old new
  unfolding DrainInTurn
  grows_drained count zero queues new_queues old new p = grows_none old new p.1
  grows_drained count (suc n) queues new_queues old new p = grows_both old p.1 new (grows_drained count n queues p.0 old p.1 p.2) (grows_entered n _ p.1 new p.3.entered)

  pub grows_asked : (hw tag : ℕ) (found : Option Command) (old new : CoreState) → AsksQueue policy hw tag old found new → Grows old new
  grows_asked hw tag None old new p = grows_none old new p.1.0
  grows_asked hw tag (Some command) old new p = (_, p.1.2.1)

  pub grows_given : (tag : ℕ) (old new : CoreState) → GivesCommand policy tag old new → Grows old new
  grows_given tag old new p = grows_asked _ tag (Some p.command) old new p.gave

  pub grows_issued : (n : ℕ) (old new : CoreState) → IssueInTurn policy n old new → Grows old new
  unfolding IssueInTurn
  grows_issued zero old new p = grows_none old new p
  grows_issued (suc n) old new p =
      grows_both old p.0 new (grows_issued n old p.0 p.1)
      (elim p.2 [ inl used ↦ grows_none p.0 new used.1 | inr gave ↦ grows_given n p.0 new gave ])

  grows_done : (tag : ℕ) (old new : CoreState) → Completes policy.told_done old tag new → Grows old new
  grows_done tag old new p = (_, p.3.1)

  pub grows_completed : (n : ℕ) (old new : CoreState) → CompleteInTurn policy n old new → Grows old new
  unfolding CompleteInTurn
  grows_completed zero old new p = grows_none old new p
  grows_completed (suc n) old new p =
      grows_both old p.0 new (grows_completed n old p.0 p.1)
      (elim p.2 [ inl ended ↦ grows_done n p.0 new ended | inr none ↦ grows_none p.0 new none.1 ])

  pub grows_ended : (old new : CoreState) → Ends policy.told_tick old new → Grows old new
  grows_ended old new p = (_, p.0.1)

  pub grows_worked : (old new : CoreState) → Works policy old new → Grows old new
  grows_worked old new p =
      grows_both old p.busy new (grows_issued p.issues.tags old p.busy p.issues.issued)
      (grows_both p.busy p.idle new (grows_completed p.busy.setup.depth p.busy p.idle p.completes) (grows_ended p.idle new p.ticks.1))

  pub grows_rounds : (n : ℕ) (queues new_queues : List Queue) (old new : CoreState) → Rounds policy n queues old new_queues new → Grows old new
  unfolding Rounds
  grows_rounds zero queues new_queues old new p = grows_none old new p.1
  grows_rounds (suc n) queues new_queues old new p =
      grows_both old p.1 new (grows_rounds n queues p.0 old p.1 p.2)
      (grows_both p.1 p.3.filled new (grows_drained _ _ p.0 new_queues p.1 p.3.filled p.3.drains) (grows_worked p.3.filled new p.3.works))

  pub grows_stepped : (old new : SimState) (l : Line) → Steps policy old l new → Grows old.core new.core
  grows_stepped old new (line.Bio b) p = grows_none old.core new.core p.2
  grows_stepped old new (line.Flush s) p = grows_none old.core new.core p.1
  grows_stepped old new (line.Drain hw) p = grows_entered hw _ old.core new.core p.0.entered
  grows_stepped old new (line.Issue hw tag) p = grows_asked hw tag p.0 old.core new.core p.1
  grows_stepped old new (line.Done tag) p = grows_done tag old.core new.core p.0
  grows_stepped old new (line.Back tag) p = (_, p.1.4.1)
  grows_stepped old new (line.Depth n) p = (_, p.1.0.1)
  grows_stepped old new line.Tick p = grows_ended old.core new.core p.0.1
  grows_stepped old new (line.Run n) p = grows_rounds n old.queues new.queues old.core new.core p.0

  pub grows_run : (ls : List Line) (old new : SimState) → Runs policy ls old new → Grows old.core new.core
  unfolding Runs
  grows_run [] old new p = grows_none old.core new.core (ap (λ (s : SimState). s.core) p)
  grows_run (l ∷ ls) old new p = grows_both old.core p.0.core new.core (grows_stepped old p.0 l p.1) (grows_run ls p.0 new p.2)
