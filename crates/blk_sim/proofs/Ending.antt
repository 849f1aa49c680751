-- The loop over a script's lines, from before the first to after the last.
use Rattle.std.proofs.Common.{◌≡◌, ◌+◌, ◌<◌, ◌≤◌, ◌∙◌, ◌++◌, ◌∷◌, ℕ, List, [], Some, length, take, get_or, refl, sym, ap, subst}
use Rattle.std.specs.Prelude.{slice_get, sum_by}
use Rattle.std.proofs.lemmas.List.{take_all}
use Rattle.std.proofs.lemmas.Option.{slice_get_read}
use Rattle.blk_trace.specs.Happened.{Happened}
use Rattle.blk_trace.specs.Events.{round_of}
use Rattle.blk_text.specs.Script.{LineFits}
use Rattle.blk_text.specs.declared.script.Line.{Line}
use Rattle.blk_sim.specs.Simulation.{ticks_of}
use Rattle.blk_sim.specs.State.{SimState}
use Rattle.blk_sim.specs.Runs.{Steps, Runs}
use Rattle.blk_sched.specs.Policies.{Policy}
use Rattle.blk_sim.proofs.Standing.{take_more}

-- before the first line no round has passed
pub rounds_nil : (events : List Happened) → events ≡ [] → round_of events ≡ sum_by ticks_of []
unfolding round_of
rounds_nil events e = ap round_of e

pub fits_along : (hw hw' n n' : ℕ) (l : Line) → hw' ≡ hw → n' ≡ n → LineFits hw n l → LineFits hw' n' l
fits_along hw hw' n n' l a b h = subst (λ k. LineFits k n' l) (sym a) (subst (λ k. LineFits hw k l) (sym b) h)

-- the element that a loop reads
pub read_at : {X : Type 0} (xs ys : List X) (k : ℕ) (x : X) → ys ≡ xs → k < length ys → x ≡ get_or ys k x → slice_get xs k ≡ Some x
read_at xs ys k x e lt is = ap (λ l. slice_get l k) (sym e) ∙ slice_get_read ys (length ys) k x refl lt is

-- what was taken at the loop's end
pub whole : {X : Type 0} (xs ys : List X) (k : ℕ) → ys ≡ xs → length ys ≤ k → take k xs ≡ xs
whole xs ys k e le = let h : length xs ≤ k = subst (λ l. length l ≤ k) e le in take_all k xs h

-- a run of no step, and of one step more
pub runs_none : (policy : Policy) (old new : SimState) → new ≡ old → Runs policy [] old new
unfolding Runs
runs_none policy old new e = e

runs_push : (policy : Policy) (ls : List Line) (l : Line) (s m t : SimState) → Runs policy ls s m → Steps policy m l t → Runs policy (ls ++ l ∷ []) s t
unfolding Runs
runs_push policy [] l s m t e h = (t, subst (λ x. Steps policy x l t) e h, refl)
runs_push policy (k ∷ ls) l s m t h g = (h.0, h.1, runs_push policy ls l h.0 m t h.2 g)

pub runs_more : (policy : Policy) (k : ℕ) (lines : List Line) (l : Line) (s m t : SimState) → slice_get lines k ≡ Some l → Runs policy (take k lines) s m → Steps policy m l t → Runs policy (take (k + 1) lines) s t
runs_more policy k lines l s m t at h g = subst (λ ls. Runs policy ls s t) (sym (take_more lines k l at)) (runs_push policy (take k lines) l s m t h g)
