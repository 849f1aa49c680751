-- Runs of a script from starts that are equal.
use Rattle.std.proofs.Common.{ℕ, ◌≡◌, Result, Ok, Err, IfOk, List, subst}
use Rattle.blk_sched.specs.Meaning.{Meaning}
use Rattle.blk_schedulers.specs.declared.sched.SchedFault.{SchedFault}
use Rattle.blk_sched.specs.Policies.{Policy}
use Rattle.blk_text.specs.Script.{Scripted}
use Rattle.blk_trace.specs.Traces.{Traced}
use Rattle.blk_runs.specs.Runs.{RunsFrom}

-- what is known of a scheduler that was made
pub made_start : {X : Type 0} (r : Result X SchedFault) (x : X) (P : X → Type 0) → r ≡ Ok x → IfOk r P → P x
made_start (Ok y) x P e h = let same : y ≡ x = cc e in subst P same h
made_start (Err f) x P e h = cc e

-- a run from a start that is another's
pub from_start : (policy : Policy) (script : Scripted) (trace : Traced) (m n : Meaning) (k l : List ℕ) → m ≡ n → k ≡ l → RunsFrom policy script m k trace → RunsFrom policy script n l trace
from_start policy script trace m n k l e f h =
    let M : Meaning → Type 0 = λ x. RunsFrom policy script x k trace in
    let K : List ℕ → Type 0 = λ x. RunsFrom policy script n x trace in
    subst K f (subst M e h)
