-- Which scheduler made the trace of a load.
use Rattle.std.proofs.Common.{◌≡◌, ◌∙◌, ℕ, sym, ap, subst, List, Result, Ok, Err, IfOk}
use Rattle.blk_sched.specs.Meaning.{Meaning}
use Rattle.blk_sched.specs.Policies.{Policy}
use Rattle.blk_trace.specs.Setups.{Setup}
use Rattle.blk_trace.specs.Traces.{Traced}
use Rattle.blk_core.specs.State.{CoreState, new_core}
use Rattle.blk_core.specs.Runs.{IsRunFrom, IsRunBy}
use Rattle.blk_schedulers.specs.declared.numbers.Load.{Load}
use Rattle.blk_schedulers.specs.declared.sched.SchedFault.{SchedFault}
use Rattle.blk_schedulers.specs.Settles.{load_setup}

-- the layer's core began as the scheduler did, and the trace has its setup
pub run_by : (policy : Policy) (start : CoreState) (setup : Setup) (m : Meaning) (k : List ℕ) (l : Load) (trace : Traced)
    → start ≡ new_core setup m k → setup ≡ load_setup l → trace.setup ≡ load_setup l → IsRunFrom policy start trace.events → IsRunBy policy m k trace
run_by policy start setup m k l trace at mine its runs =
    subst (λ (c : CoreState). IsRunFrom policy c trace.events) (at ∙ ap (λ (s : Setup). new_core s m k) (mine ∙ sym its)) runs

-- the same where the scheduler means and keeps at first what its settings say
pub run_under : (policy : Policy) (m n : Meaning) (k j : List ℕ) (trace : Traced) → m ≡ n → k ≡ j
    → IsRunBy policy m k trace → IsRunBy policy n j trace
run_under policy m n k j trace e f runs =
    subst (λ (x : List ℕ). IsRunBy policy n x trace) f (subst (λ (x : Meaning). IsRunBy policy x k trace) e runs)

-- what is known of a scheduler that was made
pub made_start : {X : Type 0} (r : Result X SchedFault) (x : X) (P : X → Type 0) → r ≡ Ok x → IfOk r P → P x
made_start (Ok y) x P e h = let same : y ≡ x = cc e in subst P same h
made_start (Err f) x P e h = cc e
